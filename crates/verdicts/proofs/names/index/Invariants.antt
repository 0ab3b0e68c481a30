use Rattle.verdicts.specs.Names.{IndexesBelow}
use Rattle.verdicts.proofs.names.index.Given as goal

abbrev pub invariant-loop-i : goal.invariant-loop-i
invariant-loop-i l = IndexesBelow l.entries l.i l.places
