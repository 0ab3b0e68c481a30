use Rattle.trial.proofs.Marking.{MarkedTo}
use Rattle.trial.proofs.guard.Before.of.Given as goal
use Rattle.std.proofs.Common.{◌≡◌, length}

abbrev pub invariant-loop-i : goal.invariant-loop-i
invariant-loop-i l = MarkedTo l.table l.bits l.i × (length l.bits ≡ 32)
