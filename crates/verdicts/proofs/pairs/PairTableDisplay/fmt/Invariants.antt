use denote.Text.{Utf8}
use denote.Shadow.{shadow}
use Rattle.verdicts.proofs.pairs.PairTableDisplay.fmt.Given as goal

abbrev pub invariant-loop-local : goal.invariant-loop-local
invariant-loop-local g l =
    (goal.iterator-loop-local g).can_next l.local-iterator ×
    (goal.iterator-loop-local g).is_finite l.local-iterator ×
    shadow (Utf8 l.lead)
