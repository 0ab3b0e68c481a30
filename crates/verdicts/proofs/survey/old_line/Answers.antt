use Rattle.std.proofs.Common.{inl, inr}
use Rattle.verdicts.specs.Surveys.{OldLine}
use Rattle.verdicts.proofs.survey.old_line.Goals as goal
use Rattle.verdicts.proofs.survey.old_line.Goals.{in-Some, in-None}

pub returns : goal.returns
unfolding OldLine
returns c =
    let name = c.as_str-name.ensures.value in
    let words = c.as_slice-words.ensures.value in
    elim c.match-get.branch [
      | in-Some w ↦ (name, inl (w.in-Some.other.now, rw name at w.in-Some.ensures, rw (w.outcome-is, ← words, ← w.as_slice.ensures.value) w.judged-outcome.ensures))
      | in-None w ↦ (name, inr (rw name at w.in-None.ensures, rw (w.outcome-is, ← words) w.sole-outcome.ensures))
    ]
