use Rattle.std.proofs.Common.{take, vec_items}
use Rattle.verdicts.specs.Surveys.{WithNew}
use Rattle.verdicts.proofs.survey.with_new_lines.Given as goal

abbrev pub invariant-loop-entry : goal.invariant-loop-entry
invariant-loop-entry l = WithNew l.old (take l.entry-index l.new) (vec_items l.initial.lines) (vec_items l.lines)
