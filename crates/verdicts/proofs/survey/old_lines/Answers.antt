use Rattle.std.proofs.Common.{◌≡◌, ℕ, ◌<◌, IfOk, length, get_or, arith}
use Rattle.std.proofs.lemmas.Grind.{common_steps}
use Rattle.tables.specs.declared.line.Entry.{Entry}
use Rattle.verdicts.specs.declared.survey.Line.{Line}
use Rattle.verdicts.specs.Surveys.{OldLine}
use Rattle.verdicts.proofs.Surveying.{lined}
use Rattle.verdicts.proofs.survey.old_lines.Goals as goal

pub returns : goal.returns
returns c =
    let old = c.args.old.now in
    let many : IfOk c.collect.result (λ ls. length ls.items ≡ length old) = grind (arith, common_steps) in
    let each : IfOk c.collect.result (λ ls. (k : ℕ) (e : Entry) (l : Line) → k < length old → OldLine c.args.new.now (get_or old k e) (get_or ls.items k l)) = grind (arith, common_steps) in
    lined _ _ _ many each
