use Rattle.std.proofs.Common.{◌+◌, not, take, vec_items, sym, ap, ◌∙◌, subst}
use Rattle.tables.specs.Rules.{name_of}
use Rattle.verdicts.specs.Names.{FoundAs}
use Rattle.verdicts.specs.Surveys.{WithNew}
use Rattle.verdicts.proofs.Surveying.{found-step, new-step}
use Rattle.verdicts.proofs.survey.with_new_lines.Goals as goal
use Rattle.verdicts.proofs.survey.with_new_lines.Goals.{then-is_none+in_ok-push, else-is_none}

pub loop-entry-preserved : goal.loop-entry-preserved
loop-entry-preserved c =
    let old = c.args.old.now in
    let new = c.args.new.now in
    let i = c.loop-entry.entry-index in
    let e = c.entry-item.result in
    let found : FoundAs old (name_of e) c.get.result = rw (← c.as_str-name.ensures.value) c.get.ensures in
    elim c.if-is_none.branch [
      | then-is_none+in_ok-push w ↦
          subst (λ v. WithNew old (take (i + 1) new) (vec_items c.args.lines) (vec_items v)) (sym w.lines-is)
          (new-step old new i (vec_items c.args.lines) (vec_items c.loop-entry.lines) (vec_items w.push.new.self) e w.new_line.result c.get.result c.loop-entry-test.true c.entry-item.is c.loop-entry.invariant found (c.is_none.ensures ∙ ap not w.if-is_none.true) w.new_line.ensures w.in_ok-push.ensures.items)
      | else-is_none w ↦
          subst (λ v. WithNew old (take (i + 1) new) (vec_items c.args.lines) (vec_items v)) (sym w.lines-is)
          (found-step old new i (vec_items c.args.lines) (vec_items c.loop-entry.lines) e c.get.result c.loop-entry-test.true c.entry-item.is c.loop-entry.invariant found (c.is_none.ensures ∙ ap not w.if-is_none.false))
    ]
