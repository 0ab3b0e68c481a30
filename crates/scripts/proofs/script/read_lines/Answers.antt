use Rattle.std.proofs.Common.{◌≡◌, ◌+◌, false, ◌⊎◌, ◌∷◌, is_ok, Some, None, vec_items, sym, ap, ◌∙◌, subst}
use Rattle.std.specs.Iterator.Adapters.{enumerate_count}
use Rattle.std.proofs.ResultArms.{chosen}
use Rattle.tables.specs.Lines.{content, skipped}
use Rattle.tables.proofs.Rows.{AtFeeds, next_row, rows_left}
use Rattle.scripts.specs.Calls.{CallAs, told, told_all}
use Rattle.scripts.specs.Headings.{HeadingAs}
use Rattle.scripts.specs.Readings.{line_of, NoneIs, Sole}
use Rattle.scripts.specs.Scripts.{limit_of}
use Rattle.scripts.specs.declared.fault.ScriptFault.TheVariants.{Memory}
use Rattle.scripts.proofs.Rows.{Sofar, again-told, call-stops, heading-line, heading-stops, lines-handed, skip-line}
use Rattle.scripts.proofs.script.read_lines.Goals as goal
use Rattle.scripts.proofs.script.read_lines.Goals.{In-Some, Else-is_skipped, In-None-headed, In-Some-headed}

-- the invariant where the next line is in hand
at_row : (c : In-Some) → Sofar c.args.text.now (c.in-Some.row.now ∷ rows_left c.next.new.self) c.in-Some.i c.loop-i.headed (told_all (vec_items c.loop-i.calls))
at_row c =
    let (_, more, place, _) = next_row c.loop-i.i-iterator c.next.new.self c.in-Some.i c.in-Some.row c.loop-i.invariant.2 c.in-Some.ensures.steps in
    subst (λ n. Sofar c.args.text.now (c.in-Some.row.now ∷ rows_left c.next.new.self) n c.loop-i.headed (told_all (vec_items c.loop-i.calls))) place
    (subst (λ ls. Sofar c.args.text.now ls (enumerate_count c.loop-i.i-iterator) c.loop-i.headed (told_all (vec_items c.loop-i.calls))) more c.loop-i.invariant.3)

feeds : (c : In-Some) → AtFeeds c.next.new.self
feeds c = (next_row c.loop-i.i-iterator c.next.new.self c.in-Some.i c.in-Some.row c.loop-i.invariant.2 c.in-Some.ensures.steps).0

counted : (c : In-Some) → enumerate_count c.next.new.self ≡ c.in-Some.i + 1
counted c = (next_row c.loop-i.i-iterator c.next.new.self c.in-Some.i c.in-Some.row c.loop-i.invariant.2 c.in-Some.ensures.steps).3

pub loop-i-preserved-then-is_skipped : goal.loop-i-preserved-then-is_skipped
loop-i-preserved-then-is_skipped c =
    let at = goal.at.loop-i-preserved-then-is_skipped c in
    let skip = sym (ap skipped c.before_return-content.ensures) ∙ sym c.is_skipped.ensures ∙ c.if-is_skipped.true in (
      c.in-Some.ensures.goes.keeps,
      tt,
      feeds at.In-Some,
      subst (λ n. Sofar c.args.text.now (rows_left c.next.new.self) n c.loop-i.headed (told_all (vec_items c.loop-i.calls))) (sym (counted at.In-Some)) (skip-line _ _ _ _ _ _ (at_row at.In-Some) skip),
    )

plain : (c : Else-is_skipped) → skipped (content c.in-Some.row.now) ≡ false
plain c = sym (ap skipped c.before_return-content.ensures) ∙ sym c.is_skipped.ensures ∙ c.if-is_skipped.false

-- the invariant before the heading
before-heading : (c : In-None-headed) → Sofar c.args.text.now (c.in-Some.row.now ∷ rows_left c.next.new.self) c.in-Some.i None (told_all (vec_items c.loop-i.calls))
before-heading c =
    subst (λ h. Sofar c.args.text.now (c.in-Some.row.now ∷ rows_left c.next.new.self) c.in-Some.i h (told_all (vec_items c.loop-i.calls)))
    c.in-None-headed.is (at_row (goal.at.In-None-headed c).In-Some)

-- and after it
after-heading : (c : In-Some-headed) → Sofar c.args.text.now (c.in-Some.row.now ∷ rows_left c.next.new.self) c.in-Some.i (Some (c.in-Some-headed.kind, c.in-Some-headed.field-0-1)) (told_all (vec_items c.loop-i.calls))
after-heading c =
    subst (λ h. Sofar c.args.text.now (c.in-Some.row.now ∷ rows_left c.next.new.self) c.in-Some.i h (told_all (vec_items c.loop-i.calls)))
    c.in-Some-headed.is (at_row (goal.at.In-Some-headed c).In-Some)

pub returns-in_err-read_heading-in-None-headed : goal.returns-in_err-read_heading-in-None-headed
returns-in_err-read_heading-in-None-headed c =
    let at = goal.at.returns-in_err-read_heading-in-None-headed c in
    let f = c.in_err-read_heading-in-None-headed.field-0.0 in
    lines-handed _ _ c.from_residual.result f c.from_residual.ensures.1
    (heading-stops _ _ _ _ _ (before-heading at.In-None-headed) (plain at.Else-is_skipped) f
    (subst (λ bs. (f ≡ Memory) ⊎ ((line_of f ≡ Some (c.in-Some.i + 1)) × NoneIs (HeadingAs bs))) c.before_return-content.ensures c.in_err-read_heading-in-None-headed.ensures))

pub loop-i-preserved-in-None-headed : goal.loop-i-preserved-in-None-headed
loop-i-preserved-in-None-headed c =
    let at = goal.at.loop-i-preserved-in-None-headed c in
    let v = c.in_ok-read_heading-in-None-headed.field-0 in (
      c.in-Some.ensures.goes.keeps,
      tt,
      feeds at.In-Some,
      subst (λ n. Sofar c.args.text.now (rows_left c.next.new.self) n (Some v) (told_all (vec_items c.loop-i.calls))) (sym (counted at.In-Some))
          (heading-line _ _ _ _ _ (before-heading at.In-None-headed) (plain at.Else-is_skipped) v
          (subst (λ bs. Sole (HeadingAs bs) v) c.before_return-content.ensures c.in_ok-read_heading-in-None-headed.ensures)),
    )

pub returns-in_err-read_call-in-Some-headed : goal.returns-in_err-read_call-in-Some-headed
returns-in_err-read_call-in-Some-headed c =
    let at = goal.at.returns-in_err-read_call-in-Some-headed c in
    let f = c.in_err-read_call-in-Some-headed.field-0.0 in
    lines-handed _ _ c.from_residual-in_err-read_call-in-Some-headed.result f c.from_residual-in_err-read_call-in-Some-headed.ensures.1
    (call-stops _ _ _ _ _ _ (after-heading at.In-Some-headed) (plain at.Else-is_skipped) f
    (subst (λ bs. (f ≡ Memory) ⊎ ((line_of f ≡ Some (c.in-Some.i + 1)) × NoneIs (CallAs (limit_of c.in-Some-headed.kind) bs))) c.before_return-content.ensures
    (subst (λ limit. (f ≡ Memory) ⊎ ((line_of f ≡ Some (c.in-Some.i + 1)) × NoneIs (CallAs limit c.before_return-content.result.now))) c.limit.ensures c.in_err-read_call-in-Some-headed.ensures)))

pub loop-i-preserved : goal.loop-i-preserved
loop-i-preserved c =
    let at = goal.at.loop-i-preserved c in
    let x = c.in_ok-read_call-in-Some-headed.field-0 in
    let pushed = chosen _ _ _ _ c.push.ensures.items (ap is_ok c.in_ok-push-in-Some-headed.was) in
    let one = subst (λ bs. Sole (CallAs (limit_of c.in-Some-headed.kind) bs) (told x)) c.before_return-content.ensures
    (subst (λ limit. Sole (CallAs limit c.before_return-content.result.now) (told x)) c.limit.ensures c.in_ok-read_call-in-Some-headed.ensures) in (
      c.in-Some.ensures.goes.keeps,
      tt,
      feeds at.In-Some,
      subst (λ n. Sofar c.args.text.now (rows_left c.next.new.self) n c.loop-i.headed (told_all (vec_items c.push.new.self))) (sym (counted at.In-Some))
          (again-told _ _ _ _ _ _ (vec_items c.loop-i.calls) (vec_items c.push.new.self) (after-heading at.In-Some-headed) (plain at.Else-is_skipped) x one c.in-Some-headed.is pushed),
    )
