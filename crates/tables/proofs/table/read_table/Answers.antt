use Rattle.std.proofs.Common.{◌≡◌, ◌+◌, false, ◌∷◌, is_ok, rules, Ok, Err, vec_items, sym, ap, ◌∙◌, subst}
use Rattle.std.specs.Iterator.Adapters.{enumerate_source, enumerate_count}
use Rattle.std.specs.Str.Iter.{split_text, split_has_more, split_pattern}
use Rattle.std.proofs.ResultArms.{chosen}
use Rattle.std.proofs.lemmas.Result.{err_from_is_err_and}
use Rattle.tables.specs.Lines.{content, skipped, RuleAt, LineAs}
use Rattle.tables.specs.Rules.{lines, TableAs}
use Rattle.tables.proofs.Reading.{Sofar, none_yet, skip-line, rule-line, line-stops, name-stops}
use Rattle.tables.proofs.Rows.{AtFeeds, left_lines, next_row, rows_left}
use Rattle.tables.proofs.Sole.{keeps-tables}
use Rattle.tables.proofs.table.read_table.Goals as goal
use Rattle.tables.proofs.table.read_table.Goals.{In-Some, In-Some-2}

-- the invariant where the next line is in hand
at_row : (c : In-Some) → Sofar c.args.text.now (c.in-Some.row.now ∷ rows_left c.next.new.self) c.in-Some.i (vec_items c.loop-i.entries) c.loop-i.seen
at_row c =
    let (_, left, place, _) = next_row c.loop-i.i-iterator c.next.new.self c.in-Some.i c.in-Some.row c.loop-i.invariant.2 c.in-Some.ensures.steps in
    subst (λ n. Sofar c.args.text.now (c.in-Some.row.now ∷ rows_left c.next.new.self) n (vec_items c.loop-i.entries) c.loop-i.seen) place
    (subst (λ ls. Sofar c.args.text.now ls (enumerate_count c.loop-i.i-iterator) (vec_items c.loop-i.entries) c.loop-i.seen) left c.loop-i.invariant.3)

feeds : (c : In-Some) → AtFeeds c.next.new.self
feeds c = (next_row c.loop-i.i-iterator c.next.new.self c.in-Some.i c.in-Some.row c.loop-i.invariant.2 c.in-Some.ensures.steps).0

counted : (c : In-Some) → enumerate_count c.next.new.self ≡ c.in-Some.i + 1
counted c = (next_row c.loop-i.i-iterator c.next.new.self c.in-Some.i c.in-Some.row c.loop-i.invariant.2 c.in-Some.ensures.steps).3

-- the rule that the line holds
rule : (c : In-Some-2) → (skipped (content c.in-Some.row.now) ≡ false) × RuleAt (c.in-Some.i + 1) (content c.in-Some.row.now) c.in-Some-2.entry
rule c = subst (λ o. LineAs (c.in-Some.i + 1) (content c.in-Some.row.now) (Ok o)) c.in-Some-2.is c.in_ok-entry.ensures.reads

pub loop-i-init : goal.loop-i-init
loop-i-init c =
    let same = c.into_iter-i-iterator.ensures.into_iter_gives in
    let source = ap enumerate_source same ∙ c.enumerate-i-items.ensures.source in
    let count = ap enumerate_count same ∙ c.enumerate-i-items.ensures.count in
    let made = c.split.ensures in
    let live = ap split_has_more source ∙ made.has_more in
    let whole = ap split_text source ∙ made.text in
    let left : rows_left c.into_iter-i-iterator.result ≡ lines c.args.text.now = (λ i. left_lines (live i) (whole i)) in (
      search rules,
      tt,
      ap split_pattern source ∙ made.pattern,
      subst (λ n. Sofar c.args.text.now (rows_left c.into_iter-i-iterator.result) n (vec_items c.new-entries.result) c.new-seen.result) (sym count)
          (subst (λ ls. Sofar c.args.text.now ls 0 (vec_items c.new-entries.result) c.new-seen.result) (sym left)
          (subst (λ es. Sofar c.args.text.now (lines c.args.text.now) 0 es c.new-seen.result) (sym c.new-entries.ensures.items)
          (none_yet c.args.text.now c.new-seen.result c.new-seen.ensures.empty))),
    )

pub returns-in_err-entry : goal.returns-in_err-entry
returns-in_err-entry c =
    let p = err_from_is_err_and c.from_residual.result c.from_residual.ensures.1 in
    let told = c.in_err-entry.ensures.reads in
    let read = subst (TableAs c.args.text.now) (sym (p.1 ∙ ap Err p.2))
    (line-stops _ _ _ _ _ _ (at_row (goal.at.returns-in_err-entry c).In-Some) c.in_err-entry.field-0.0 told.0 told.1) in
    record { reads = read; keeps = keeps-tables c.args.text.now c.from_residual.result read }

pub returns-in_err-note_name : goal.returns-in_err-note_name
returns-in_err-note_name c =
    let p = err_from_is_err_and c.from_residual-in_err-note_name.result c.from_residual-in_err-note_name.ensures.1 in
    let at = goal.at.returns-in_err-note_name c in
    let told = rule at.In-Some-2 in
    let read = subst (TableAs c.args.text.now) (sym (p.1 ∙ ap Err p.2))
    (name-stops _ _ _ _ _ _ (at_row at.In-Some) c.in-Some-2.entry c.in_err-note_name.field-0.0 told.0 told.1 c.in_err-note_name.ensures) in
    record { reads = read; keeps = keeps-tables c.args.text.now c.from_residual-in_err-note_name.result read }

pub loop-i-preserved-in-Continue-branch-4 : goal.loop-i-preserved-in-Continue-branch-4
loop-i-preserved-in-Continue-branch-4 c =
    let at = goal.at.loop-i-preserved-in-Continue-branch-4 c in
    let told = rule at.In-Some-2 in
    let noted = c.in_ok-note_name.ensures in
    let left = rows_left c.next.new.self in
    let pushed = chosen _ _ _ _ c.push.ensures.items (ap is_ok c.in_ok-push.was) in (
      c.in-Some.ensures.goes.keeps,
      tt,
      feeds at.In-Some,
      subst (λ n. Sofar c.args.text.now left n (vec_items c.push.new.self) c.note_name.new.seen) (sym (counted at.In-Some))
          (subst (λ es. Sofar c.args.text.now left (c.in-Some.i + 1) es c.note_name.new.seen) (sym pushed)
          (rule-line _ _ _ _ _ _ (at_row at.In-Some) c.in-Some-2.entry c.note_name.new.seen told.0 told.1 noted.0 noted.1)),
    )

pub loop-i-preserved : goal.loop-i-preserved
loop-i-preserved c =
    let at = goal.at.loop-i-preserved c in
    let skip = subst (λ o. LineAs (c.in-Some.i + 1) (content c.in-Some.row.now) (Ok o)) c.in_default.is c.in_ok-entry.ensures.reads in (
      c.in-Some.ensures.goes.keeps,
      tt,
      feeds at.In-Some,
      subst (λ n. Sofar c.args.text.now (rows_left c.next.new.self) n (vec_items c.loop-i.entries) c.loop-i.seen) (sym (counted at.In-Some)) (skip-line _ _ _ _ _ _ (at_row at.In-Some) skip),
    )
