use Rattle.std.proofs.Common.{sym, ◌∙◌, ◌<◌, length, arith, lit<, true-eqb, false-eqb}
use Rattle.tables.proofs.Cuts.{skipped-after, skipped-nil, skipped-first}
use Rattle.tables.proofs.blanks.is_skipped.Goals as goal

pub returns-then-is_empty : goal.returns-then-is_empty
returns-then-is_empty c =
    let skip = c.skip_blanks-rest.ensures.1 in
    c.if-is_empty.true ∙ sym (skipped-after _ _ _ skip ∙ skipped-nil _ (true-eqb _ 0 c.if-is_empty.ensures))

pub returns-else-is_empty : goal.returns-else-is_empty
returns-else-is_empty c =
    let skip = c.skip_blanks-rest.ensures.1 in
    let some : 0 < length c.skip_blanks-rest.result.now = omega (arith, false-eqb _ 0 c.if-is_empty.ensures) in
    c.starts_with.ensures.byte (lit< tt) (lit< tt) (λ w o found. found) ∙ sym (skipped-after _ _ _ skip ∙ skipped-first _ some skip.ends)
