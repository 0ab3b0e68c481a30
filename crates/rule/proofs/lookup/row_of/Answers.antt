use Rattle.std.proofs.Common.{◌<◌, length, sym, ap, ◌∙◌, arith, rules, tests}
use Rattle.std.proofs.lemmas.Bool.{ltb-true}
use Rattle.std.proofs.lemmas.Bool.Decides.{nat_tests}
use Rattle.std.proofs.lemmas.Grind.{get_or_default_zero}
use Rattle.std.proofs.lemmas.Iterator.{YieldsList-from_slice}
use Rattle.std.proofs.lemmas.Iterator.Search.{find_from_yields_List}
use Rattle.rule.specs.Lookup.{takes}
use Rattle.rule.proofs.Sought.{standing, row-above, found-row, format-length}
use Rattle.rule.proofs.lookup.row_of.Goals as goal

pub returns-in_err-first : goal.returns-in_err-first
returns-in_err-first c = c.from_residual.ensures ∙ sym (row-above _ _ _ (grind (arith, nat_tests, c.in_err-first.ensures.lookup.0, c.firsts.ensures.len)))

pub slice_bounds-iter-end : goal.slice_bounds-iter-end
slice_bounds-iter-end c =
    let b : c.args.code < length c.firsts.result.now = ltb-true _ _ (sym c.in_ok-first.ensures.lookup.0) in
    let s = standing _ _ _ c.firsts.ensures.places b (c.in_ok-first.ensures.lookup.1 ∙ get_or_default_zero _ _ _ b) in
    omega (arith, s.room, ap length c.rows.ensures, format-length)

pub returns : goal.returns
returns c =
    let b : c.args.code < length c.firsts.result.now = ltb-true _ _ (sym c.in_ok-first.ensures.lookup.0) in
    let s = standing _ _ _ c.firsts.ensures.places b (c.in_ok-first.ensures.lookup.1 ∙ get_or_default_zero _ _ _ b) in
    c.copied.ensures
    ∙ find_from_yields_List (λ r. takes r c.args.code c.args.v c.args.w) _ _ _ c.find.ensures.ran (YieldsList-from_slice _ c.iter.ensures.rest) (λ x b q h. search (rules, tests))
    ∙ found-row _ _ _ _ _ c.rows.ensures s
