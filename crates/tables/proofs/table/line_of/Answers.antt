use Rattle.std.proofs.Common.{eqb, take, rules, tests, sym, ap, ◌∙◌, ◌+◌}
use Rattle.std.proofs.lemmas.Iterator.{YieldsList-from_slice}
use Rattle.std.proofs.lemmas.Iterator.Consumers.{YieldsList-from_filter, count_from_yields_List}
use Rattle.tables.proofs.Rows.{lines_count}
use Rattle.tables.proofs.table.line_of.Goals as goal

pub returns : goal.returns
returns c =
    let seen = take c.args.at c.args.bytes.now in
    ap (λ n. n + 1) (count_from_yields_List c.filter.result _ c.count.ensures.ran
    (YieldsList-from_filter _ (λ b. eqb b 10) (YieldsList-from_slice seen cc) c.filter.ensures.closure (λ x b q k. search (rules, tests))))
    ∙ sym (lines_count seen)
