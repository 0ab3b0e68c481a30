use Rattle.std.proofs.Common.{◌≡◌, subst}
use Rattle.std.proofs.Common.{MatchOption}
use Rattle.rule.specs.Comparisons.{comparison_number}
use Rattle.feed.proofs.Orders.{fed_node}
use Rattle.feed.proofs.way.fed_v.Goals as goal

pub returns : goal.returns
returns c =
    let h = subst (λ d. MatchOption c.map.result (c.map_or.result ≡ d) (λ y. c.map_or.result ≡ comparison_number y)) c.bare_v.ensures c.map_or.ensures in
    fed_node c.args.node _ _ _ c.comparison.ensures c.map.ensures.cases h
