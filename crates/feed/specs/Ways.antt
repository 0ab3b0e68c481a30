-- How the children of a node are fed that is reduced, and the words that it feeds before them.
use Rattle.std.specs.Prelude.{ℕ, cond, Some, None, Option, List, [], ◌∷◌, length, reverse, ◌==◌}
use Rattle.rule.specs.declared.comparison.Comparison.{Comparison}
use Rattle.rule.specs.declared.comparison.Comparison.TheVariants.{Eq, Lt, Le, Ne, Ge, Gt}
use Rattle.rule.specs.declared.nodes.Node.{Node}
use Rattle.rule.specs.Nodes.{comparison_in}
use Rattle.sameness.specs.Sameness.{bare_v, bare_w}
use Rattle.feed.specs.declared.operands.Operands.{Operands}
use Rattle.feed.specs.declared.way.Way.{Way}
use Rattle.feed.specs.declared.way.Way.TheVariants.{Direct, Exchanged, ByHash}
use Rattle.feed.specs.Feed.{fed_v}

---- comparisons

-- Eq and Ne are fed by the hashes of their operands, and Lt and Le with these exchanged
abbrev pub way_by : Comparison → Way
way_by Eq = ByHash
way_by Lt = Exchanged
way_by Le = Exchanged
way_by Ne = ByHash
way_by Ge = Direct
way_by Gt = Direct

-- Lt is fed as Gt, and Le as Ge
abbrev pub fed_as : Comparison → Comparison
fed_as Eq = Eq
fed_as Lt = Gt
fed_as Le = Ge
fed_as Ne = Ne
fed_as Ge = Ge
fed_as Gt = Gt

---- nodes

-- by its comparison, if it has one
abbrev pub way_at : Option Comparison → Way
way_at None = Direct
way_at (Some k) = way_by k

-- a comparison of two operands by that; all else as it stands
unfoldable pub way_of : Node → Way
way_of n = cond (length n.kids.now == 2) (way_at (comparison_in n)) Direct

-- the children that are fed one after the other, in their turn
abbrev pub walked_by : Way → List ℕ → List ℕ
walked_by Direct ns = ns
walked_by Exchanged ns = reverse ns
walked_by ByHash ns = []

unfoldable pub walked : Node → List ℕ
walked n = walked_by (way_of n) n.kids.now

-- the hashes of the operands that are noted of a node, the smaller first
abbrev pub hashes_in : Option Operands → List ℕ
hashes_in None = []
hashes_in (Some o) = o.smaller ∷ (o.larger ∷ [])

-- the words of a node before those of its children
unfoldable pub head_of : Node → Option Operands → List ℕ
head_of n o = n.code ∷ (fed_v n.code (bare_v n.code n.v) ∷ (bare_w n.code n.v n.w ∷ (length n.kids.now ∷ hashes_in o)))
