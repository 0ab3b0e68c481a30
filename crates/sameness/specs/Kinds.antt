-- A node by the place in the run at which its children's numbers begin.
use Rattle.std.specs.Prelude.{◌≡◌, ℕ, ◌+◌, ◌≤◌, List, length, take, drop}
use Rattle.rule.specs.declared.nodes.Node.{Node}
use Rattle.rule.specs.Trees.{Tree, Forest, node, kids_of, trees_of}
use Rattle.sameness.specs.declared.kind.Kind.{Kind}
use Rattle.sameness.specs.Reduction.{reduce_all}

abbrev pub kind_of : Node → Kind
kind_of n = record { code = n.code; v = n.v; w = n.w; first = n.first; kids = length n.kids.now }

-- the node that a kind is in the run ws
pub record IsNode (ws : List ℕ) (k : Kind) (n : Node) : Type 0 where
  pub kind : kind_of n ≡ k
  pub within : k.first + k.kids ≤ length ws
  pub kids : n.kids.now ≡ take k.kids (drop k.first ws)

-- the children of a kind, and its tree, reduced
abbrev pub kind_kids : List ℕ → Kind → Forest
kind_kids ws k = reduce_all (kids_of (trees_of ws) ws k.first k.kids)

abbrev pub kind_tree : List ℕ → Kind → Tree
kind_tree ws k = node k.code k.v k.w (kind_kids ws k)
