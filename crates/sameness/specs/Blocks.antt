-- What the functions answer that look into a block for what it comes to.
use Rattle.std.specs.Prelude.{◌≡◌, ℕ, List, Some, None, Option}
use Rattle.rule.specs.Trees.{Tree, Forest, node}
use Rattle.rule.specs.declared.nodes.Node.{Node}
use Rattle.sameness.specs.Reduction.{kept, shape_of_body, shape_of_block, reduce}
use Rattle.sameness.specs.Sameness.{one}
use Rattle.sameness.specs.Walking.{Held, tree_in}

-- a node that shows what each block expression over a block comes to
pub record Inner (ws : List ℕ) (block : Tree) (top : ℕ) (k : Node) : Type 0 where
  pub tree : (v w : ℕ) → tree_in ws k ≡ reduce (node 15 v w (one block))
  pub held : Held ws k top

-- the answer for a block: none if a block expression over it is kept
abbrev pub Made : List ℕ → Tree → ℕ → Option Node → Type 0
Made ws block top None = shape_of_block block ≡ kept
Made ws block top (Some k) = Inner ws block top k

-- the answer for the statements and the tail of a plain block
abbrev pub Comes : List ℕ → Forest → ℕ → Option Node → Type 0
Comes ws body top None = shape_of_body body ≡ kept
Comes ws body top (Some k) = (w : ℕ) → Inner ws (node 94 0 w body) top k
