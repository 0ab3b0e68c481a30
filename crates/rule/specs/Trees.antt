-- The tree that a run spells, grown from its nodes left to right: each node takes its children from the trees so far.
use Rattle.std.specs.Prelude.{◌≡◌, ℕ, zero, suc, ◌+◌, ◌-◌, List, [], ◌∷◌, ◌++◌, length, slice_index, slice_index_or, refl}
use Rattle.rule.specs.Run.{offsets, starts, code_at, v_at, w_at, kids_at}

mutual
  -- code, v, w and the children
  pub data Tree : Type 0 where
    node : ℕ → ℕ → ℕ → Forest → Tree

  pub data Forest : Type 0 where
    nil : Forest
    cons : Tree → Forest → Forest

-- what stands where no tree is
unfoldable pub stub : Tree
stub = node 0 0 0 nil

-- the n children whose numbers stand at p and behind it, among the trees so far
unfoldable pub kids_of : List Tree → List ℕ → ℕ → ℕ → Forest
kids_of acc ws p zero = nil
kids_of acc ws p (suc n) = cons (slice_index_or acc (slice_index ws p) stub) (kids_of acc ws (p + 1) n)

-- the node that begins at o
unfoldable pub node_of : List ℕ → List Tree → ℕ → Tree
node_of ws acc o = node (code_at ws o) (v_at ws o) (w_at ws o) (kids_of acc ws (o + 4) (kids_at ws o))

-- the trees so far, and one for each place
unfoldable pub grow : List ℕ → List ℕ → List Tree → List Tree
grow ws [] acc = acc
grow ws (o ∷ os) acc = grow ws os (acc ++ (node_of ws acc o ∷ []))

-- a tree for each node of a run
unfoldable pub trees_of : List ℕ → List Tree
trees_of ws = grow ws (offsets ws) []

unfoldable pub tree_at : List ℕ → ℕ → Tree
tree_at ws i = slice_index_or (trees_of ws) i stub

-- the rule's own tree: that of the last node, the root
unfoldable pub tree_of : List ℕ → Tree
tree_of ws = tree_at ws (length (offsets ws) - 1)

---- the expression 1

one-tree : tree_of (100 ∷ 1 ∷ 0 ∷ 0 ∷ 25 ∷ 0 ∷ 0 ∷ 1 ∷ 0 ∷ []) ≡ node 25 0 0 (cons (node 100 1 0 nil) nil)
unfolding tree_of tree_at trees_of grow node_of kids_of offsets starts
one-tree = refl
