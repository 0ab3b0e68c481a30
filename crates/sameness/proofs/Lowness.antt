-- A tree with low locals only has low locals in its root and in each child.
use Rattle.std.proofs.Common.{◌≡◌, ℕ, zero, suc, ◌+◌, ◌<◌, List, length, get_or, subst, arith}
use Rattle.rule.specs.Run.{code_at, v_at, w_at, kids_at}
use Rattle.rule.specs.Trees.{Tree, Forest, node, cons, stub, kids_of, node_of, trees_of, tree_at}
use Rattle.rule.specs.Scopes.{role, declared, used, decls, decls_all, uses_of, uses_all}
use Rattle.rule.specs.Intake.{Read, Treelike}
use Rattle.rule.proofs.Grown.{tree-read}
use Rattle.sameness.specs.Walking.{Low}

---- the parts of a node

LowAll : Forest → Type 0
LowAll ts = (x : ℕ) → 1023 < x → decls_all x ts + uses_all x ts ≡ 0

low-role : (c v w : ℕ) (ts : Forest) → Low (node c v w ts) → (x : ℕ) → 1023 < x → declared x (role c v w) + used x (role c v w) ≡ 0
unfolding decls uses_of
low-role c v w ts l x h = let e = l x h in omega arith

low-all : (c v w : ℕ) (ts : Forest) → Low (node c v w ts) → LowAll ts
unfolding LowAll decls uses_of
low-all c v w ts l x h = let e = l x h in omega arith

low-head : (t : Tree) (ts : Forest) → LowAll (cons t ts) → Low t
unfolding LowAll decls_all uses_all
low-head t ts l x h = let e = l x h in omega arith

low-tail : (t : Tree) (ts : Forest) → LowAll (cons t ts) → LowAll ts
unfolding LowAll decls_all uses_all
low-tail t ts l x h = let e = l x h in omega arith

-- the children whose numbers stand at p and behind it
low-among : (ws : List ℕ) (p n q : ℕ) → q < n → LowAll (kids_of (trees_of ws) ws p n) → Low (tree_at ws (get_or ws (p + q) 0))
unfolding kids_of tree_at
low-among ws p zero q h l = absurd (omega arith)
low-among ws p (suc n) zero h l =
    let e : p ≡ p + 0 = omega arith in
    subst (λ z. Low (get_or (trees_of ws) (get_or ws z 0) stub)) e (low-head _ _ l)
low-among ws p (suc n) (suc q) h l =
    let e : p + 1 + q ≡ p + suc q = omega arith in
    subst (λ z. Low (tree_at ws (get_or ws z 0))) e (low-among ws (p + 1) n q (omega arith) (low-tail _ _ l))

---- node i of a rule

module _ (ws os : List ℕ) (d : Read ws os) (t : Treelike ws) where
  low-whole : (i : ℕ) → i < length os → Low (tree_at ws i)
      → Low (node (code_at ws (get_or os i 0)) (v_at ws (get_or os i 0)) (w_at ws (get_or os i 0)) (kids_of (trees_of ws) ws (get_or os i 0 + 4) (kids_at ws (get_or os i 0))))
  unfolding node_of
  low-whole i h l = subst (λ z. Low z) (tree-read ws os i d t h) l

  -- its own local
  pub low-own : (i : ℕ) → i < length os → Low (tree_at ws i) → (x : ℕ) → 1023 < x
      → declared x (role (code_at ws (get_or os i 0)) (v_at ws (get_or os i 0)) (w_at ws (get_or os i 0))) + used x (role (code_at ws (get_or os i 0)) (v_at ws (get_or os i 0)) (w_at ws (get_or os i 0))) ≡ 0
  low-own i h l = low-role _ _ _ _ (low-whole i h l)

  -- its child q
  pub low-kid : (i q : ℕ) → i < length os → q < kids_at ws (get_or os i 0) → Low (tree_at ws i) → Low (tree_at ws (get_or ws (get_or os i 0 + 4 + q) 0))
  low-kid i q h k l = low-among ws _ _ q k (low-all _ _ _ _ (low-whole i h l))
