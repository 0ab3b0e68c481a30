-- The node that is found inside a block shows what a block expression over it comes to.
use Rattle.std.proofs.Common.{◌≡◌, ℕ, ◌<◌, ◌≤◌, Bool, true, false, eqb, ◌⊎◌, List, [], length, get_or, Some, None, Option, sym, refl, ap, ◌∙◌, subst, ⊎_elim, arith}
use Rattle.std.specs.Bool.{then_some}
use Rattle.std.proofs.lemmas.Bool.{eqb-true, eqb-false}
use Rattle.rule.specs.declared.nodes.Node.{Node}
use Rattle.rule.specs.Nodes.{Spelt}
use Rattle.rule.specs.Trees.{Tree, Forest, node, nil, tree_at}
use Rattle.rule.specs.Scopes.{role, declared, used}
use Rattle.rule.specs.Intake.{Read, Treelike}
use Rattle.sameness.specs.Blocks.{Inner, Made, Comes}
use Rattle.sameness.specs.Reduction.{is_absent, returns, shape_of_block, reduce, reduce_all}
use Rattle.sameness.specs.Sameness.{one, pair}
use Rattle.sameness.specs.Walking.{Held, Low, trees_at, tree_in}
use Rattle.sameness.proofs.KindTrees.{kind-code, kind-kept, kind-held, held_up}
use Rattle.sameness.proofs.BlockShapes.{shape-code, block-body, stmt-returns, comes-empty, comes-tail, comes-stmt}

---- an empty tuple

module _ (ws : List ℕ) (k : Node) (c : k.code ≡ 33) (v : k.v ≡ 0) (w : k.w ≡ 0) (f : k.first ≡ 0) (e : k.kids.now ≡ []) where
  unit-tree : tree_in ws k ≡ node 33 0 0 nil
  unfolding trees_at reduce_all
  unit-tree = rw (c, v, w, e) refl

  unit-held : (top : ℕ) → Held ws k top
  unfolding role declared used
  unit-held top =
      let l : length k.kids.now ≡ 0 = ap length e in
      record { within = omega arith; stands = λ q m. absurd (omega arith); below = λ q m. absurd (omega arith); low = λ x m. rw c refl; kids_low = λ q m. absurd (omega arith) }

  pub inside-empty : (top : ℕ) (t : Tree) → is_absent t ≡ true → (u : ℕ) → Inner ws (node 94 0 u (one t)) top k
  inside-empty top t a u = record { tree = λ x y. unit-tree ∙ sym (comes-empty x y u t a); held = unit-held top }

---- a return

-- a node is the answer where it is a return, and otherwise there is none
pub return_or_none : (Q : Option Node → Type 0) (k : Node) {r : Option Node} → r ≡ then_some (eqb k.code 31) k → (k.code ≡ 31 → Q (Some k)) → ((k.code ≡ 31 → ⊥) → Q None) → Q r
return_or_none Q k e y n = subst Q (sym e) (go (eqb k.code 31) refl)
  where
    go : (b : Bool) → eqb k.code 31 ≡ b → Q (then_some b k)
    go true h = y (eqb-true _ _ h)
    go false h = n (eqb-false _ _ h)

module _ (ws os : List ℕ) (d : Read ws os) (t : Treelike ws) where
  return-tree : (i : ℕ) → i < length os → (k : Node) → Spelt ws (get_or os i 0) k → k.code ≡ 31 → tree_in ws k ≡ reduce (tree_at ws i)
  return-tree i h k e n = let m : k.code ≡ 15 → ⊥ = λ l. omega arith in kind-kept ws os d t i h k e (shape-code k.code _ m)

  -- as the tail
  pub inside-tail : (i : ℕ) → i < length os → (k : Node) → Spelt ws (get_or os i 0) k → k.code ≡ 31 → Low (tree_at ws i) → is_absent (tree_at ws i) ≡ false
      → (u : ℕ) → Inner ws (node 94 0 u (one (tree_at ws i))) i k
  inside-tail i h k e n l a u =
      record {
        tree = λ v w. return-tree i h k e n ∙ sym (comes-tail v w u (tree_at ws i) a (kind-code ws os d t i h k e ∙ n));
        held = kind-held ws os d t i h k e l;
      }

  -- as all that a statement holds
  pub inside-stmt : (c v w i top : ℕ) (s tail : Tree) → i < length os → (k : Node) → Spelt ws (get_or os i 0) k → k.code ≡ 31 → Low (tree_at ws i) → i ≤ top
      → s ≡ node c v w (one (tree_at ws i)) → (c ≡ 96) ⊎ (c ≡ 97) → is_absent tail ≡ true → (u : ℕ) → Inner ws (node 94 0 u (pair s tail)) top k
  inside-stmt c v w i top s tail h k e n l m f o a u =
      let P : Tree → Type 0 = λ z. Inner ws (node 94 0 u (pair z tail)) top k in
      let r : returns (node c v w (one (tree_at ws i))) ≡ true = stmt-returns c v w (tree_at ws i) o (kind-code ws os d t i h k e ∙ n) in
      let b : c ≡ 15 → ⊥ = λ z. ⊎_elim (λ (y : c ≡ 96). omega arith) (λ (y : c ≡ 97). omega arith) o in
      subst P (sym f)
      (record {
        tree = λ x y. return-tree i h k e n ∙ sym (comes-stmt x y u c v w (tree_at ws i) tail b r a);
        held = held_up ws k i top m (kind-held ws os d t i h k e l);
      })

---- from the statements and the tail to the block

pub block_made : (ws : List ℕ) (block : Tree) (w : ℕ) (body : Forest) (top j : ℕ) (r : Option Node) → block ≡ node 94 0 w body → top ≤ j → Comes ws body top r → Made ws block j r
block_made ws block w body top j None e h c = ap shape_of_block e ∙ block-body w body ∙ c
block_made ws block w body top j (Some k) e h c =
    let P : Tree → Type 0 = λ z. Inner ws z j k in
    subst P (sym e) (record { tree = (c w).tree; held = held_up ws k top j h (c w).held })
