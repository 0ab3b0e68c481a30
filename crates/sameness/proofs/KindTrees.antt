-- A node that a rule spells as its tree, and what is known of it.
use Rattle.std.proofs.Common.{◌≡◌, ℕ, zero, suc, ◌+◌, ◌<◌, ◌≤◌, ◌&&◌, eqb, List, [], ◌∷◌, length, get_or, sym, refl, ap, ◌∙◌, subst, ap₂, arith}
use Rattle.rule.specs.declared.nodes.Node.{Node}
use Rattle.rule.specs.Nodes.{Spelt}
use Rattle.rule.specs.Run.{kids_at}
use Rattle.rule.specs.Trees.{Tree, Forest, node, cons, stub, kids_of, node_of, trees_of, tree_at}
use Rattle.rule.specs.Intake.{Read, Treelike}
use Rattle.rule.proofs.Fitting.{kid-below}
use Rattle.rule.proofs.Grown.{tree-read}
use Rattle.rule.proofs.Laid.{read_fits}
use Rattle.sameness.specs.Reduction.{kept, code_of, is_absent, shape, reduce}
use Rattle.sameness.specs.Sameness.{one, pair}
use Rattle.sameness.specs.Walking.{Held, Low, trees_at, tree_in}
use Rattle.sameness.proofs.Lowness.{low-own, low-kid}
use Rattle.sameness.proofs.BlockShapes.{absent-kids}
use Rattle.sameness.proofs.Steps.{reduce-kept}

---- the children and the tree of a node, as they stand

abbrev pub kids_bare : List ℕ → Node → Forest
kids_bare ws k = trees_at ws k.kids.now

abbrev pub tree_bare : List ℕ → Node → Tree
tree_bare ws k = node k.code k.v k.w (kids_bare ws k)

-- one child, and two
pub kids-one : (ws ks : List ℕ) → length ks ≡ 1 → trees_at ws ks ≡ one (tree_at ws (get_or ks 0 0))
unfolding trees_at
kids-one ws [] e = absurd (omega arith)
kids-one ws (x ∷ []) e = refl
kids-one ws (x ∷ (y ∷ ks)) e = absurd (omega arith)

pub kids-two : (ws ks : List ℕ) → length ks ≡ 2 → trees_at ws ks ≡ pair (tree_at ws (get_or ks 0 0)) (tree_at ws (get_or ks 1 0))
unfolding trees_at
kids-two ws [] e = absurd (omega arith)
kids-two ws (x ∷ []) e = absurd (omega arith)
kids-two ws (x ∷ (y ∷ [])) e = refl
kids-two ws (x ∷ (y ∷ (z ∷ ks))) e = absurd (omega arith)

-- the n children whose numbers stand at p and behind it, by the list of these numbers
pub kids-named : (ws ks : List ℕ) (p n : ℕ) → length ks ≡ n → ((q : ℕ) → q < n → get_or ks q 0 ≡ get_or ws (p + q) 0) → kids_of (trees_of ws) ws p n ≡ trees_at ws ks
unfolding kids_of trees_at tree_at
kids-named ws [] p zero e h = refl
kids-named ws [] p (suc n) e h = absurd (omega arith)
kids-named ws (x ∷ ks) p zero e h = absurd (omega arith)
kids-named ws (x ∷ ks) p (suc n) e h =
    let a : get_or ws p 0 ≡ x = (let f : p ≡ p + 0 = omega arith in ap (λ z. get_or ws z 0) f ∙ sym (h 0 (omega arith))) in
    let b : (q : ℕ) → q < n → get_or ks q 0 ≡ get_or ws (p + 1 + q) 0 =
    λ q l. (let f : p + suc q ≡ p + 1 + q = omega arith in h (suc q) (omega arith) ∙ ap (λ z. get_or ws z 0) f) in
    ap₂ cons (ap (λ z. get_or (trees_of ws) z stub) a) (kids-named ws ks (p + 1) n (omega arith) b)

---- node i of a rule

module _ (ws os : List ℕ) (d : Read ws os) (t : Treelike ws) (i : ℕ) (h : i < length os) (k : Node) (e : Spelt ws (get_or os i 0) k) where
  pub kind-tree : tree_at ws i ≡ tree_bare ws k
  unfolding node_of
  kind-tree =
      let a = tree-read ws os i d t h in
      let b = kids-named ws k.kids.now (get_or os i 0 + 4) (kids_at ws (get_or os i 0)) e.count e.each in
      let c = e.code in
      let v = e.v in
      let w = e.w in
      cc

  pub kind-absent : is_absent (tree_at ws i) ≡ (eqb k.code 0 && eqb (length k.kids.now) 0)
  kind-absent = ap is_absent kind-tree ∙ absent-kids ws k.code k.v k.w k.kids.now

  -- by its words and its children
  pub kind-node : (c v w : ℕ) (ts : Forest) → k.code ≡ c → k.v ≡ v → k.w ≡ w → kids_bare ws k ≡ ts → tree_at ws i ≡ node c v w ts
  kind-node c v w ts ec ev ew et = let f = kind-tree in cc

  pub kind-code : code_of (tree_at ws i) ≡ k.code
  kind-code = ap code_of kind-tree

  -- a node that is kept
  pub kind-kept : shape k.code (kids_bare ws k) ≡ kept → tree_in ws k ≡ reduce (tree_at ws i)
  kind-kept s = sym (reduce-kept k.code k.v k.w (kids_bare ws k) s) ∙ ap reduce (sym kind-tree)

  -- child q stands in the run
  kid : (q : ℕ) → q < length k.kids.now → (q < kids_at ws (get_or os i 0)) × (get_or k.kids.now q 0 ≡ get_or ws (get_or os i 0 + 4 + q) 0)
  kid q m = let n : q < kids_at ws (get_or os i 0) = omega (arith, e.count) in (n, e.each q n)

  pub kind-held : Low (tree_at ws i) → Held ws k i
  kind-held l =
      record {
        within = omega (arith, e.count, e.first, read_fits ws os d i h);
        stands = λ q m. (kid q m).1 ∙ ap (λ p. get_or ws (p + q) 0) (sym e.first);
        below = λ q m. subst (λ z. z < i) (sym (kid q m).1) (kid-below ws os d t i q h (kid q m).0);
        low = λ x m. rw (e.code, e.v, e.w) (low-own ws os d t i h l x m);
        kids_low = λ q m. subst (λ z. Low (tree_at ws z)) (sym (kid q m).1) (low-kid ws os d t i q h (kid q m).0 l);
      }

-- a higher top
pub held_up : (ws : List ℕ) (k : Node) (i j : ℕ) → i ≤ j → Held ws k i → Held ws k j
held_up ws k i j h d = record { within = d.within; stands = d.stands; below = λ q l. let b = d.below q l in omega arith; low = d.low; kids_low = d.kids_low }
