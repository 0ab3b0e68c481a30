-- The shape of a node by its code and by how many children it has, and what a block expression of each shape comes to.
use Rattle.std.proofs.Common.{◌≡◌, ℕ, true, false, ◌&&◌, eqb, ◌⊎◌, List, [], ◌∷◌, length, sym, refl, ap, ◌∙◌, inl, inr, arith}
use Rattle.std.proofs.lemmas.Bool.{eqb-true, eq-eqb, ne_eqb, cond-true, cond-false, and_parts, and_left, and_right, and_from, or_left, or_right, or_from}
use Rattle.rule.specs.Trees.{Tree, Forest, node, nil, cons}
use Rattle.sameness.specs.Reduction.{kept, code_of, children_of, first_of, is_absent, is_return, returns, shape_of_body, shape_of_block, shape, shaped, reduce, reduce_all}
use Rattle.sameness.specs.Sameness.{one, pair}
use Rattle.sameness.specs.Walking.{trees_at}

---- tests on a tree

pub absent-kids : (ws : List ℕ) (c v w : ℕ) (ks : List ℕ) → is_absent (node c v w (trees_at ws ks)) ≡ (eqb c 0 && eqb (length ks) 0)
unfolding is_absent trees_at
absent-kids ws c v w [] = refl
absent-kids ws c v w (x ∷ ks) = ap (λ b. eqb c 0 && b) (sym (ne_eqb (length (x ∷ ks)) 0 (λ e. omega arith)))

pub return-kids : (ws ks : List ℕ) → (length ks ≡ 1 → ⊥) → is_return (trees_at ws ks) ≡ false
unfolding is_return trees_at
return-kids ws [] h = refl
return-kids ws (x ∷ []) h = absurd (h refl)
return-kids ws (x ∷ (y ∷ ks)) h = refl

---- shapes

-- only a block expression is not kept
pub shape-code : (c : ℕ) (ts : Forest) → (c ≡ 15 → ⊥) → shape c ts ≡ kept
unfolding shape
shape-code c nil h = refl
shape-code c (cons t nil) h = cond-false (eqb c 15) _ _ (ne_eqb c 15 h)
shape-code c (cons t (cons u ts)) h = refl

pub shape-kids : (ws : List ℕ) (c : ℕ) (ks : List ℕ) → (length ks ≡ 1 → ⊥) → shape c (trees_at ws ks) ≡ kept
unfolding shape trees_at
shape-kids ws c [] h = refl
shape-kids ws c (x ∷ []) h = absurd (h refl)
shape-kids ws c (x ∷ (y ∷ ks)) h = refl

-- a block expression over a block that is kept
pub shape-block : (c : ℕ) (ts : Forest) (t : Tree) → c ≡ 15 → ts ≡ one t → shape_of_block t ≡ kept → shape c ts ≡ kept
unfolding shape
shape-block c ts t e f h = ap (shape c) f ∙ cond-true (eqb c 15) _ _ (eq-eqb c 15 e) ∙ h

-- a plain block, and any other node
pub plain-words : (c v : ℕ) → (eqb c 94 && eqb v 0) ≡ true → (c ≡ 94) × (v ≡ 0)
plain-words c v e = let p = and_parts _ _ e in (eqb-true c 94 p.0, eqb-true v 0 p.1)

pub block_kept : (c v w : ℕ) (body : Forest) → (eqb c 94 && eqb v 0) ≡ false → shape_of_block (node c v w body) ≡ kept
unfolding shape_of_block
block_kept c v w body e = cond-false _ _ _ e

pub block-body : (w : ℕ) (body : Forest) → shape_of_block (node 94 0 w body) ≡ shape_of_body body
unfolding shape_of_block
block-body w body = refl

pub body-kids : (ws ks : List ℕ) → (length ks ≡ 1 → ⊥) → (length ks ≡ 2 → ⊥) → shape_of_body (trees_at ws ks) ≡ kept
unfolding shape_of_body trees_at
body-kids ws [] h k = refl
body-kids ws (x ∷ []) h k = absurd (h refl)
body-kids ws (x ∷ (y ∷ [])) h k = absurd (k refl)
body-kids ws (x ∷ (y ∷ (z ∷ ks))) h k = refl

pub tail-kept : (t : Tree) → is_absent t ≡ false → (code_of t ≡ 31 → ⊥) → shape_of_body (one t) ≡ kept
unfolding shape_of_body
tail-kept t a h = cond-false (is_absent t) _ _ a ∙ cond-false (eqb (code_of t) 31) _ _ (ne_eqb (code_of t) 31 h)

pub tail-some : (s t : Tree) → is_absent t ≡ false → shape_of_body (pair s t) ≡ kept
unfolding shape_of_body
tail-some s t a = cond-false (returns s && is_absent t) _ _ (and_right _ _ a)

pub stmt-kept : (s t : Tree) → returns s ≡ false → shape_of_body (pair s t) ≡ kept
unfolding shape_of_body
stmt-kept s t a = cond-false (returns s && is_absent t) _ _ (and_left _ _ a)

---- statements

pub stmt-code : (t : Tree) → (code_of t ≡ 96 → ⊥) → (code_of t ≡ 97 → ⊥) → returns t ≡ false
unfolding returns
stmt-code t h k = and_left _ _ (or_from _ _ (ne_eqb (code_of t) 96 h) (ne_eqb (code_of t) 97 k))

pub stmt-kids : (t : Tree) → is_return (children_of t) ≡ false → returns t ≡ false
unfolding returns
stmt-kids t h = and_right _ _ h

-- a statement with one child
pub stmt-other : (c v w : ℕ) (t : Tree) → (code_of t ≡ 31 → ⊥) → returns (node c v w (one t)) ≡ false
unfolding returns is_return
stmt-other c v w t h = and_right _ _ (ne_eqb (code_of t) 31 h)

pub stmt-returns : (c v w : ℕ) (t : Tree) → (c ≡ 96) ⊎ (c ≡ 97) → code_of t ≡ 31 → returns (node c v w (one t)) ≡ true
unfolding returns is_return
stmt-returns c v w t (inl e) h = and_from _ _ (or_left _ _ (eq-eqb c 96 e)) (eq-eqb (code_of t) 31 h)
stmt-returns c v w t (inr e) h = and_from _ _ (or_right _ _ (eq-eqb c 97 e)) (eq-eqb (code_of t) 31 h)

---- what a plain block comes to

module _ (v w u : ℕ) where
  pub comes-empty : (t : Tree) → is_absent t ≡ true → reduce (node 15 v w (one (node 94 0 u (one t)))) ≡ node 33 0 0 nil
  unfolding reduce reduce_all shaped shape shape_of_block shape_of_body
  comes-empty t a = ap (λ s. shaped s 15 v w (reduce_all (one (node 94 0 u (one t))))) (cond-true (is_absent t) _ _ a)

  pub comes-tail : (t : Tree) → is_absent t ≡ false → code_of t ≡ 31 → reduce (node 15 v w (one (node 94 0 u (one t)))) ≡ reduce t
  unfolding reduce reduce_all shaped shape shape_of_block shape_of_body
  comes-tail t a e = ap (λ s. shaped s 15 v w (reduce_all (one (node 94 0 u (one t))))) (cond-false (is_absent t) _ _ a ∙ cond-true (eqb (code_of t) 31) _ _ (eq-eqb (code_of t) 31 e))

  pub comes-stmt : (c v' w' : ℕ) (r t : Tree) → (c ≡ 15 → ⊥) → returns (node c v' w' (one r)) ≡ true → is_absent t ≡ true
      → reduce (node 15 v w (one (node 94 0 u (pair (node c v' w' (one r)) t)))) ≡ reduce r
  unfolding reduce reduce_all shaped shape shape_of_block shape_of_body
  comes-stmt c v' w' r t n h a =
      ap (λ s. shaped s 15 v w (reduce_all (one (node 94 0 u (pair (node c v' w' (one r)) t))))) (cond-true (returns (node c v' w' (one r)) && is_absent t) _ _ (and_from _ _ h a))
      ∙ ap (λ s. first_of (children_of (shaped s c v' w' (one (reduce r))))) (shape-code c (one r) n)
