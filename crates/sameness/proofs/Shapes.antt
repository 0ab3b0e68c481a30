-- What a tree of each shape looks like.
use Rattle.std.proofs.Common.{◌≡◌, ℕ, Bool, true, false, cond, ◌&&◌, ◌||◌, eqb, ◌⊎◌, sym, refl, subst, inl, inr}
use Rattle.std.proofs.lemmas.Bool.{cases_eq, eqb-true, ne_eqb, and_parts, or_cases, false≢true}
use Rattle.rule.specs.Trees.{Tree, Forest, node, nil, cons}
use Rattle.sameness.specs.Reduction.{is_absent, is_return, returns, Shape, empty, tail, statement, kept, shape_of_body, shape_of_block, shape}

pub data View : ℕ → Forest → Shape → Type 0 where
  is_empty : {w av aw : ℕ} → View 15 (cons (node 94 0 w (cons (node 0 av aw nil) nil)) nil) empty
  is_tail : {w rv rw : ℕ} {rs : Forest} → View 15 (cons (node 94 0 w (cons (node 31 rv rw rs) nil)) nil) tail
  is_96 : {w sv sw rv rw av aw : ℕ} {rs : Forest} → View 15 (cons (node 94 0 w (cons (node 96 sv sw (cons (node 31 rv rw rs) nil)) (cons (node 0 av aw nil) nil))) nil) statement
  is_97 : {w sv sw rv rw av aw : ℕ} {rs : Forest} → View 15 (cons (node 94 0 w (cons (node 97 sv sw (cons (node 31 rv rw rs) nil)) (cons (node 0 av aw nil) nil))) nil) statement
  is_kept : {c : ℕ} {ts : Forest} → View c ts kept

---- the parts of a block

data Gone : Tree → Type 0 where
  gone : {v w : ℕ} → Gone (node 0 v w nil)

data Returning : Tree → Type 0 where
  r_96 : {sv sw rv rw : ℕ} {rs : Forest} → Returning (node 96 sv sw (cons (node 31 rv rw rs) nil))
  r_97 : {sv sw rv rw : ℕ} {rs : Forest} → Returning (node 97 sv sw (cons (node 31 rv rw rs) nil))

gone-view : (t : Tree) → is_absent t ≡ true → Gone t
unfolding is_absent
gone-view (node c v w nil) e = subst (λ k. Gone (node k v w nil)) (sym (eqb-true c 0 (and_parts _ _ e).0)) gone
gone-view (node c v w (cons t ts)) e = absurd (false≢true (and_parts (eqb c 0) false e).1)

returning-view : (t : Tree) → returns t ≡ true → Returning t
unfolding returns is_return
returning-view (node c v w nil) e = absurd (false≢true (and_parts (eqb c 96 || eqb c 97) false e).1)
returning-view (node c v w (cons (node d rv rw' rs) nil)) e = go (or_cases (eqb c 96) (eqb c 97) p.0)
  where
    p : ((eqb c 96 || eqb c 97) ≡ true) × (eqb d 31 ≡ true)
    p = and_parts (eqb c 96 || eqb c 97) (eqb d 31) e

    go : (eqb c 96 ≡ true) ⊎ (eqb c 97 ≡ true) → Returning (node c v w (cons (node d rv rw' rs) nil))
    go (inl q) = rw (eqb-true c 96 q, eqb-true d 31 p.1) r_96
    go (inr q) = rw (eqb-true c 97 q, eqb-true d 31 p.1) r_97
returning-view (node c v w (cons t (cons t' ts))) e = absurd (false≢true (and_parts (eqb c 96 || eqb c 97) false e).1)

statement-view : {w : ℕ} {s t : Tree} → Returning s → Gone t → View 15 (cons (node 94 0 w (cons s (cons t nil))) nil) statement
statement-view r_96 gone = is_96
statement-view r_97 gone = is_97

empty-view : {w : ℕ} {t : Tree} → Gone t → View 15 (cons (node 94 0 w (cons t nil)) nil) empty
empty-view gone = is_empty

---- a block

body-view : (w : ℕ) (b : Forest) → View 15 (cons (node 94 0 w b) nil) (shape_of_body b)
unfolding shape_of_body
body-view w nil = is_kept
body-view w (cons (node c v x ts) nil) = go (is_absent t) refl (cases_eq c 31)
  where
    t : Tree
    t = node c v x ts

    go : (b : Bool) → is_absent t ≡ b → (c ≡ 31) ⊎ (c ≡ 31 → ⊥) → View 15 (cons (node 94 0 w (cons t nil)) nil) (cond b empty (cond (eqb c 31) tail kept))
    go true e k = empty-view (gone-view t e)
    go false e (inl k) = rw k is_tail
    go false e (inr m) = rw (ne_eqb c 31 m) is_kept
body-view w (cons s (cons t nil)) = go (returns s && is_absent t) refl
  where
    go : (b : Bool) → (returns s && is_absent t) ≡ b → View 15 (cons (node 94 0 w (cons s (cons t nil))) nil) (cond b statement kept)
    go true e = let p = and_parts (returns s) (is_absent t) e in statement-view (returning-view s p.0) (gone-view t p.1)
    go false e = is_kept
body-view w (cons s (cons t (cons t' ts))) = is_kept

---- any node

pub view : (c : ℕ) (ts : Forest) → View c ts (shape c ts)
unfolding shape shape_of_block
view c nil = is_kept
view c (cons (node d v w b) nil) = go (cases_eq c 15) (eqb d 94 && eqb v 0) refl
  where
    at : (eqb d 94 && eqb v 0) ≡ true → View 15 (cons (node d v w b) nil) (shape_of_body b)
    at e = let p = and_parts (eqb d 94) (eqb v 0) e in rw (eqb-true d 94 p.0, eqb-true v 0 p.1) (body-view w b)

    go : (c ≡ 15) ⊎ (c ≡ 15 → ⊥) → (k : Bool) → (eqb d 94 && eqb v 0) ≡ k → View c (cons (node d v w b) nil) (cond (eqb c 15) (cond k (shape_of_body b) kept) kept)
    go (inl e) true p = rw e (at p)
    go (inl e) false p = rw e is_kept
    go (inr n) k p = rw (ne_eqb c 15 n) is_kept
view c (cons t (cons t' ts)) = is_kept
