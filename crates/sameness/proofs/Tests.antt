-- The tests of two nodes say what the records of agreement say.
use Rattle.std.proofs.Common.{◌≡◌, ℕ, Bool, true, not, ◌&&◌, ◌||◌, eqb, ◌⊎◌, sym, refl, ap, ◌∙◌, subst, ap₂, inl, inr, ⊎_elim}
use Rattle.std.proofs.lemmas.Bool.{cases_eq, eqb-true, eq-eqb, ne_eqb, and_parts, and_from, or_cases}
use Rattle.rule.specs.Scopes.{role, compares}
use Rattle.rule.specs.Intake.{barred}
use Rattle.sameness.specs.Sameness.{bare_v, bare_w, Reverses, eq, lt, le, ne, ge, gt, Linked, Level, Reversed}
use Rattle.sameness.specs.Deciding.{direct_test, reverses_test, reversed_test}
use Rattle.sameness.proofs.Agreeing.{level-binary}

---- direct

pub direct-means : {R : ℕ → ℕ → Type 0} (c v w c' v' w' : ℕ) → direct_test c v w c' v' w' ≡ true → Linked R (role c v w) (role c' v' w') → Level R c v w c' v' w'
unfolding direct_test
direct-means c v w c' v' w' e k =
    let p = and_parts _ _ (and_parts _ _ e).1 in
    let q = and_parts _ _ p.1 in
    record { code = eqb-true c c' p.0; vs = eqb-true _ _ q.0; ws = eqb-true _ _ q.1; locals = k }

-- neither code is barred
pub direct-clean : (c v w c' v' w' : ℕ) → direct_test c v w c' v' w' ≡ true → (not (barred c) ≡ true) × (not (barred c') ≡ true)
unfolding direct_test
direct-clean c v w c' v' w' e =
    let p = and_parts (not (barred c)) _ e in
    let q = and_parts (eqb c c') _ p.1 in
    (p.0, ap (λ k. not (barred k)) (sym (eqb-true c c' q.0)) ∙ p.0)

pub level-tested : {R : ℕ → ℕ → Type 0} {c v w c' v' w' : ℕ} → not (barred c) ≡ true → Level R c v w c' v' w' → direct_test c v w c' v' w' ≡ true
unfolding direct_test
level-tested {R} {c} {v} {w} {c'} {v'} {w'} n l =
    and_from (not (barred c)) _ n
    (and_from (eqb c c') _ (eq-eqb c c' l.code) (and_from (eqb (bare_v c v) (bare_v c' v')) (eqb (bare_w c v w) (bare_w c' v' w')) (eq-eqb _ _ l.vs) (eq-eqb _ _ l.ws)))

pub level-compares : {R : ℕ → ℕ → Type 0} {c v w c' v' w' : ℕ} → Level R c v w c' v' w' → compares c' v' ≡ compares c v
unfolding compares
level-compares {R} {c} {v} {w} {c'} {v'} {w'} l = go (cases_eq c 14)
  where
    go : (c ≡ 14) ⊎ (c ≡ 14 → ⊥) → compares c' v' ≡ compares c v
    go (inl e) = ap₂ compares (sym l.code) (sym (level-binary l e).0)
    go (inr n) = rw (ne_eqb c 14 n, ne_eqb c' 14 (λ e. n (l.code ∙ e)))

---- reversed

reverses-at : (v v' : ℕ) (m n : ℕ) → Reverses m n → (eqb v m && eqb v' n) ≡ true → Reverses v v'
reverses-at v v' m n k e =
    let p = and_parts _ _ e in
    subst (λ a. Reverses a v') (sym (eqb-true v m p.0)) (subst (λ b. Reverses m b) (sym (eqb-true v' n p.1)) k)

or-either : (p q : Bool) {X : Type 0} → (p ≡ true → X) → (q ≡ true → X) → (p || q) ≡ true → X
or-either p q f g e = ⊎_elim f g (or_cases p q e)

pub reverses-means : (v v' : ℕ) → reverses_test v v' ≡ true → Reverses v v'
unfolding reverses_test
reverses-means v v' =
    or-either _ _ (reverses-at v v' 12 12 eq)
    (or-either _ _ (reverses-at v v' 13 17 lt)
    (or-either _ _ (reverses-at v v' 14 16 le) (or-either _ _ (reverses-at v v' 15 15 ne) (or-either _ _ (reverses-at v v' 16 14 ge) (reverses-at v v' 17 13 gt)))))

pub reverses-tested : {v v' : ℕ} → Reverses v v' → reverses_test v v' ≡ true
unfolding reverses_test
reverses-tested eq = refl
reverses-tested lt = refl
reverses-tested le = refl
reverses-tested ne = refl
reverses-tested ge = refl
reverses-tested gt = refl

pub reversed-means : (c v w c' v' w' : ℕ) → reversed_test c v w c' v' w' ≡ true → Reversed c v w c' v' w'
unfolding reversed_test
reversed-means c v w c' v' w' e =
    let p = and_parts _ _ e in
    let q = and_parts _ _ p.1 in
    let r = and_parts _ _ q.1 in
    record { code = eqb-true c 14 p.0; code' = eqb-true c' 14 q.0; reverses = reverses-means v v' r.0; same = eqb-true w w' r.1 }

pub reversed-tested : {c v w c' v' w' : ℕ} → Reversed c v w c' v' w' → reversed_test c v w c' v' w' ≡ true
unfolding reversed_test
reversed-tested {c} {v} {w} {c'} {v'} {w'} r =
    and_from (eqb c 14) _ (eq-eqb c 14 r.code)
    (and_from (eqb c' 14) _ (eq-eqb c' 14 r.code') (and_from (reverses_test v v') (eqb w w') (reverses-tested r.reverses) (eq-eqb w w' r.same)))

reverses-compares : {v v' : ℕ} → Reverses v v' → (compares 14 v ≡ true) × (compares 14 v' ≡ true)
unfolding compares
reverses-compares eq = (refl, refl)
reverses-compares lt = (refl, refl)
reverses-compares le = (refl, refl)
reverses-compares ne = (refl, refl)
reverses-compares ge = (refl, refl)
reverses-compares gt = (refl, refl)

pub reversed-compares : {c v w c' v' w' : ℕ} → Reversed c v w c' v' w' → (compares c v ≡ true) × (compares c' v' ≡ true)
reversed-compares r = (rw r.code (reverses-compares r.reverses).0, rw r.code' (reverses-compares r.reverses).1)
