-- The outcome of two nodes, by what their codes are.
use Rattle.std.proofs.Common.{◌≡◌, ℕ, ◌+◌, ◌<◌, ◌≤◌, Bool, true, false, cond, not, ◌&&◌, eqb, ◌⊎◌, sym, refl, ap, ◌∙◌, subst, inl, inr, arith}
use Rattle.std.proofs.lemmas.Bool.{eq-eqb, ne_eqb, eqb-true, cond-true, cond-false, and_parts, and_left, and_right, and_from, cases_eq, cases_lt}
use Rattle.rule.specs.Trees.{Forest, node}
use Rattle.rule.specs.Scopes.{declares, uses, plain, role, declared, used}
use Rattle.rule.specs.Intake.{barred}
use Rattle.sameness.specs.Sameness.{bare_v}
use Rattle.sameness.specs.Deciding.{Table, Outcome, fails, holds, and_then, or_else, given, direct_test, reversed_test, at_roles, exchanging, decide, decide_all, matched, fresh, add}
use Rattle.sameness.proofs.Steps.{decide-node, at_roles-plain}

pub or-fails : (o : Outcome) → or_else o fails ≡ o
or-fails fails = refl
or-fails (holds P) = refl

---- what a node does with a local, by its code

pub role-declares : (c v w : ℕ) → c ≡ 41 → role c v w ≡ declares v
unfolding role
role-declares c v w e = cond-true (eqb c 41) (declares v) _ (eq-eqb c 41 e)

pub role-uses : (c v w : ℕ) → c ≡ 70 → v ≡ 0 → role c v w ≡ uses w
unfolding role
role-uses c v w e f =
    cond-false (eqb c 41) (declares v) _ (ne_eqb c 41 (λ g. omega arith))
    ∙ cond-true (eqb c 70 && eqb v 0) (uses w) plain (and_from _ _ (eq-eqb c 70 e) (eq-eqb v 0 f))

-- neither a binding nor a path to a local
pub role-plain : (c v w : ℕ) → (c ≡ 41 → ⊥) → ((c ≡ 70) × (v ≡ 0) → ⊥) → role c v w ≡ plain
unfolding role
role-plain c v w n m = cond-false (eqb c 41) (declares v) _ (ne_eqb c 41 n) ∙ cond-false (eqb c 70 && eqb v 0) (uses w) plain (go (cases_eq c 70) (cases_eq v 0))
  where
    go : (c ≡ 70) ⊎ (c ≡ 70 → ⊥) → (v ≡ 0) ⊎ (v ≡ 0 → ⊥) → (eqb c 70 && eqb v 0) ≡ false
    go (inl e) (inl f) = absurd (m (e, f))
    go (inl e) (inr f) = and_right (eqb c 70) (eqb v 0) (ne_eqb v 0 f)
    go (inr e) k = and_left (eqb c 70) (eqb v 0) (ne_eqb c 70 e)

-- a local that a node names is low
pub low-declared : (c v w : ℕ) → c ≡ 41 → ((x : ℕ) → 1023 < x → declared x (role c v w) + used x (role c v w) ≡ 0) → v < 1024
unfolding declared used
low-declared c v w e h = go (cases_lt v 1024)
  where
    go : (v < 1024) ⊎ (1024 ≤ v) → v < 1024
    go (inl l) = l
    go (inr l) =
        absurd
        (let k : declared v (declares v) + used v (declares v) ≡ 0 = subst (λ r. declared v r + used v r ≡ 0) (role-declares c v w e) (h v (omega arith)) in
        let one : ◌≡◌ {A = ℕ} (cond (eqb v v) 1 0) 1 = cond-true (eqb v v) 1 0 (eq-eqb v v refl) in
        omega arith)

pub low-used : (c v w : ℕ) → c ≡ 70 → v ≡ 0 → ((x : ℕ) → 1023 < x → declared x (role c v w) + used x (role c v w) ≡ 0) → w < 1024
unfolding declared used
low-used c v w e f h = go (cases_lt w 1024)
  where
    go : (w < 1024) ⊎ (1024 ≤ w) → w < 1024
    go (inl l) = l
    go (inr l) =
        absurd
        (let k : declared w (uses w) + used w (uses w) ≡ 0 = subst (λ r. declared w r + used w r ≡ 0) (role-uses c v w e f) (h w (omega arith)) in
        let one : ◌≡◌ {A = ℕ} (cond (eqb w w) 1 0) 1 = cond-true (eqb w w) 1 0 (eq-eqb w w refl) in
        omega arith)

---- what the test of the words tells

module _ (c v w c' v' w' : ℕ) where
  pub direct-code : direct_test c v w c' v' w' ≡ true → c ≡ c'
  unfolding direct_test
  direct-code h =
      let p = and_parts (not (barred c)) _ h in
      let q = and_parts (eqb c c') _ p.1 in
      eqb-true c c' q.0

  bare-same : direct_test c v w c' v' w' ≡ true → bare_v c v ≡ bare_v c' v'
  unfolding direct_test
  bare-same h =
      let p = and_parts (not (barred c)) _ h in
      let q = and_parts (eqb c c') _ p.1 in
      let s = and_parts (eqb (bare_v c v) (bare_v c' v')) _ q.1 in
      eqb-true _ _ s.0

  -- of paths, v is compared
  pub direct-path : direct_test c v w c' v' w' ≡ true → c ≡ 70 → v ≡ v'
  unfolding bare_v
  direct-path h e =
      let f : c' ≡ 70 = sym (direct-code h) ∙ e in
      sym (ap (λ k. bare_v k v) e) ∙ bare-same h ∙ ap (λ k. bare_v k v') f

  pub not-reversed : (c ≡ 14 → ⊥) → reversed_test c v w c' v' w' ≡ false
  unfolding reversed_test
  not-reversed n = and_left (eqb c 14) _ (ne_eqb c 14 n)

  -- no comparison: only one reading
  pub one-reading : (ts us : Forest) (P : Table) → (c ≡ 14 → ⊥) → decide (node c v w ts) (node c' v' w' us) P
      ≡ given (direct_test c v w c' v' w') (and_then (decide_all ts us P) (at_roles (role c v w) (role c' v' w')))
  one-reading ts us P n =
      decide-node c v w ts c' v' w' us P
      ∙ ap (λ b. or_else (given (direct_test c v w c' v' w') (and_then (decide_all ts us P) (at_roles (role c v w) (role c' v' w')))) (given b (exchanging (decide_all ts) us P))) (not-reversed n)
      ∙ or-fails _

  pub unequal : (ts us : Forest) (P : Table) → (c ≡ 14 → ⊥) → direct_test c v w c' v' w' ≡ false → decide (node c v w ts) (node c' v' w' us) P ≡ fails
  unequal ts us P n d = one-reading ts us P n ∙ ap (λ b. given b (and_then (decide_all ts us P) (at_roles (role c v w) (role c' v' w')))) d

  equal : (ts us : Forest) (P : Table) → (c ≡ 14 → ⊥) → direct_test c v w c' v' w' ≡ true
      → decide (node c v w ts) (node c' v' w' us) P ≡ and_then (decide_all ts us P) (at_roles (role c v w) (role c' v' w'))
  equal ts us P n d = one-reading ts us P n ∙ ap (λ b. given b (and_then (decide_all ts us P) (at_roles (role c v w) (role c' v' w')))) d

  -- the children fail
  pub kids-fail : (ts us : Forest) (P : Table) → (c ≡ 14 → ⊥) → direct_test c v w c' v' w' ≡ true → decide_all ts us P ≡ fails → decide (node c v w ts) (node c' v' w' us) P ≡ fails
  kids-fail ts us P n d e = equal ts us P n d ∙ ap (λ o. and_then o (at_roles (role c v w) (role c' v' w'))) e

  -- the children hold, and then it goes by the locals
  pub kids-hold : (ts us : Forest) (P Q : Table) → (c ≡ 14 → ⊥) → direct_test c v w c' v' w' ≡ true → decide_all ts us P ≡ holds Q
      → decide (node c v w ts) (node c' v' w' us) P ≡ at_roles (role c v w) (role c' v' w') Q
  kids-hold ts us P Q n d e = equal ts us P n d ∙ ap (λ o. and_then o (at_roles (role c v w) (role c' v' w'))) e

  pub at_plain : (Q : Table) → direct_test c v w c' v' w' ≡ true → (c ≡ 41 → ⊥) → ((c ≡ 70) × (v ≡ 0) → ⊥) → at_roles (role c v w) (role c' v' w') Q ≡ holds Q
  at_plain Q d n m =
      let e = direct-code d in
      let r : role c v w ≡ plain = role-plain c v w n m in
      let r' : role c' v' w' ≡ plain = role-plain c' v' w' (λ f. n (e ∙ f)) (λ f. let g : c ≡ 70 = e ∙ f.0 in m (g, direct-path d g ∙ f.1)) in
      ap (λ k. at_roles k (role c' v' w') Q) r ∙ ap (λ k. at_roles plain k Q) r' ∙ at_roles-plain Q

  pub at-binding : (Q : Table) → direct_test c v w c' v' w' ≡ true → c ≡ 41 → at_roles (role c v w) (role c' v' w') Q ≡ given (fresh Q v v') (holds (add v v' Q))
  unfolding at_roles
  at-binding Q d e =
      let f : c' ≡ 41 = sym (direct-code d) ∙ e in
      ap (λ k. at_roles k (role c' v' w') Q) (role-declares c v w e) ∙ ap (λ k. at_roles (declares v) k Q) (role-declares c' v' w' f)

  pub at_local : (Q : Table) → direct_test c v w c' v' w' ≡ true → c ≡ 70 → v ≡ 0 → at_roles (role c v w) (role c' v' w') Q ≡ given (matched Q w w') (holds Q)
  unfolding at_roles
  at_local Q d e z =
      let f : c' ≡ 70 = sym (direct-code d) ∙ e in
      let z' : v' ≡ 0 = sym (direct-path d e) ∙ z in
      ap (λ k. at_roles k (role c' v' w') Q) (role-uses c v w e z) ∙ ap (λ k. at_roles (uses w) k Q) (role-uses c' v' w' f z')

  -- a binary expression: as it stands, or with exchanged operands
  pub two-readings : (ts us : Forest) (P : Table) → c ≡ 14 → decide (node c v w ts) (node c' v' w' us) P
      ≡ or_else (given (direct_test c v w c' v' w') (decide_all ts us P)) (given (reversed_test c v w c' v' w') (exchanging (decide_all ts) us P))
  two-readings ts us P e =
      decide-node c v w ts c' v' w' us P ∙ ap (λ o. or_else o (given (reversed_test c v w c' v' w') (exchanging (decide_all ts) us P))) (go (direct_test c v w c' v' w') refl)
    where
      n : c ≡ 41 → ⊥
      n f = omega arith

      m : (c ≡ 70) × (v ≡ 0) → ⊥
      m f = let g = f.0 in omega arith

      after : (o : Outcome) → direct_test c v w c' v' w' ≡ true → and_then o (at_roles (role c v w) (role c' v' w')) ≡ o
      after fails d = refl
      after (holds Q) d = at_plain Q d n m

      go : (b : Bool) → direct_test c v w c' v' w' ≡ b → given b (and_then (decide_all ts us P) (at_roles (role c v w) (role c' v' w'))) ≡ given b (decide_all ts us P)
      go true d = after (decide_all ts us P) d
      go false d = refl
