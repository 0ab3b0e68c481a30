-- A walk of two trees that holds, as a derivation.
use Rattle.std.proofs.Common.{◌≡◌, ℕ, Bool, true, false, ◌⊎◌, sym, refl, ◌∙◌, subst, inl, inr, arith}
use Rattle.rule.specs.Trees.{Tree, Forest, node, nil, cons}
use Rattle.rule.specs.Scopes.{role}
use Rattle.sameness.specs.Sameness.{pair}
use Rattle.sameness.specs.Deciding.{Table, Outcome, fails, holds, and_then, or_else, given, direct_test, reversed_test, at_roles, exchanging, decide, decide_all}
use Rattle.sameness.proofs.Steps.{decide-node, decide_all-nil, decide_all-over, decide_all-short, decide_all-cons}

mutual
  -- from the first table to the second
  pub data Run : Table → Tree → Tree → Table → Type 0 where
    straight : {c v w c' v' w' : ℕ} {ts us : Forest} {P P₁ P' : Table}
        → direct_test c v w c' v' w' ≡ true → RunAll P ts us P₁ → at_roles (role c v w) (role c' v' w') P₁ ≡ holds P' → Run P (node c v w ts) (node c' v' w' us) P'
    crossed : {c v w c' v' w' : ℕ} {ts : Forest} {a b : Tree} {P P' : Table}
        → reversed_test c v w c' v' w' ≡ true → RunAll P ts (pair b a) P' → Run P (node c v w ts) (node c' v' w' (pair a b)) P'

  pub data RunAll : Table → Forest → Forest → Table → Type 0 where
    done : {P : Table} → RunAll P nil nil P
    next : {t u : Tree} {ts us : Forest} {P P₁ P' : Table} → Run P t u P₁ → RunAll P₁ ts us P' → RunAll P (cons t ts) (cons u us) P'

---- outcomes

pub fails≢ : {P : Table} → fails ≡ holds P → ⊥
fails≢ e = let z : ◌≡◌ {A = ℕ} 0 1 = cc in omega arith

pub holds-inj : {P Q : Table} → holds P ≡ holds Q → P ≡ Q
holds-inj e = cc

pub or_else-inv : (o₁ o₂ : Outcome) {P : Table} → or_else o₁ o₂ ≡ holds P → (o₁ ≡ holds P) ⊎ (o₂ ≡ holds P)
or_else-inv fails o₂ e = inr e
or_else-inv (holds Q) o₂ e = inl e

pub given-inv : (b : Bool) (o : Outcome) {P : Table} → given b o ≡ holds P → (b ≡ true) × (o ≡ holds P)
given-inv true o e = (refl, e)
given-inv false o e = absurd (fails≢ e)

pub and_then-inv : (o : Outcome) (k : Table → Outcome) {P : Table} → and_then o k ≡ holds P → (P₁ : Table) × (o ≡ holds P₁) × (k P₁ ≡ holds P)
and_then-inv fails k e = absurd (fails≢ e)
and_then-inv (holds Q) k e = (Q, refl, e)

---- trees

crossed-inv : {c v w c' v' w' : ℕ} {ts : Forest} {P P' : Table}
    → ((us : Forest) (Q Q' : Table) → decide_all ts us Q ≡ holds Q' → RunAll Q ts us Q') → (us : Forest) → reversed_test c v w c' v' w' ≡ true
    → exchanging (decide_all ts) us P ≡ holds P' → Run P (node c v w ts) (node c' v' w' us) P'
unfolding exchanging
crossed-inv h nil t e = absurd (fails≢ e)
crossed-inv h (cons a nil) t e = absurd (fails≢ e)
crossed-inv {P = P} {P' = P'} h (cons a (cons b nil)) t e = crossed t (h (pair b a) P P' e)
crossed-inv h (cons a (cons b (cons d ds))) t e = absurd (fails≢ e)

node-inv : (c v w : ℕ) (ts : Forest) (c' v' w' : ℕ) (us : Forest) (P P' : Table) → ((us' : Forest) (Q Q' : Table) → decide_all ts us' Q ≡ holds Q' → RunAll Q ts us' Q')
    → decide (node c v w ts) (node c' v' w' us) P ≡ holds P' → Run P (node c v w ts) (node c' v' w' us) P'
node-inv c v w ts c' v' w' us P P' h e = go (or_else-inv o₁ o₂ (sym (decide-node c v w ts c' v' w' us P) ∙ e))
  where
    o₁ : Outcome
    o₁ = given (direct_test c v w c' v' w') (and_then (decide_all ts us P) (at_roles (role c v w) (role c' v' w')))

    o₂ : Outcome
    o₂ = given (reversed_test c v w c' v' w') (exchanging (decide_all ts) us P)

    go : (o₁ ≡ holds P') ⊎ (o₂ ≡ holds P') → Run P (node c v w ts) (node c' v' w' us) P'
    go (inl p) =
        let g = given-inv _ _ p in
        let a = and_then-inv _ _ g.1 in
        straight g.0 (h us P a.0 a.1) a.2
    go (inr q) =
        let g = given-inv _ _ q in
        crossed-inv h us g.0 g.1

mutual
  pub decide-run : (t u : Tree) (P P' : Table) → decide t u P ≡ holds P' → Run P t u P'
  decide-run (node c v w ts) (node c' v' w' us) P P' e = node-inv c v w ts c' v' w' us P P' (decide_all-run ts) e

  pub decide_all-run : (ts us : Forest) (P P' : Table) → decide_all ts us P ≡ holds P' → RunAll P ts us P'
  decide_all-run nil nil P P' e = subst (λ Q. RunAll P nil nil Q) (holds-inj (sym (decide_all-nil P) ∙ e)) done
  decide_all-run nil (cons u us) P P' e = absurd (fails≢ (sym (decide_all-over u us P) ∙ e))
  decide_all-run (cons t ts) nil P P' e = absurd (fails≢ (sym (decide_all-short t ts P) ∙ e))
  decide_all-run (cons t ts) (cons u us) P P' e =
      let a = and_then-inv (decide t u P) (decide_all ts us) (sym (decide_all-cons t ts u us P) ∙ e) in
      next (decide-run t u P a.0 a.1) (decide_all-run ts us a.0 P' a.2)
