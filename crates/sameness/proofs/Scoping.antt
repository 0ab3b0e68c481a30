-- In a rule with sound scopes each use is of a local in play, or of one that is declared nowhere.
use Rattle.std.proofs.Common.{◌≡◌, ℕ, ◌+◌, ◌<◌, ◌≤◌, Bool, true, false, cond, eqb, refl, ⊎_elim, arith}
use Rattle.std.proofs.lemmas.Bool.{cases_lt, eq-eqb}
use Rattle.rule.specs.Trees.{Tree, Forest, node, nil, cons}
use Rattle.rule.specs.Scopes.{Role, declares, uses, plain, role, declared, used, decls, decls_all, uses_of, uses_all, compares, OwnUses, Closed, Enclosed, EnclosedAll, SoundScopes}
use Rattle.rule.proofs.Walked.{Apart, ApartAll, sound-apart}
use Rattle.rule.proofs.Walked.{undeclared}
use Rattle.sameness.proofs.InPlay.{outside, reach, reach_all, grown, UseSound, Scoped, ScopedAll, Sound}

---- what does not reach out of a part is used, of all its uses U, in that part only

own-all : (U : ℕ → ℕ) (ts : Forest) (x : ℕ) → OwnUses U ts → 0 < decls_all x ts → U x ≤ uses_all x ts
unfolding OwnUses decls_all uses_all
own-all U nil x o d = absurd (omega arith)
own-all U (cons t ts) x o d = ⊎_elim (λ g. omega (arith, o.0 x g)) (λ g. omega (arith, own-all U ts x o.1 (omega arith))) (cases_lt 0 (decls x t))

hidden-kids : (fork : Bool) (U : ℕ → ℕ) (ts : Forest) (x : ℕ) → Closed fork U ts
    → (reach_all x ts < decls_all x ts → U x ≤ uses_all x ts) → outside fork (reach_all x ts) < decls_all x ts → U x ≤ uses_all x ts
unfolding Closed
hidden-kids true U ts x k h d = own-all U ts x k d
hidden-kids false U ts x k h d = h d

mutual
  unfolding decls decls_all uses_of uses_all Enclosed EnclosedAll

  hidden : (U : ℕ → ℕ) (t : Tree) (x : ℕ) → Enclosed U t → reach x t < decls x t → U x ≤ uses_of x t
  hidden U (node c v w ts) x e d = omega (arith, hidden-kids (compares c v) U ts x e.1 (hidden_all U ts x e.0) (omega arith))

  hidden_all : (U : ℕ → ℕ) (ts : Forest) (x : ℕ) → EnclosedAll U ts → reach_all x ts < decls_all x ts → U x ≤ uses_all x ts
  hidden_all U nil x e d = absurd (omega arith)
  hidden_all U (cons t ts) x e d =
      ⊎_elim (λ g. omega (arith, hidden U t x e.0 g)) (λ g. omega (arith, hidden_all U ts x e.1 (omega arith))) (cases_lt (reach x t) (decls x t))

---- what is still used behind a part is in play

closed-rest : (fork : Bool) (U : ℕ → ℕ) (t : Tree) (ts : Forest) → Closed fork U (cons t ts) → Closed fork U ts
unfolding Closed OwnUses
closed-rest true U t ts k = k.1
closed-rest false U t ts k = tt

after_first : (fork : Bool) (U vis : ℕ → ℕ) (t : Tree) (ts : Forest) (x : ℕ) → Closed fork U (cons t ts) → Enclosed U t → uses_of x t < U x → vis x + decls x t ≤ grown fork (λ z. reach z t) vis x
unfolding Closed OwnUses
after_first true U vis t ts x k e u = ⊎_elim (λ g. absurd (omega (arith, k.0 x g))) (λ g. omega arith) (cases_lt 0 (decls x t))
after_first false U vis t ts x k e u = ⊎_elim (λ g. absurd (omega (arith, hidden U t x e g))) (λ g. omega arith) (cases_lt (reach x t) (decls x t))

after-kids : (fork : Bool) (U vis : ℕ → ℕ) (ts : Forest) (x : ℕ) → Closed fork U ts → EnclosedAll U ts → uses_all x ts < U x → vis x + decls_all x ts ≤ grown fork (λ z. reach_all z ts) vis x
unfolding Closed
after-kids true U vis ts x k e u = ⊎_elim (λ g. absurd (omega (arith, own-all U ts x k g))) (λ g. omega arith) (cases_lt 0 (decls_all x ts))
after-kids false U vis ts x k e u = ⊎_elim (λ g. absurd (omega (arith, hidden_all U ts x e g))) (λ g. omega arith) (cases_lt (reach_all x ts) (decls_all x ts))

---- each use
-- b: how often declared before the part, a: behind it; what is used in the part is not declared behind it, and is in play where it is declared before it

use-at : (D U vis b a : ℕ → ℕ) (fork : Bool) (ts : Forest) (p : Role) → Closed fork U ts → EnclosedAll U ts
    → ((x : ℕ) → D x ≡ b x + (decls_all x ts + declared x p) + a x)
    → ((x : ℕ) → uses_all x ts + used x p ≤ U x)
    → ((x : ℕ) → 0 < uses_all x ts + used x p → (a x ≡ 0) × (b x ≤ vis x))
    → UseSound D (grown fork (λ z. reach_all z ts) vis) p
unfolding declared used
use-at D U vis b a fork ts (declares y) k e d u h = tt
use-at D U vis b a fork ts (uses y) k e d u h =
    λ pos.
    let one : ◌≡◌ {A = ℕ} (cond (eqb y y) 1 0) 1 = rw (eq-eqb y y refl) in
    let w = h y (omega arith) in
    omega (arith, d y, after-kids fork U vis ts y k e (omega (arith, u y)))
use-at D U vis b a fork ts plain k e d u h = tt

-- what the first part uses is not declared in the second
module _ (D U : ℕ → ℕ) where
  mutual
    unfolding decls decls_all uses_of uses_all Apart ApartAll Enclosed EnclosedAll

    scoping : (t : Tree) (vis b a : ℕ → ℕ) → Apart t → Enclosed U t
        → ((x : ℕ) → D x ≡ b x + decls x t + a x)
        → ((x : ℕ) → uses_of x t ≤ U x)
        → ((x : ℕ) → 0 < uses_of x t → (a x ≡ 0) × (b x ≤ vis x))
        → Scoped D vis t
    scoping (node c v w ts) vis b a o e d u h = (
      scoping_all ts (compares c v) vis b (λ x. declared x (role c v w) + a x) o.0 e.0 e.1
          (λ x. omega (arith, d x))
          (λ x. omega (arith, u x))
          (λ x p. let k = h x (omega arith) in (omega (arith, undeclared (decls_all x ts) (declared x (role c v w)) (uses_all x ts) (o.1 x) p), k.1)),
      use-at D U vis b a (compares c v) ts (role c v w) e.1 e.0 d u h,
    )

    scoping_all : (ts : Forest) (fork : Bool) (vis b a : ℕ → ℕ) → ApartAll ts → EnclosedAll U ts → Closed fork U ts
        → ((x : ℕ) → D x ≡ b x + decls_all x ts + a x)
        → ((x : ℕ) → uses_all x ts ≤ U x)
        → ((x : ℕ) → 0 < uses_all x ts → (a x ≡ 0) × (b x ≤ vis x))
        → ScopedAll D fork vis ts
    scoping_all nil fork vis b a o e k d u h = tt
    scoping_all (cons t ts) fork vis b a o e k d u h = (
      scoping t vis b (λ x. decls_all x ts + a x) o.0 e.0
          (λ x. omega (arith, d x))
          (λ x. omega (arith, u x))
          (λ x p. let q = h x (omega arith) in (omega (arith, undeclared (decls x t) (decls_all x ts) (uses_of x t) (o.2 x) p), q.1)),
      scoping_all ts fork (grown fork (λ z. reach z t) vis) (λ x. b x + decls x t) a o.1 e.1 (closed-rest fork U t ts k)
          (λ x. omega (arith, d x))
          (λ x. omega (arith, u x))
          (λ x p. let q = h x (omega arith) in (q.0, omega (arith, after_first fork U vis t ts x k e.0 (omega (arith, u x))))),
    )

pub sound-scopes : (t : Tree) → SoundScopes t → Sound t
sound-scopes t s =
    record {
      once = s.once;
      scoped = scoping (λ x. decls x t) (λ x. uses_of x t) t (λ x. 0) (λ x. 0) (λ x. 0) (sound-apart t s.ordered s.once) s.enclosed
          (λ x. omega arith) (λ x. omega arith) (λ x p. (refl, omega arith));
    }
