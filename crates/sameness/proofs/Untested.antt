-- In rules with sound scopes two declared locals never have a partner yet: the walk without that test is the same walk.
use Rattle.std.proofs.Common.{◌≡◌, ℕ, ◌+◌, ◌≤◌, cond, eqb, refl, ap, ◌∙◌, ap₂, arith}
use Rattle.std.proofs.lemmas.Bool.{eq-eqb}
use Rattle.rule.specs.Trees.{Tree, Forest, node, nil, cons}
use Rattle.rule.specs.Scopes.{Role, declares, uses, plain, role, declared, decls, decls_all}
use Rattle.sameness.specs.Reduction.{reduce}
use Rattle.sameness.specs.Sameness.{pair}
use Rattle.sameness.specs.Deciding.{Table, blank, add, Outcome, fails, holds, and_then, or_else, given, direct_test, reversed_test, at_roles, exchanging, decide, decide_all}
use Rattle.sameness.specs.Freely.{at_roles_freely, decide_freely, decide_all_freely}
use Rattle.sameness.specs.Claims.{TestNeverFails}
use Rattle.sameness.proofs.Steps.{decide-node, decide_all-nil, decide_all-over, decide_all-short, decide_all-cons}
use Rattle.sameness.proofs.Runs.{decide-run, decide_all-run}
use Rattle.sameness.proofs.Tables.{times_l, times_r, fresh-from}
use Rattle.sameness.proofs.Frames.{run-frame, runs-frame}
use Rattle.sameness.proofs.Theorems.{reduced-sound}

---- no local is noted more than once

-- what is noted and what is still declared, together
abbrev Room : (ℕ → ℕ) → (ℕ → ℕ) → Table → Type 0
Room dl dr P = ((x : ℕ) → times_l x P + dl x ≤ 1) × ((y : ℕ) → times_r y P + dr y ≤ 1)

roles-freely : (p q : Role) (P : Table) → Room (λ x. declared x p) (λ y. declared y q) P → at_roles p q P ≡ at_roles_freely p q P
unfolding at_roles declared
roles-freely (declares x) (declares y) P h =
    let i : ◌≡◌ {A = ℕ} (cond (eqb x x) 1 0) 1 = rw (eq-eqb x x refl) in
    let j : ◌≡◌ {A = ℕ} (cond (eqb y y) 1 0) 1 = rw (eq-eqb y y refl) in
    ap (λ b. given b (holds (add x y P))) (fresh-from P x y (omega (arith, h.0 x)) (omega (arith, h.1 y)))
roles-freely (declares x) (uses y) P h = refl
roles-freely (declares x) plain P h = refl
roles-freely (uses x) (declares y) P h = refl
roles-freely (uses x) (uses y) P h = refl
roles-freely (uses x) plain P h = refl
roles-freely plain (declares y) P h = refl
roles-freely plain (uses y) P h = refl
roles-freely plain plain P h = refl

then_same : (o : Outcome) {k l : Table → Outcome} → ((P : Table) → o ≡ holds P → k P ≡ l P) → and_then o k ≡ and_then o l
then_same fails h = refl
then_same (holds P) h = h P refl

exchanging-same : (k l : Forest → Table → Outcome) (us : Forest) (P : Table) → ((a b : Tree) → us ≡ pair a b → k (pair b a) P ≡ l (pair b a) P) → exchanging k us P ≡ exchanging l us P
unfolding exchanging
exchanging-same k l nil P h = refl
exchanging-same k l (cons a nil) P h = refl
exchanging-same k l (cons a (cons b nil)) P h = h a b refl
exchanging-same k l (cons a (cons b (cons t ts))) P h = refl

mutual
  unfolding decls decls_all decide_freely decide_all_freely

  pub decide-freely : (t u : Tree) (P : Table) → Room (λ x. decls x t) (λ y. decls y u) P → decide t u P ≡ decide_freely t u P
  decide-freely (node c v w ts) (node c' v' w' us) P h =
      let kids = decide_all-freely ts us P (λ x. omega (arith, h.0 x), λ y. omega (arith, h.1 y)) in
      let self = then_same (decide_all ts us P) (λ P₁ e.
      let f = runs-frame (decide_all-run ts us P P₁ e) in
      roles-freely (role c v w) (role c' v' w') P₁ (λ x. omega (arith, f.left x, h.0 x), λ y. omega (arith, f.right y, h.1 y))) in
      let swapped = exchanging-same (decide_all ts) (decide_all_freely ts) us P (λ a b e.
      decide_all-freely ts (pair b a) P (λ x. omega (arith, h.0 x), λ y. omega (arith, h.1 y, ap (λ f. decls_all y f) e))) in
      decide-node c v w ts c' v' w' us P
      ∙ ap₂ or_else (ap (given (direct_test c v w c' v' w')) (self ∙ ap (λ o. and_then o (at_roles_freely (role c v w) (role c' v' w'))) kids)) (ap (given (reversed_test c v w c' v' w')) swapped)

  pub decide_all-freely : (ts us : Forest) (P : Table) → Room (λ x. decls_all x ts) (λ y. decls_all y us) P → decide_all ts us P ≡ decide_all_freely ts us P
  decide_all-freely nil nil P h = decide_all-nil P
  decide_all-freely nil (cons u us) P h = decide_all-over u us P
  decide_all-freely (cons t ts) nil P h = decide_all-short t ts P
  decide_all-freely (cons t ts) (cons u us) P h =
      let first = decide-freely t u P (λ x. omega (arith, h.0 x), λ y. omega (arith, h.1 y)) in
      let rest = then_same (decide t u P) (λ P₁ e.
      let f = run-frame (decide-run t u P P₁ e) in
      decide_all-freely ts us P₁ (λ x. omega (arith, f.left x, h.0 x), λ y. omega (arith, f.right y, h.1 y))) in
      decide_all-cons t ts u us P ∙ (rest ∙ ap (λ o. and_then o (decide_all_freely ts us)) first)

pub test-never-fails : TestNeverFails
test-never-fails t u s s' =
    let a = reduced-sound t s in
    let b = reduced-sound u s' in
    decide-freely (reduce t) (reduce u) blank (λ x. omega (arith, a.once x), λ y. omega (arith, b.once y))
