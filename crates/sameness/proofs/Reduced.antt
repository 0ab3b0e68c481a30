-- Reduction keeps what a tree declares and uses, the locals in play, and whether a code is barred.
use Rattle.std.proofs.Common.{◌≡◌, ℕ, ◌+◌, Bool, true, false, not, ◌&&◌, sym, refl, ap, ◌∙◌, subst, ap₂, arith}
use mathlib.Core.Path.{fun_ext}
use Rattle.rule.specs.Trees.{Tree, Forest, node, nil, cons}
use Rattle.rule.specs.Scopes.{role, declared, decls, decls_all, compares}
use Rattle.rule.specs.Intake.{barred}
use Rattle.sameness.specs.Reduction.{Shape, shape, shaped, reduce, reduce_all}
use Rattle.sameness.specs.Sameness.{clean, clean_all}
use Rattle.sameness.proofs.InPlay.{outside, reach, reach_all, grown, UseSound, Scoped, ScopedAll, Sound}
use Rattle.sameness.proofs.Shapes.{View, is_empty, is_tail, is_96, is_97, is_kept, view}

---- declarations

shaped-decls : (x v w : ℕ) {c : ℕ} {ts : Forest} {s : Shape} → View c ts s
    → decls_all x (reduce_all ts) ≡ decls_all x ts → decls x (shaped s c v w (reduce_all ts)) ≡ decls_all x ts + declared x (role c v w)
unfolding decls decls_all declared role reduce reduce_all shaped shape
shaped-decls x v w is_empty ih = refl
shaped-decls x v w is_tail ih = omega arith
shaped-decls x v w is_96 ih = omega arith
shaped-decls x v w is_97 ih = omega arith
shaped-decls x v w (is_kept {c} {ts}) ih = ap (λ n. n + declared x (role c v w)) ih

mutual
  unfolding decls decls_all reduce reduce_all

  pub reduce-decls : (x : ℕ) (t : Tree) → decls x (reduce t) ≡ decls x t
  reduce-decls x (node c v w ts) = shaped-decls x v w (view c ts) (reduce_all-decls x ts)

  pub reduce_all-decls : (x : ℕ) (ts : Forest) → decls_all x (reduce_all ts) ≡ decls_all x ts
  reduce_all-decls x nil = refl
  reduce_all-decls x (cons t ts) = ap₂ ◌+◌ (reduce-decls x t) (reduce_all-decls x ts)

---- what reaches out of a part

shaped-reach : (x v w : ℕ) {c : ℕ} {ts : Forest} {s : Shape} → View c ts s
    → reach_all x (reduce_all ts) ≡ reach_all x ts → reach x (shaped s c v w (reduce_all ts)) ≡ outside (compares c v) (reach_all x ts) + declared x (role c v w)
unfolding declared role compares reduce reduce_all shaped shape
shaped-reach x v w is_empty ih = refl
shaped-reach x v w is_tail ih = omega arith
shaped-reach x v w is_96 ih = omega arith
shaped-reach x v w is_97 ih = omega arith
shaped-reach x v w (is_kept {c} {ts}) ih = ap (λ n. outside (compares c v) n + declared x (role c v w)) ih

mutual
  unfolding reduce reduce_all

  reduce-reach : (x : ℕ) (t : Tree) → reach x (reduce t) ≡ reach x t
  reduce-reach x (node c v w ts) = shaped-reach x v w (view c ts) (reduce_all-reach x ts)

  reduce_all-reach : (x : ℕ) (ts : Forest) → reach_all x (reduce_all ts) ≡ reach_all x ts
  reduce_all-reach x nil = refl
  reduce_all-reach x (cons t ts) = ap₂ ◌+◌ (reduce-reach x t) (reduce_all-reach x ts)

---- scopes

grown-same : (fork : Bool) {r r' : ℕ → ℕ} (vis : ℕ → ℕ) → ((x : ℕ) → r x ≡ r' x) → grown fork r vis ≡ grown fork r' vis
grown-same true vis h = refl
grown-same false vis h = fun_ext (λ x. ap (λ n. vis x + n) (h x))

shaped-scoped : (D vis : ℕ → ℕ) (v w : ℕ) {c : ℕ} {ts : Forest} {s : Shape} → View c ts s → ScopedAll D (compares c v) vis (reduce_all ts)
    → UseSound D (grown (compares c v) (λ x. reach_all x ts) vis) (role c v w) → Scoped D vis (shaped s c v w (reduce_all ts))
unfolding declared role compares reduce reduce_all shaped shape
shaped-scoped D vis v w is_empty sc u = (tt, tt)
shaped-scoped D vis v w is_tail sc u = sc.0.0.0
shaped-scoped D vis v w is_96 sc u = sc.0.0.0.0.0
shaped-scoped D vis v w is_97 sc u = sc.0.0.0.0.0
shaped-scoped D vis v w (is_kept {c} {ts}) sc u = (sc, subst (λ g. UseSound D g (role c v w)) (grown-same (compares c v) vis (λ x. sym (reduce_all-reach x ts))) u)

mutual
  unfolding reduce reduce_all

  reduce-scoped : (t : Tree) (D vis : ℕ → ℕ) → Scoped D vis t → Scoped D vis (reduce t)
  reduce-scoped (node c v w ts) D vis sc = shaped-scoped D vis v w (view c ts) (reduce_all-scoped ts D (compares c v) vis sc.0) sc.1

  reduce_all-scoped : (ts : Forest) (D : ℕ → ℕ) (fork : Bool) (vis : ℕ → ℕ) → ScopedAll D fork vis ts → ScopedAll D fork vis (reduce_all ts)
  reduce_all-scoped nil D fork vis sc = tt
  reduce_all-scoped (cons t ts) D fork vis sc = (
    reduce-scoped t D vis sc.0,
    subst (λ g. ScopedAll D fork g (reduce_all ts)) (grown-same fork vis (λ x. sym (reduce-reach x t))) (reduce_all-scoped ts D fork (grown fork (λ x. reach x t) vis) sc.1),
  )

pub reduce-sound : (t : Tree) → Sound t → Sound (reduce t)
reduce-sound t s =
    record {
      once = λ x. rw (reduce-decls x t) (s.once x);
      scoped = subst (λ D. Scoped D (λ x. 0) (reduce t)) (fun_ext (λ x. sym (reduce-decls x t))) (reduce-scoped t (λ x. decls x t) (λ x. 0) s.scoped);
    }

---- barred codes

pad₂ : (b : Bool) → b ≡ ((b && true) && true)
pad₂ true = refl
pad₂ false = refl

pad₃ : (b : Bool) → b ≡ (((b && true) && true) && true)
pad₃ true = refl
pad₃ false = refl

shaped-clean : (v w : ℕ) {c : ℕ} {ts : Forest} {s : Shape} → View c ts s → clean_all (reduce_all ts) ≡ clean_all ts → clean (shaped s c v w (reduce_all ts)) ≡ (not (barred c) && clean_all ts)
unfolding clean clean_all reduce reduce_all shaped shape
shaped-clean v w is_empty ih = refl
shaped-clean v w is_tail ih = pad₂ _ ∙ ih
shaped-clean v w is_96 ih = pad₃ _ ∙ ih
shaped-clean v w is_97 ih = pad₃ _ ∙ ih
shaped-clean v w (is_kept {c} {ts}) ih = ap (λ b. not (barred c) && b) ih

mutual
  unfolding clean clean_all reduce reduce_all

  pub reduce-clean : (t : Tree) → clean (reduce t) ≡ clean t
  reduce-clean (node c v w ts) = shaped-clean v w (view c ts) (reduce_all-clean ts)

  pub reduce_all-clean : (ts : Forest) → clean_all (reduce_all ts) ≡ clean_all ts
  reduce_all-clean nil = refl
  reduce_all-clean (cons t ts) = ap₂ ◌&&◌ (reduce-clean t) (reduce_all-clean ts)
