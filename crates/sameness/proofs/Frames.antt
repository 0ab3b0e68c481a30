-- What a walk that holds does to the table: it adds what the trees declare, keeps what was noted, and leaves alone what
-- the trees do not declare.
use Rattle.std.proofs.Common.{◌≡◌, ℕ, ◌+◌, true, cond, eqb, sym, refl, ap, ◌∙◌, subst, arith}
use Rattle.std.proofs.lemmas.Bool.{eqb-true, eq-eqb, and_parts}
use Rattle.rule.specs.Trees.{Tree, Forest}
use Rattle.rule.specs.Scopes.{Role, declares, uses, plain, role, declared, decls, decls_all}
use Rattle.sameness.specs.Deciding.{Table, add, matched, fresh, holds, reversed_test, at_roles}
use Rattle.sameness.proofs.Runs.{Run, RunAll, straight, crossed, done, next, fails≢, holds-inj, given-inv}
use Rattle.sameness.proofs.Tables.{times_l, times_r, In, below, matched-below}

-- from P to P', where the first tree declares as dl says and the second as dr says
pub record Frame (dl dr : ℕ → ℕ) (P P' : Table) : Type 0 where
  pub left : (x : ℕ) → times_l x P' ≡ times_l x P + dl x
  pub right : (y : ℕ) → times_r y P' ≡ times_r y P + dr y
  pub kept : (x y : ℕ) → In P x y → In P' x y
  pub still : (x y : ℕ) → dl x ≡ 0 → dr y ≡ 0 → matched P' x y ≡ matched P x y

frame-none : (P : Table) → Frame (λ x. 0) (λ y. 0) P P
frame-none P = record { left = λ x. omega arith; right = λ y. omega arith; kept = λ x y h. h; still = λ x y p q. refl }

frame-join : {dl dr dl' dr' : ℕ → ℕ} {P P₁ P' : Table} → Frame dl dr P P₁ → Frame dl' dr' P₁ P' → Frame (λ x. dl x + dl' x) (λ y. dr y + dr' y) P P'
frame-join f g =
    record {
      left = λ x. omega (arith, f.left x, g.left x);
      right = λ y. omega (arith, f.right y, g.right y);
      kept = λ x y h. g.kept x y (f.kept x y h);
      still = λ x y p q. g.still x y (omega arith) (omega arith) ∙ f.still x y (omega arith) (omega arith);
    }

-- the same over equal counts
frame-as : {dl dr dl' dr' : ℕ → ℕ} {P P' : Table} → ((x : ℕ) → dl x ≡ dl' x) → ((y : ℕ) → dr y ≡ dr' y) → Frame dl dr P P' → Frame dl' dr' P P'
frame-as p q f =
    record {
      left = λ x. omega (arith, f.left x, p x);
      right = λ y. omega (arith, f.right y, q y);
      kept = f.kept;
      still = λ x y m n. f.still x y (p x ∙ m) (q y ∙ n);
    }

---- one node

-- `cond (eqb x a) 1 0` is 0 only off a
one-off : (x a : ℕ) → ◌≡◌ {A = ℕ} (cond (eqb x a) 1 0) 0 → x ≡ a → ⊥
one-off x a e p = let z : ◌≡◌ {A = ℕ} 1 0 = sym (ap {B = ℕ} (λ b. cond b 1 0) (eq-eqb x a p)) ∙ e in omega arith

pub frame-roles : (p q : Role) (P P' : Table) → at_roles p q P ≡ holds P' → Frame (λ x. declared x p) (λ y. declared y q) P P'
unfolding at_roles declared
frame-roles (declares a) (declares b) P P' e =
    subst (λ Q. Frame (λ x. cond (eqb x a) 1 0) (λ y. cond (eqb y b) 1 0) P Q) (holds-inj (given-inv (fresh P a b) (holds (add a b P)) e).1)
    (record { left = λ x. refl; right = λ y. refl; kept = λ x y h. below h; still = λ x y p q. matched-below a b x y P (one-off x a p) (one-off y b q) })
frame-roles (declares a) (uses b) P P' e = absurd (fails≢ e)
frame-roles (declares a) plain P P' e = absurd (fails≢ e)
frame-roles (uses a) (declares b) P P' e = absurd (fails≢ e)
frame-roles (uses a) (uses b) P P' e = subst (λ Q. Frame (λ x. 0) (λ y. 0) P Q) (holds-inj (given-inv (matched P a b) (holds P) e).1) (frame-none P)
frame-roles (uses a) plain P P' e = absurd (fails≢ e)
frame-roles plain (declares b) P P' e = absurd (fails≢ e)
frame-roles plain (uses b) P P' e = absurd (fails≢ e)
frame-roles plain plain P P' e = subst (λ Q. Frame (λ x. 0) (λ y. 0) P Q) (holds-inj e) (frame-none P)

pub binary-plain : (c v w x : ℕ) → c ≡ 14 → declared x (role c v w) ≡ 0
unfolding declared role
binary-plain c v w x e = rw e refl

pub reversed-codes : (c v w c' v' w' : ℕ) → reversed_test c v w c' v' w' ≡ true → (c ≡ 14) × (c' ≡ 14)
unfolding reversed_test
reversed-codes c v w c' v' w' e =
    let p = and_parts _ _ e in
    let q = and_parts _ _ p.1 in
    (eqb-true c 14 p.0, eqb-true c' 14 q.0)

---- trees

mutual
  unfolding decls decls_all

  pub run-frame : {P P' : Table} {t u : Tree} → Run P t u P' → Frame (λ x. decls x t) (λ y. decls y u) P P'
  run-frame (straight {c} {v} {w} {c'} {v'} {w'} {P₁ = P₁} {P' = P'} s ks e) = frame-join (runs-frame ks) (frame-roles (role c v w) (role c' v' w') P₁ P' e)
  run-frame (crossed {c} {v} {w} {c'} {v'} {w'} {ts} {a} {b} s ks) =
      let k = reversed-codes c v w c' v' w' s in
      frame-as (λ x. omega (arith, binary-plain c v w x k.0)) (λ y. omega (arith, binary-plain c' v' w' y k.1)) (runs-frame ks)

  pub runs-frame : {P P' : Table} {ts us : Forest} → RunAll P ts us P' → Frame (λ x. decls_all x ts) (λ y. decls_all y us) P P'
  runs-frame (done {P = P}) = frame-none P
  runs-frame (next k ks) = frame-join (run-frame k) (runs-frame ks)
