-- Trees that agree, without a barred code: the walk holds. Whatever reading of a comparison holds first serves, since in
-- a sound rule nothing behind a comparison depends on the locals that its operands declare.
use Rattle.std.proofs.Common.{◌≡◌, ℕ, ◌+◌, ◌<◌, ◌≤◌, Bool, true, cond, not, eqb, ◌⊎◌, sym, refl, ap, ◌∙◌, subst, ap₂, inl, inr, arith}
use Rattle.std.proofs.lemmas.Bool.{cases_lt, cases_eq, eq-eqb, ne_eqb, and_parts}
use Rattle.rule.specs.Trees.{Tree, Forest, node, cons}
use Rattle.rule.specs.Scopes.{Role, declares, uses, plain, role, declared, decls, decls_all, compares}
use Rattle.rule.specs.Intake.{barred}
use Rattle.sameness.specs.Sameness.{Linked, declaring, using', neither, Level, Reversed, pair, Agree, AgreeAll, direct, reversed, none, more, declarations, Partner, renamed, free, clean, clean_all}
use Rattle.sameness.specs.Deciding.{Table, blank, add, matched, fresh, Outcome, fails, holds, and_then, or_else, given, direct_test, reversed_test, at_roles, exchanging, decide, decide_all}
use Rattle.sameness.proofs.Steps.{decide-node, exchanging-pair, decide_all-nil, decide_all-cons}
use Rattle.sameness.proofs.Runs.{decide-run, decide_all-run}
use Rattle.sameness.proofs.Tables.{times_l, times_r, fresh-from, matched-free, matched-top, matched-below}
use Rattle.sameness.proofs.Frames.{Frame, run-frame, runs-frame, binary-plain}
use Rattle.sameness.proofs.InPlay.{outside, reach, reach_all, grown, grown-le, grown-is, grown-more, UseSound, Scoped, ScopedAll, Sound, reach-decls, scoped-swap}
use Rattle.sameness.proofs.Tests.{level-tested, level-compares, reversed-tested, reversed-compares}

---- one node

direct-holds : (c v w : ℕ) (ts : Forest) (c' v' w' : ℕ) (us : Forest) (P P₁ P' : Table) → direct_test c v w c' v' w' ≡ true → decide_all ts us P ≡ holds P₁
    → at_roles (role c v w) (role c' v' w') P₁ ≡ holds P' → decide (node c v w ts) (node c' v' w' us) P ≡ holds P'
direct-holds c v w ts c' v' w' us P P₁ P' s e f =
    let g : given (direct_test c v w c' v' w') (and_then (decide_all ts us P) (at_roles (role c v w) (role c' v' w'))) ≡ holds P' = ap₂ (λ b o. given b (and_then o (at_roles (role c v w) (role c' v' w')))) s e ∙ f in
    decide-node c v w ts c' v' w' us P ∙ ap (λ o. or_else o (given (reversed_test c v w c' v' w') (exchanging (decide_all ts) us P))) g

or_else-some : (o₁ o₂ : Outcome) (P : Table) → o₂ ≡ holds P → (P' : Table) × (or_else o₁ o₂ ≡ holds P')
or_else-some fails o₂ P e = (P, e)
or_else-some (holds Q) o₂ P e = (Q, refl)

reversed-holds : (c v w : ℕ) (ts : Forest) (c' v' w' : ℕ) (a b : Tree) (P P₁ : Table) → reversed_test c v w c' v' w' ≡ true → decide_all ts (pair b a) P ≡ holds P₁
    → (P' : Table) × (decide (node c v w ts) (node c' v' w' (pair a b)) P ≡ holds P')
reversed-holds c v w ts c' v' w' a b P P₁ s e =
    let k = or_else-some (given (direct_test c v w c' v' w') (and_then (decide_all ts (pair a b) P) (at_roles (role c v w) (role c' v' w')))) _ P₁ (ap₂ given s (exchanging-pair (decide_all ts) a b P ∙ e)) in
    (k.0, decide-node c v w ts c' v' w' (pair a b) P ∙ k.1)

---- what the walk keeps true

-- a relation that pairs locals one to one
record OneToOne (D E : ℕ → ℕ) (ρ : ℕ → ℕ → Type 0) : Type 0 where
  forth : (x y y' : ℕ) → ρ x y → ρ x y' → y ≡ y'
  back : (x x' y : ℕ) → ρ x y → ρ x' y → x ≡ x'
  freely : (x y : ℕ) → ρ x y → D x ≡ 0 → (E y ≡ 0) × (x ≡ y)
  bound : (x y : ℕ) → ρ x y → 0 < D x → 0 < E y

-- the pairs in play are those that the table matches
abbrev Seen : (ℕ → ℕ → Type 0) → (ℕ → ℕ) → (ℕ → ℕ) → Table → Type 0
Seen ρ vis vis' P = (x y : ℕ) → 0 < vis x → 0 < vis' y → ρ x y → matched P x y ≡ true

-- before a part that declares as dl and dr say
record Ready (D E : ℕ → ℕ) (ρ : ℕ → ℕ → Type 0) (vis vis' dl dr : ℕ → ℕ) (P : Table) : Type 0 where
  seen : Seen ρ vis vis' P
  lo : (x : ℕ) → vis x ≤ times_l x P
  lo' : (y : ℕ) → vis' y ≤ times_r y P
  hi : (x : ℕ) → times_l x P + dl x ≤ D x
  hi' : (y : ℕ) → times_r y P + dr y ≤ E y

one_at : (x a : ℕ) → (x ≡ a → ⊥) → ◌≡◌ {A = ℕ} (cond (eqb x a) 1 0) 0
one_at x a n = rw (ne_eqb x a n)

module _ (D E : ℕ → ℕ) (ρ : ℕ → ℕ → Type 0) (one : OneToOne D E ρ) (once_d : (x : ℕ) → D x ≤ 1) (once_e : (y : ℕ) → E y ≤ 1) where
  abbrev Done : (Table → Outcome) → (ℕ → ℕ) → (ℕ → ℕ) → Table → Type 0
  Done k g g' P = (P' : Table) × (k P ≡ holds P') × Seen ρ g g' P'

  seen-role : (p q : Role) (g g' : ℕ → ℕ) (P : Table) → Linked ρ p q → UseSound D g p → UseSound E g' q
      → ((x : ℕ) → times_l x P + declared x p ≤ D x) → ((y : ℕ) → times_r y P + declared y q ≤ E y)
      → Seen ρ g g' P → Done (at_roles p q) (λ x. g x + declared x p) (λ y. g' y + declared y q) P
  unfolding at_roles declared
  seen-role (declares a) (declares b) g g' P (declaring r) s s' h h' k = (add a b P, ap (λ t. given t (holds (add a b P))) new, at)
    where
      new : fresh P a b ≡ true
      new =
          let i : ◌≡◌ {A = ℕ} (cond (eqb a a) 1 0) 1 = rw (eq-eqb a a refl) in
          let j : ◌≡◌ {A = ℕ} (cond (eqb b b) 1 0) 1 = rw (eq-eqb b b refl) in
          fresh-from P a b (omega (arith, h a, once_d a)) (omega (arith, h' b, once_e b))

      at : Seen ρ (λ x. g x + cond (eqb x a) 1 0) (λ y. g' y + cond (eqb y b) 1 0) (add a b P)
      at x y p q i = go (cases_eq x a)
        where
          go : (x ≡ a) ⊎ (x ≡ a → ⊥) → matched (add a b P) x y ≡ true
          go (inl e) = let f : y ≡ b = one.forth a y b (subst (λ z. ρ z y) e i) r in rw (e, f) (matched-top a b P)
          go (inr n) =
              let m : y ≡ b → ⊥ = λ e. n (one.back x a b (subst (λ z. ρ x z) e i) r) in
              matched-below a b x y P n m ∙ k x y (omega (arith, one_at x a n)) (omega (arith, one_at y b m)) i
  seen-role (declares a) (uses b) g g' P r s s' h h' k = elim r [ ]
  seen-role (declares a) plain g g' P r s s' h h' k = elim r [ ]
  seen-role (uses a) (declares b) g g' P r s s' h h' k = elim r [ ]
  seen-role (uses a) (uses b) g g' P (using' r) s s' h h' k = (P, ap (λ t. given t (holds P)) ok, λ x y p q i. k x y (omega arith) (omega arith) i)
    where
      go : (0 < D a) ⊎ (D a ≤ 0) → matched P a b ≡ true
      go (inl d) = k a b (s d) (s' (one.bound a b r d)) r
      go (inr d) =
          let z : D a ≡ 0 = omega arith in
          let f = one.freely a b r z in
          matched-free P a b (omega (arith, h a)) (omega (arith, h' b)) f.1

      ok : matched P a b ≡ true
      ok = go (cases_lt 0 (D a))
  seen-role (uses a) plain g g' P r s s' h h' k = elim r [ ]
  seen-role plain (declares b) g g' P r s s' h h' k = elim r [ ]
  seen-role plain (uses b) g g' P r s s' h h' k = elim r [ ]
  seen-role plain plain g g' P neither s s' h h' k = (P, refl, λ x y p q i. k x y (omega arith) (omega arith) i)

  -- a node read as it stands
  direct-done : (c v w c' v' w' : ℕ) (ts us : Forest) (vis vis' : ℕ → ℕ) (P : Table) → not (barred c) ≡ true → Level ρ c v w c' v' w'
      → Scoped D vis (node c v w ts) → Scoped E vis' (node c' v' w' us)
      → Ready D E ρ vis vis' (λ x. decls x (node c v w ts)) (λ y. decls y (node c' v' w' us)) P
      → Done (decide_all ts us) (grown (compares c v) (λ x. reach_all x ts) vis) (grown (compares c v) (λ x. reach_all x us) vis') P
      → Done (decide (node c v w ts) (node c' v' w' us)) (λ x. vis x + reach x (node c v w ts)) (λ y. vis' y + reach y (node c' v' w' us)) P
  unfolding decls decls_all
  direct-done c v w c' v' w' ts us vis vis' P n l sc sc' inv d =
      let cmp = level-compares l in
      let f = runs-frame (decide_all-run ts us P d.0 d.1) in
      let g : ℕ → ℕ = grown (compares c v) (λ x. reach_all x ts) vis in
      let g' : ℕ → ℕ = grown (compares c v) (λ x. reach_all x us) vis' in
      let r = seen-role (role c v w) (role c' v' w') g g' d.0 l.locals sc.1
      (subst (λ b. UseSound E (grown b (λ x. reach_all x us) vis') (role c' v' w')) cmp sc'.1)
      (λ x. omega (arith, f.left x, inv.hi x)) (λ y. omega (arith, f.right y, inv.hi' y)) d.2 in (
        r.0,
        direct-holds c v w ts c' v' w' us P d.0 r.0 (level-tested n l) d.1 r.1,
        λ x y p q i.
            r.2 x y (omega (arith, grown-is (compares c v) (λ x. reach_all x ts) vis x))
            (omega (arith, grown-is (compares c v) (λ x. reach_all x us) vis' y, ap (λ b. outside b (reach_all y us)) cmp)) i,
      )

  -- a comparison that can be read with exchanged operands, in whichever reading
  reversed-done : (c v w c' v' w' : ℕ) (ts : Forest) (a b : Tree) (vis vis' : ℕ → ℕ) (P P₁ : Table) → Reversed c v w c' v' w'
      → Ready D E ρ vis vis' (λ x. decls x (node c v w ts)) (λ y. decls y (node c' v' w' (pair a b))) P
      → decide_all ts (pair b a) P ≡ holds P₁
      → Done (decide (node c v w ts) (node c' v' w' (pair a b))) (λ x. vis x + reach x (node c v w ts)) (λ y. vis' y + reach y (node c' v' w' (pair a b))) P
  reversed-done c v w c' v' w' ts a b vis vis' P P₁ r inv e =
      let k = reversed-holds c v w ts c' v' w' a b P P₁ (reversed-tested r) e in
      let f = run-frame (decide-run (node c v w ts) (node c' v' w' (pair a b)) P k.0 k.1) in
      let cmp = reversed-compares r in (
        k.0,
        k.1,
        λ x y p q i.
            let vx : 0 < vis x = omega (arith, binary-plain c v w x r.code, ap (λ t. outside t (reach_all x ts)) cmp.0) in
            let vy : 0 < vis' y = omega (arith, binary-plain c' v' w' y r.code', ap (λ t. outside t (reach_all y (pair a b))) cmp.1) in
            f.still x y (omega (arith, inv.lo x, inv.hi x, once_d x)) (omega (arith, inv.lo' y, inv.hi' y, once_e y)) ∙ inv.seen x y vx vy i,
      )

  -- what is still to come shrinks, and what is in play grows
  ready-as : {vis vis' dl dr dl' dr' : ℕ → ℕ} {P : Table} → ((x : ℕ) → dl' x ≤ dl x) → ((y : ℕ) → dr' y ≤ dr y) → Ready D E ρ vis vis' dl dr P → Ready D E ρ vis vis' dl' dr' P
  ready-as a b inv = record { seen = inv.seen; lo = inv.lo; lo' = inv.lo'; hi = λ x. omega (arith, inv.hi x, a x); hi' = λ y. omega (arith, inv.hi' y, b y) }

  ready-rest : (fork : Bool) (t u : Tree) (ts us : Forest) (vis vis' : ℕ → ℕ) (P P₁ : Table)
      → Ready D E ρ vis vis' (λ x. decls_all x (cons t ts)) (λ y. decls_all y (cons u us)) P
      → Frame (λ x. decls x t) (λ y. decls y u) P P₁
      → Seen ρ (λ x. vis x + reach x t) (λ y. vis' y + reach y u) P₁
      → Ready D E ρ (grown fork (λ x. reach x t) vis) (grown fork (λ y. reach y u) vis') (λ x. decls_all x ts) (λ y. decls_all y us) P₁
  unfolding decls_all
  ready-rest fork t u ts us vis vis' P P₁ inv f k =
      record {
        seen = λ x y p q i.
            k x y (omega (arith, grown-le fork (λ x. reach x t) vis x (vis x + reach x t) (omega arith)))
            (omega (arith, grown-le fork (λ y. reach y u) vis' y (vis' y + reach y u) (omega arith))) i;
        lo = λ x. grown-le fork (λ x. reach x t) vis x (times_l x P₁) (omega (arith, f.left x, inv.lo x, reach-decls t x));
        lo' = λ y. grown-le fork (λ y. reach y u) vis' y (times_r y P₁) (omega (arith, f.right y, inv.lo' y, reach-decls u y));
        hi = λ x. omega (arith, f.left x, inv.hi x);
        hi' = λ y. omega (arith, f.right y, inv.hi' y);
      }

  mutual
    unfolding decls decls_all clean clean_all

    agree-decide : {t u : Tree} → Agree ρ t u → clean t ≡ true → (vis vis' : ℕ → ℕ) (P : Table) → Scoped D vis t → Scoped E vis' u
        → Ready D E ρ vis vis' (λ x. decls x t) (λ y. decls y u) P → Done (decide t u) (λ x. vis x + reach x t) (λ y. vis' y + reach y u) P
    agree-decide (direct {c} {v} {w} {c'} {v'} {w'} {ts} {us} l ks) n vis vis' P sc sc' inv =
        let m = and_parts (not (barred c)) (clean_all ts) n in
        direct-done c v w c' v' w' ts us vis vis' P m.0 l sc sc' inv
        (agrees-decide ks m.1 (compares c v) vis vis' P sc.0 (subst (λ b. ScopedAll E b vis' us) (level-compares l) sc'.0)
        (ready-as (λ x. omega arith) (λ y. omega arith) inv))
    agree-decide (reversed {c} {v} {w} {c'} {v'} {w'} {ts} {a} {b} r ks) n vis vis' P sc sc' inv =
        let m = and_parts (not (barred c)) (clean_all ts) n in
        let cmp = reversed-compares r in
        let d = agrees-decide ks m.1 true vis vis' P (subst (λ t. ScopedAll D t vis ts) cmp.0 sc.0)
        (scoped-swap E vis' true a b refl (subst (λ t. ScopedAll E t vis' (pair a b)) cmp.1 sc'.0))
        (ready-as (λ x. omega arith) (λ y. omega arith) inv) in
        reversed-done c v w c' v' w' ts a b vis vis' P d.0 r inv d.1

    agrees-decide : {ts us : Forest} → AgreeAll ρ ts us → clean_all ts ≡ true → (fork : Bool) (vis vis' : ℕ → ℕ) (P : Table) → ScopedAll D fork vis ts → ScopedAll E fork vis' us
        → Ready D E ρ vis vis' (λ x. decls_all x ts) (λ y. decls_all y us) P → Done (decide_all ts us) (grown fork (λ x. reach_all x ts) vis) (grown fork (λ y. reach_all y us) vis') P
    agrees-decide none n fork vis vis' P sc sc' inv = (
      P,
      decide_all-nil P,
      λ x y p q i. inv.seen x y (omega (arith, grown-le fork (λ x. 0) vis x (vis x) (omega arith))) (omega (arith, grown-le fork (λ x. 0) vis' y (vis' y) (omega arith))) i,
    )
    agrees-decide (more {t} {u} {ts} {us} k ks) n fork vis vis' P sc sc' inv =
        let m = and_parts (clean t) (clean_all ts) n in
        let d = agree-decide k m.0 vis vis' P sc.0 sc'.0 (ready-as (λ x. omega arith) (λ y. omega arith) inv) in
        let f = run-frame (decide-run t u P d.0 d.1) in
        let e = agrees-decide ks m.1 fork (grown fork (λ x. reach x t) vis) (grown fork (λ y. reach y u) vis') d.0 sc.1 sc'.1
        (ready-rest fork t u ts us vis vis' P d.0 inv f d.2) in (
          e.0,
          decide_all-cons t ts u us P ∙ (ap (λ o. and_then o (decide_all ts us)) d.1 ∙ e.1),
          λ x y p q i.
              e.2 x y (omega (arith, grown-more fork (λ x. reach x t) (λ x. reach_all x ts) vis x)) (omega (arith, grown-more fork (λ y. reach y u) (λ y. reach_all y us) vis' y)) i,
        )

---- partners are one to one

partner-one : (f g D E : ℕ → ℕ) → OneToOne D E (Partner f g D E)
partner-one f g D E = record { forth = forth'; back = back'; freely = freely'; bound = bound' }
  where
    forth' : (x y y' : ℕ) → Partner f g D E x y → Partner f g D E x y' → y ≡ y'
    forth' x y y' (renamed m n p q) (renamed m' n' p' q') = sym p ∙ p'
    forth' x y y' (renamed m n p q) (free m' n' p') = absurd (omega arith)
    forth' x y y' (free m n p) (renamed m' n' p' q') = absurd (omega arith)
    forth' x y y' (free m n p) (free m' n' p') = sym p ∙ p'

    back' : (x x' y : ℕ) → Partner f g D E x y → Partner f g D E x' y → x ≡ x'
    back' x x' y (renamed m n p q) (renamed m' n' p' q') = sym q ∙ q'
    back' x x' y (renamed m n p q) (free m' n' p') = absurd (omega arith)
    back' x x' y (free m n p) (renamed m' n' p' q') = absurd (omega arith)
    back' x x' y (free m n p) (free m' n' p') = p ∙ sym p'

    freely' : (x y : ℕ) → Partner f g D E x y → D x ≡ 0 → (E y ≡ 0) × (x ≡ y)
    freely' x y (renamed m n p q) z = absurd (omega arith)
    freely' x y (free m n p) z = (n, p)

    bound' : (x y : ℕ) → Partner f g D E x y → 0 < D x → 0 < E y
    bound' x y (renamed m n p q) z = n
    bound' x y (free m n p) z = absurd (omega arith)

pub agree_decides : (t u : Tree) (f g : ℕ → ℕ) → Sound t → Sound u → clean t ≡ true → Agree (Partner f g (declarations t) (declarations u)) t u → (P : Table) × (decide t u blank ≡ holds P)
agree_decides t u f g s s' n a =
    let d = agree-decide (declarations t) (declarations u) (Partner f g (declarations t) (declarations u)) (partner-one f g (declarations t) (declarations u)) s.once s'.once a n
    (λ x. 0) (λ y. 0) blank s.scoped s'.scoped
    (record { seen = λ x y p q i. absurd (omega arith); lo = λ x. omega arith; lo' = λ y. omega arith; hi = λ x. omega arith; hi' = λ y. omega arith }) in
    (d.0, d.1)
