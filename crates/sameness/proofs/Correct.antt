-- A walk that holds: the trees agree, by what the table holds, and neither has a barred code.
use Rattle.std.proofs.Common.{◌≡◌, ℕ, ◌+◌, ◌≤◌, Bool, true, not, ◌&&◌, ◌⊎◌, refl, ap, ◌∙◌, subst, inl, inr, ⊎_elim, arith}
use Rattle.std.proofs.lemmas.Bool.{cases_lt, and_parts, and_from}
use Rattle.rule.specs.Trees.{Tree, Forest, node}
use Rattle.rule.specs.Scopes.{Role, declares, uses, plain, role, decls, decls_all, compares}
use Rattle.rule.specs.Intake.{barred}
use Rattle.sameness.specs.Sameness.{Linked, declaring, using', neither, pair, Agree, AgreeAll, direct, reversed, none, more, declarations, Partner, renamed, free, clean, clean_all}
use Rattle.sameness.specs.Deciding.{Table, blank, add, matched, fresh, holds, at_roles, decide, or_self, toward, backward}
use Rattle.sameness.proofs.Runs.{Run, RunAll, straight, crossed, done, next, fails≢, holds-inj, given-inv, decide-run}
use Rattle.sameness.proofs.Tables.{times_l, times_r, In, top, in-times, in-ahead, in-behind, matched-means}
use Rattle.sameness.proofs.Frames.{frame-roles, run-frame, runs-frame, reversed-codes}
use Rattle.sameness.proofs.InPlay.{reach, reach_all, grown, grown-le, UseSound, Scoped, ScopedAll, Sound, reach-decls, reach_all-decls, scoped-swap}
use Rattle.sameness.proofs.Tests.{direct-means, direct-clean, reversed-means, reversed-compares}

---- no barred code

pair-clean : (a b : Tree) → clean_all (pair b a) ≡ true → clean_all (pair a b) ≡ true
unfolding clean_all
pair-clean a b e =
    let p = and_parts (clean b) (clean a && true) e in
    and_from (clean a) (clean b && true) (and_parts (clean a) true p.1).0 (and_from (clean b) true p.0 refl)

node-clean : (c v w : ℕ) (ts : Forest) → not (barred c) ≡ true → clean_all ts ≡ true → clean (node c v w ts) ≡ true
unfolding clean clean_all
node-clean c v w ts = and_from (not (barred c)) (clean_all ts)

mutual
  unfolding clean clean_all

  run-clean : {P P' : Table} {t u : Tree} → Run P t u P' → (clean t ≡ true) × (clean u ≡ true)
  run-clean (straight {c} {v} {w} {c'} {v'} {w'} {ts} {us} s ks e) =
      let p = direct-clean c v w c' v' w' s in
      let k = runs-clean ks in
      (node-clean c v w ts p.0 k.0, node-clean c' v' w' us p.1 k.1)
  run-clean (crossed {c} {v} {w} {c'} {v'} {w'} {ts} {a} {b} s ks) =
      let p = reversed-codes c v w c' v' w' s in
      let k = runs-clean ks in
      (node-clean c v w ts (ap (λ i. not (barred i)) p.0) k.0, node-clean c' v' w' (pair a b) (ap (λ i. not (barred i)) p.1) (pair-clean a b k.1))

  runs-clean : {P P' : Table} {ts us : Forest} → RunAll P ts us P' → (clean_all ts ≡ true) × (clean_all us ≡ true)
  runs-clean done = (refl, refl)
  runs-clean (next {t} {u} {ts} {us} k ks) =
      let p = run-clean k in
      let q = runs-clean ks in
      (and_from (clean t) (clean_all ts) p.0 q.0, and_from (clean u) (clean_all us) p.1 q.1)

-- the walk holds only for trees without a barred code
pub decide-clean : (t u : Tree) (P P' : Table) → decide t u P ≡ holds P' → (clean t ≡ true) × (clean u ≡ true)
decide-clean t u P P' e = run-clean (decide-run t u P P' e)

---- agreement, by a relation that takes in the pairs of the table and the free locals

module _ (D E : ℕ → ℕ) (R : ℕ → ℕ → Type 0) (free-ok : (x : ℕ) → D x ≡ 0 → E x ≡ 0 → R x x) where
  roles-linked : (p q : Role) (P P' : Table) (vis vis' : ℕ → ℕ) → at_roles p q P ≡ holds P' → UseSound D vis p → UseSound E vis' q
      → ((x : ℕ) → vis x ≤ times_l x P) → ((y : ℕ) → vis' y ≤ times_r y P) → ((x y : ℕ) → In P' x y → R x y) → Linked R p q
  unfolding at_roles
  roles-linked (declares a) (declares b) P P' vis vis' e s s' l l' h =
      declaring (h a b (subst (λ Q. In Q a b) (holds-inj (given-inv (fresh P a b) (holds (add a b P)) e).1) (top refl refl)))
  roles-linked (declares a) (uses b) P P' vis vis' e s s' l l' h = absurd (fails≢ e)
  roles-linked (declares a) plain P P' vis vis' e s s' l l' h = absurd (fails≢ e)
  roles-linked (uses a) (declares b) P P' vis vis' e s s' l l' h = absurd (fails≢ e)
  roles-linked (uses a) (uses b) P P' vis vis' e s s' l l' h =
      let g = given-inv (matched P a b) (holds P) e in
      using' (known (matched-means P a b g.0) (holds-inj g.1))
    where
      known : In P a b ⊎ ((times_l a P ≡ 0) × (times_r b P ≡ 0) × (a ≡ b)) → P ≡ P' → R a b
      known (inl i) p = h a b (subst (λ Q. In Q a b) p i)
      known (inr k) p =
          let da : D a ≡ 0 = ⊎_elim (λ g. absurd (omega (arith, s g, l a))) (λ g. omega arith) (cases_lt 0 (D a)) in
          let eb : E b ≡ 0 = ⊎_elim (λ g. absurd (omega (arith, s' g, l' b))) (λ g. omega arith) (cases_lt 0 (E b)) in
          subst (λ z. R a z) k.2 (free-ok a da (ap E k.2 ∙ eb))
  roles-linked (uses a) plain P P' vis vis' e s s' l l' h = absurd (fails≢ e)
  roles-linked plain (declares b) P P' vis vis' e s s' l l' h = absurd (fails≢ e)
  roles-linked plain (uses b) P P' vis vis' e s s' l l' h = absurd (fails≢ e)
  roles-linked plain plain P P' vis vis' e s s' l l' h = neither

  -- what is in play stays within the table
  in-play : (fork : Bool) (r d vis n n' : ℕ → ℕ) → ((x : ℕ) → r x ≤ d x) → ((x : ℕ) → vis x ≤ n x) → ((x : ℕ) → n' x ≡ n x + d x) → (x : ℕ) → grown fork r vis x ≤ n' x
  in-play fork r d vis n n' p q e x = grown-le fork r vis x (n' x) (omega (arith, p x, q x, e x))

  mutual
    run_agree : {P P' : Table} {t u : Tree} → Run P t u P' → (vis vis' : ℕ → ℕ) → Scoped D vis t → Scoped E vis' u
        → ((x : ℕ) → vis x ≤ times_l x P) → ((y : ℕ) → vis' y ≤ times_r y P) → ((x y : ℕ) → In P' x y → R x y) → Agree R t u
    run_agree (straight {c} {v} {w} {c'} {v'} {w'} {ts} {us} {P} {P₁} {P'} s ks e) vis vis' sc sc' l l' h =
        let f = runs-frame ks in
        let kept : (x y : ℕ) → In P₁ x y → R x y = λ x y i. h x y ((frame-roles (role c v w) (role c' v' w') P₁ P' e).kept x y i) in
        direct
        (direct-means c v w c' v' w' s
        (roles-linked (role c v w) (role c' v' w') P₁ P' _ _ e sc.1 sc'.1
        (in-play (compares c v) (λ x. reach_all x ts) (λ x. decls_all x ts) vis (λ x. times_l x P) (λ x. times_l x P₁) (reach_all-decls ts) l f.left)
        (in-play (compares c' v') (λ x. reach_all x us) (λ x. decls_all x us) vis' (λ x. times_r x P) (λ x. times_r x P₁) (reach_all-decls us) l' f.right) h))
        (runs-agree ks (compares c v) (compares c' v') vis vis' sc.0 sc'.0 l l' kept)
    run_agree (crossed {c} {v} {w} {c'} {v'} {w'} {ts} {a} {b} s ks) vis vis' sc sc' l l' h =
        let r = reversed-means c v w c' v' w' s in
        reversed r (runs-agree ks (compares c v) (compares c' v') vis vis' sc.0 (scoped-swap E vis' (compares c' v') a b (reversed-compares r).1 sc'.0) l l' h)

    runs-agree : {P P' : Table} {ts us : Forest} → RunAll P ts us P' → (fork fork' : Bool) (vis vis' : ℕ → ℕ) → ScopedAll D fork vis ts → ScopedAll E fork' vis' us
        → ((x : ℕ) → vis x ≤ times_l x P) → ((y : ℕ) → vis' y ≤ times_r y P) → ((x y : ℕ) → In P' x y → R x y) → AgreeAll R ts us
    runs-agree done fork fork' vis vis' sc sc' l l' h = none
    runs-agree (next {t} {u} {ts} {us} {P} {P₁} k ks) fork fork' vis vis' sc sc' l l' h =
        let f = run-frame k in
        let g = runs-frame ks in
        more (run_agree k vis vis' sc.0 sc'.0 l l' (λ x y i. h x y (g.kept x y i)))
        (runs-agree ks fork fork' _ _ sc.1 sc'.1
        (in-play fork (λ x. reach x t) (λ x. decls x t) vis (λ x. times_l x P) (λ x. times_l x P₁) (reach-decls t) l f.left)
        (in-play fork' (λ x. reach x u) (λ x. decls x u) vis' (λ x. times_r x P) (λ x. times_r x P₁) (reach-decls u) l' f.right) h)

---- the table as a renaming

in-partner : (P : Table) (D E : ℕ → ℕ) → ((x : ℕ) → times_l x P ≡ D x) → ((y : ℕ) → times_r y P ≡ E y) → ((x : ℕ) → D x ≤ 1) → ((y : ℕ) → E y ≤ 1)
    → (x y : ℕ) → In P x y → Partner (toward P) (backward P) D E x y
in-partner P D E l r d e x y i =
    let k = in-times P x y i in
    renamed (omega (arith, l x)) (omega (arith, r y))
    (ap (λ f. or_self f x) (in-ahead P x y (omega (arith, l x, d x)) i))
    (ap (λ f. or_self f y) (in-behind P x y (omega (arith, r y, e y)) i))

pub decide-agrees : (t u : Tree) → Sound t → Sound u → (P : Table) → decide t u blank ≡ holds P → Agree (Partner (toward P) (backward P) (declarations t) (declarations u)) t u
decide-agrees t u s s' P e =
    let k = decide-run t u blank P e in
    let f = run-frame k in
    run_agree (declarations t) (declarations u) (Partner (toward P) (backward P) (declarations t) (declarations u)) (λ x p q. free p q refl) k (λ x. 0) (λ y. 0) s.scoped
    s'.scoped (λ x. omega arith) (λ y. omega arith)
    (in-partner P (declarations t) (declarations u) (λ x. omega (arith, f.left x)) (λ y. omega (arith, f.right y)) s.once s'.once)
