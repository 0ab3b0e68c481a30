-- What a table holds, and what its look-ups find.
use Rattle.std.proofs.Common.{◌≡◌, ℕ, ◌+◌, ◌≤◌, Bool, true, false, cond, eqb, ◌⊎◌, sym, refl, ap, ◌∙◌, inl, inr, arith}
use Rattle.std.proofs.lemmas.Bool.{cases_eq, eqb-true, eq-eqb, ne_eqb, and_parts, and_from, false≢true}
use Rattle.sameness.specs.Deciding.{Table, blank, add, Found, absent, found, ahead, behind, joined, matched, fresh}

---- how often a local is noted, on the left and on the right, and which pairs are

abbrev pub times_l : ℕ → Table → ℕ
times_l x blank = 0
times_l x (add a b P) = times_l x P + cond (eqb x a) 1 0

abbrev pub times_r : ℕ → Table → ℕ
times_r y blank = 0
times_r y (add a b P) = times_r y P + cond (eqb y b) 1 0

pub data In : Table → ℕ → ℕ → Type 0 where
  top : {a b x y : ℕ} {P : Table} → a ≡ x → b ≡ y → In (add a b P) x y
  below : {a b x y : ℕ} {P : Table} → In P x y → In (add a b P) x y

pub in-times : (P : Table) (x y : ℕ) → In P x y → (1 ≤ times_l x P) × (1 ≤ times_r y P)
in-times blank x y h = elim h [ ]
in-times (add a b P) x y (top p q) = (rw (eq-eqb x a (sym p)) (omega arith), rw (eq-eqb y b (sym q)) (omega arith))
in-times (add a b P) x y (below h) = let k = in-times P x y h in (omega arith, omega arith)

---- a look-up that finds nothing

found-inj : {a b : ℕ} → found a ≡ found b → a ≡ b
found-inj e = cc

absent≢ : {a : ℕ} → absent ≡ found a → ⊥
absent≢ e = let z : ◌≡◌ {A = ℕ} 0 1 = cc in omega arith

ahead_none : (P : Table) (x : ℕ) → ahead P x ≡ absent → times_l x P ≡ 0
unfolding ahead
ahead_none blank x e = refl
ahead_none (add a b P) x e = go (cases_eq a x) (λ h. ahead_none P x h)
  where
    go : (a ≡ x) ⊎ (a ≡ x → ⊥) → (ahead P x ≡ absent → times_l x P ≡ 0) → times_l x (add a b P) ≡ 0
    go (inl p) ih = absurd (absent≢ (sym (rw (eq-eqb a x p) at e)))
    go (inr n) ih = rw (ne_eqb x a (λ q. n (sym q))) (let k : times_l x P ≡ 0 = ih (rw (ne_eqb a x n) at e) in omega arith)

behind-none : (P : Table) (y : ℕ) → behind P y ≡ absent → times_r y P ≡ 0
unfolding behind
behind-none blank y e = refl
behind-none (add a b P) y e = go (cases_eq b y) (λ h. behind-none P y h)
  where
    go : (b ≡ y) ⊎ (b ≡ y → ⊥) → (behind P y ≡ absent → times_r y P ≡ 0) → times_r y (add a b P) ≡ 0
    go (inl p) ih = absurd (absent≢ (sym (rw (eq-eqb b y p) at e)))
    go (inr n) ih = rw (ne_eqb y b (λ q. n (sym q))) (let k : times_r y P ≡ 0 = ih (rw (ne_eqb b y n) at e) in omega arith)

pub none_ahead : (P : Table) (x : ℕ) → times_l x P ≡ 0 → ahead P x ≡ absent
unfolding ahead
none_ahead blank x e = refl
none_ahead (add a b P) x e = go (cases_eq a x) (λ h. none_ahead P x h)
  where
    go : (a ≡ x) ⊎ (a ≡ x → ⊥) → (times_l x P ≡ 0 → ahead P x ≡ absent) → ahead (add a b P) x ≡ absent
    go (inl p) ih = absurd (let z : times_l x P + 1 ≡ 0 = rw (eq-eqb x a (sym p)) at e in omega arith)
    go (inr n) ih = rw (ne_eqb a x n) (ih (omega arith))

pub none-behind : (P : Table) (y : ℕ) → times_r y P ≡ 0 → behind P y ≡ absent
unfolding behind
none-behind blank y e = refl
none-behind (add a b P) y e = go (cases_eq b y) (λ h. none-behind P y h)
  where
    go : (b ≡ y) ⊎ (b ≡ y → ⊥) → (times_r y P ≡ 0 → behind P y ≡ absent) → behind (add a b P) y ≡ absent
    go (inl p) ih = absurd (let z : times_r y P + 1 ≡ 0 = rw (eq-eqb y b (sym p)) at e in omega arith)
    go (inr n) ih = rw (ne_eqb b y n) (ih (omega arith))

-- locals that were not noted have no partner
pub fresh-from : (P : Table) (x y : ℕ) → times_l x P ≡ 0 → times_r y P ≡ 0 → fresh P x y ≡ true
unfolding fresh
fresh-from P x y p q = rw (none_ahead P x p, none-behind P y q)

---- a look-up that finds a partner

ahead_in : (P : Table) (x y : ℕ) → ahead P x ≡ found y → In P x y
unfolding ahead
ahead_in blank x y e = absurd (absent≢ e)
ahead_in (add a b P) x y e = go (eqb a x) refl (λ h. ahead_in P x y h) e
  where
    go : (t : Bool) → eqb a x ≡ t → (ahead P x ≡ found y → In P x y) → cond t (found b) (ahead P x) ≡ found y → In (add a b P) x y
    go true p ih e = top (eqb-true a x p) (found-inj e)
    go false p ih e = below (ih e)

-- with no local noted twice, a look-up finds what the table holds
pub in-ahead : (P : Table) (x y : ℕ) → times_l x P ≤ 1 → In P x y → ahead P x ≡ found y
unfolding ahead
in-ahead blank x y l h = elim h [ ]
in-ahead (add a b P) x y l (top p q) = rw (eq-eqb a x p) (ap found q)
in-ahead (add a b P) x y l (below h) = go (cases_eq a x) (in-ahead P x y (omega arith) h)
  where
    go : (a ≡ x) ⊎ (a ≡ x → ⊥) → ahead P x ≡ found y → ahead (add a b P) x ≡ found y
    go (inl p) ih = absurd (let z : times_l x P + 1 ≤ 1 = rw (eq-eqb x a (sym p)) at l in let k = in-times P x y h in omega arith)
    go (inr n) ih = rw (ne_eqb a x n) ih

pub in-behind : (P : Table) (x y : ℕ) → times_r y P ≤ 1 → In P x y → behind P y ≡ found x
unfolding behind
in-behind blank x y l h = elim h [ ]
in-behind (add a b P) x y l (top p q) = rw (eq-eqb b y q) (ap found p)
in-behind (add a b P) x y l (below h) = go (cases_eq b y) (in-behind P x y (omega arith) h)
  where
    go : (b ≡ y) ⊎ (b ≡ y → ⊥) → behind P y ≡ found x → behind (add a b P) y ≡ found x
    go (inl p) ih = absurd (let z : times_r y P + 1 ≤ 1 = rw (eq-eqb y b (sym p)) at l in let k = in-times P x y h in omega arith)
    go (inr n) ih = rw (ne_eqb b y n) ih

---- locals that match

pub matched-means : (P : Table) (x y : ℕ) → matched P x y ≡ true → In P x y ⊎ ((times_l x P ≡ 0) × (times_r y P ≡ 0) × (x ≡ y))
unfolding matched
matched-means P x y e = go (ahead P x) (behind P y) refl refl e
  where
    go : (f g : Found) → ahead P x ≡ f → behind P y ≡ g → joined f g x y ≡ true → In P x y ⊎ ((times_l x P ≡ 0) × (times_r y P ≡ 0) × (x ≡ y))
    go absent absent p q e = inr (ahead_none P x p, behind-none P y q, eqb-true x y e)
    go absent (found a) p q e = absurd (false≢true e)
    go (found b) absent p q e = absurd (false≢true e)
    go (found b) (found a) p q e = inl (ahead_in P x y (p ∙ ap found (eqb-true b y (and_parts _ _ e).0)))

pub matched-free : (P : Table) (x y : ℕ) → times_l x P ≡ 0 → times_r y P ≡ 0 → x ≡ y → matched P x y ≡ true
unfolding matched
matched-free P x y p q e = rw (none_ahead P x p, none-behind P y q) (eq-eqb x y e)

pub matched-top : (a b : ℕ) (P : Table) → matched (add a b P) a b ≡ true
unfolding matched ahead behind
matched-top a b P = rw (eq-eqb a a refl, eq-eqb b b refl) (and_from (eqb b b) (eqb a a) (eq-eqb b b refl) (eq-eqb a a refl))

-- another pair changes nothing
pub matched-below : (a b x y : ℕ) (P : Table) → (x ≡ a → ⊥) → (y ≡ b → ⊥) → matched (add a b P) x y ≡ matched P x y
unfolding matched ahead behind
matched-below a b x y P n m = rw (ne_eqb a x (λ e. n (sym e)), ne_eqb b y (λ e. m (sym e))) refl
