-- The row of a node is found among the rows of its code.
use Rattle.std.proofs.Common.{◌≡◌, ℕ, zero, suc, ◌+◌, ◌-◌, ◌<◌, ◌≤◌, Bool, true, false, cond, ◌&&◌, eqb, leb, ◌⊎◌, List, [], ◌∷◌, length, get_or, take, drop, Some, None, sym, refl, ap, ◌∙◌, subst, inl, inr, arith}
use Rattle.std.proofs.lemmas.Bool.{and_parts, cases_Bool, ne_eqb, cond-true, cond-false, leb-true, false≢true}
use Rattle.std.proofs.lemmas.List.{drop-drop}
use Rattle.std.specs.List.{find}
use Rattle.rule.specs.declared.rows.Row.{Row}
use Rattle.rule.specs.Format.{format, within}
use Rattle.rule.specs.Lookup.{takes, sought, row_of, apart, placed}

-- a row of another code does not take the words
other-code : (r : Row) (c x y : ℕ) → eqb r.code c ≡ false → takes r c x y ≡ false
other-code r c x y e = ap (λ b. b && (within r.v x && within r.w y)) e

apart-head : (c : ℕ) (r : Row) (rs : List Row) → apart c (r ∷ rs) ≡ true → (eqb r.code c ≡ false) × (apart c rs ≡ true)
unfolding apart
apart-head c r rs h = go (cases_Bool (eqb r.code c))
  where
    go : (eqb r.code c ≡ true) ⊎ (eqb r.code c ≡ false) → (eqb r.code c ≡ false) × (apart c rs ≡ true)
    go (inl e) = absurd (false≢true (sym (cond-true (eqb r.code c) false (apart c rs) e) ∙ h))
    go (inr e) = (e, sym (cond-false (eqb r.code c) false (apart c rs) e) ∙ h)

sought-none : (rs : List Row) (c x y : ℕ) → apart c rs ≡ true → sought rs c x y ≡ None
unfolding sought
sought-none [] c x y h = refl
sought-none (r ∷ rs) c x y h =
    let k = apart-head c r rs h in
    cond-false (takes r c x y) (Some r) (sought rs c x y) (other-code r c x y k.0) ∙ sought-none rs c x y k.1

sought-skip : (rs : List Row) (n c x y : ℕ) → apart c (take n rs) ≡ true → sought rs c x y ≡ sought (drop n rs) c x y
unfolding sought
sought-skip rs zero c x y h = refl
sought-skip [] (suc n) c x y h = refl
sought-skip (r ∷ rs) (suc n) c x y h =
    let k = apart-head c r (take n rs) h in
    cond-false (takes r c x y) (Some r) (sought rs c x y) (other-code r c x y k.0) ∙ sought-skip rs n c x y k.1

-- no row behind the first n is of the code
sought-front : (rs : List Row) (n c x y : ℕ) → apart c (drop n rs) ≡ true → sought (take n rs) c x y ≡ sought rs c x y
unfolding sought
sought-front rs zero c x y h = sym (sought-none rs c x y h)
sought-front [] (suc n) c x y h = refl
sought-front (r ∷ rs) (suc n) c x y h = ap (cond (takes r c x y) (Some r)) (sought-front rs n c x y h)

found : (rs : List Row) (c x y : ℕ) → find (λ r. takes r c x y) rs ≡ sought rs c x y
unfolding sought
found [] c x y = refl
found (r ∷ rs) c x y = ap (cond (takes r c x y) (Some r)) (found rs c x y)

-- where the rows of code c + i stand
pub record Standing (c k : ℕ) : Type 0 where
  pub room : k ≤ 80
  pub front : apart c (take k format) ≡ true
  pub back : apart c (drop (k + 3) format) ≡ true

standing-at : (ks : List ℕ) (c i : ℕ) → placed c ks ≡ true → i < length ks → Standing (c + i) (get_or ks i 0)
unfolding placed
standing-at [] c i h l = absurd (omega arith)
standing-at (k ∷ ks) c zero h l =
    let p = and_parts (leb k 80) _ h in
    let q = and_parts (apart c (take k format)) _ p.1 in
    let s = and_parts (apart c (drop (k + 3) format)) _ q.1 in
    let e : c + 0 ≡ c = omega arith in
    let g : Standing c k = record { room = leb-true k 80 p.0; front = q.0; back = s.0 } in
    subst (λ a. Standing a k) (sym e) g
standing-at (k ∷ ks) c (suc i) h l =
    let p = and_parts (leb k 80) _ h in
    let q = and_parts (apart c (take k format)) _ p.1 in
    let s = and_parts (apart c (drop (k + 3) format)) _ q.1 in
    let e : c + 1 + i ≡ c + suc i = omega arith in
    let b : i < length ks = omega arith in
    subst (λ a. Standing a (get_or ks i 0)) e (standing-at ks (c + 1) i s.1 b)

-- no row has a code above 116
below : List Row → Bool
below [] = true
below (r ∷ rs) = leb r.code 116 && below rs

all-below : below format ≡ true
unfolding below format
all-below = refl

above : (rs : List Row) (c : ℕ) → 116 < c → below rs ≡ true → apart c rs ≡ true
unfolding below apart
above [] c h b = refl
above (r ∷ rs) c h b =
    let p = and_parts (leb r.code 116) (below rs) b in
    let m : r.code ≤ 116 = leb-true r.code 116 p.0 in
    cond-false (eqb r.code c) false (apart c rs) (ne_eqb r.code c (λ e. omega arith)) ∙ above rs c h p.1

pub row-above : (c x y : ℕ) → 116 < c → row_of c x y ≡ None
unfolding row_of
row-above c x y h = sought-none format c x y (above format c h all-below)

pub format-length : ◌≡◌ {A = ℕ} (length format) 83
unfolding format
format-length = refl

-- the rows of a code are three of the format's, from its place f on
pub standing : (ks : List ℕ) (c f : ℕ) → placed 0 ks ≡ true → c < length ks → f ≡ get_or ks c 0 → Standing c f
standing ks c f h l k =
    let e : 0 + c ≡ c = omega arith in
    subst (λ a. Standing a f) e (subst (λ n. Standing (0 + c) n) (sym k) (standing-at ks 0 c h l))

-- the first of these three that takes the words is the code's row; rs are the rows as a program holds them
pub found-row : (rs : List Row) (f c x y : ℕ) → rs ≡ format → Standing c f → find (λ r. takes r c x y) (take (f + 3 - f) (drop f rs)) ≡ row_of c x y
unfolding row_of
found-row rs f c x y e s =
    let n : f + 3 - f ≡ 3 = omega arith in
    let d : apart c (drop 3 (drop f format)) ≡ true = rw drop-drop s.back in
    rw (e, n) (found _ c x y ∙ sought-front (drop f format) 3 c x y d ∙ sym (sought-skip format f c x y s.front))
