-- Rows of names, one entry further.
use Rattle.std.proofs.Common.{◌≡◌, ℕ, suc, ◌+◌, ◌<◌, ◌≤◌, List, [], ◌∷◌, length, min, map, get_or, Some, None, Option, sym, refl, ap, ◌∙◌, subst, inl, inr, add-one, arith, true, false, nat_eq}
use Rattle.std.specs.Borrow.{Bor}
use Rattle.std.proofs.lemmas.List.{get_or-map, length-map}
use Rattle.std.proofs.lemmas.Bool.{cases_lt}
use Rattle.std.proofs.lemmas.Bool.Decides.{Decides-eqb}
use Rattle.std.specs.List.{AllWithin, HoldsAt, fold}
use Rattle.std.specs.Option.{MatchOption, option_eq}
use Rattle.catalogue.specs.Classes.{FirstSame, Begins, Begun, entry}
use Rattle.catalogue.specs.Model.{total}
use Rattle.catalogues.specs.Naive.{names}

abbrev row : List (Bor (List ℕ)) → List (List ℕ)
row items = map (λ r. r.now) items

pub length-row : (items : List (Bor (List ℕ))) → length (row items) ≡ length items
length-row items = length-map items (λ r. r.now)

-- the entry that stands where a slice of the same runs is read
pub entry-row : (items slice : List (Bor (List ℕ))) (i : ℕ) (d : Bor (List ℕ)) → slice ≡ items → i < length slice → entry (row items) i ≡ (get_or slice i d).now
entry-row items slice i d e lt =
    let g : entry (row slice) i ≡ (get_or slice i d).now = get_or-map (λ (r : Bor (List ℕ)). r.now) slice i d [] lt in
    ap (λ (x : List (Bor (List ℕ))). entry (row x) i) (sym e) ∙ g

-- what the comparison of two answers says
pub is-number : (r : Option ℕ) (i : ℕ) → option_eq nat_eq r (Some i) ≡ true → r ≡ Some i
is-number None i e = cc
is-number (Some j) i e = ap Some ((Decides-eqb j i).0 e)

pub no_number : (r : Option ℕ) (i : ℕ) → option_eq nat_eq r (Some i) ≡ false → r ≡ Some i → ⊥
no_number r i f e =
    let t : option_eq nat_eq r (Some i) ≡ true = rw e ((Decides-eqb i i).1 refl) in
    let z : ◌≡◌ {A = ℕ} 0 1 = cc in
    omega arith

-- an entry that is the first of its equals begins a class
first-begins : (rs : List (List ℕ)) (i : ℕ) → FirstSame names rs (entry rs i) (Some i) → Begins names rs i
first-begins rs i f = f.2

-- and any other does not
first_later : (rs : List (List ℕ)) (i : ℕ) (r : Option ℕ) → i < length rs → FirstSame names rs (entry rs i) r → (r ≡ Some i → ⊥) → Begins names rs i → ⊥
first_later rs i None lt f ne b = f i lt refl
first_later rs i (Some j) lt f ne b = elim (cases_lt j i) [
  | inl less ↦ b j less f.1
  | inr le ↦ elim (cases_lt i j) [ inl more ↦ f.2 i more refl | inr ge ↦ (let e : j ≡ i = omega arith in ne (ap Some e)) ]
]

-- the first n entries, where i are gone through
pub begun-more : (rs : List (List ℕ)) (i n b : ℕ) → i < n → FirstSame names rs (entry rs i) (Some i) → Begun names rs (min i n) b → Begun names rs (min (i + 1) n) (b + 1)
begun-more rs i n b lt f p =
    let here : min i n ≡ i = omega arith in
    let next : min (i + 1) n ≡ suc i = omega arith in
    let q : Begun names rs i b = subst (λ (m : ℕ). Begun names rs m b) here p in
    subst (λ (m : ℕ). Begun names rs m (b + 1)) (sym next) (inl (first-begins rs i f, (b, add-one b, q)))

pub begun-same : (rs : List (List ℕ)) (i n b : ℕ) (r : Option ℕ) → i < n → i < length rs → FirstSame names rs (entry rs i) r → (r ≡ Some i → ⊥)
    → Begun names rs (min i n) b → Begun names rs (min (i + 1) n) b
begun-same rs i n b r lt in_row f ne p =
    let here : min i n ≡ i = omega arith in
    let next : min (i + 1) n ≡ suc i = omega arith in
    let q : Begun names rs i b = subst (λ (m : ℕ). Begun names rs m b) here p in
    subst (λ (m : ℕ). Begun names rs m b) (sym next) (inr (first_later rs i r in_row f ne, q))

pub begun-past : (rs : List (List ℕ)) (i n b : ℕ) → n ≤ i → Begun names rs (min i n) b → Begun names rs (min (i + 1) n) b
begun-past rs i n b le p =
    let same : min i n ≡ min (i + 1) n = omega arith in
    subst (λ (m : ℕ). Begun names rs m b) same p

-- what a search among the runs by their equality finds
pub first-row : (items : List (Bor (List ℕ))) (run : List ℕ) (r : Option ℕ)
    → MatchOption r (AllWithin (λ b. b.now ≡ run → ⊥) items 0 (length items)) (λ i. (i < length items) × HoldsAt (λ b. b.now ≡ run) items i × AllWithin (λ b. b.now ≡ run → ⊥) items 0 i)
    → FirstSame names (row items) run r
first-row items run None h =
    λ j lt e.
    let d : Bor (List ℕ) = record { ref_ptr = (0, 0); now = [] } in
    let l : j < length items = omega (arith, length-row items) in
    h j d (omega arith) l (sym (entry-row items items j d refl l) ∙ e)
first-row items run (Some i) h =
    let d : Bor (List ℕ) = record { ref_ptr = (0, 0); now = [] } in (
      omega (arith, length-row items, h.0),
      entry-row items items i d refl h.0 ∙ h.1 d,
      λ j lt e. h.2 j d (omega arith) lt (sym (entry-row items items j d refl (omega (arith, h.0))) ∙ e),
    )

-- the units of all runs, added up to the highest number M and no further
capped : (M a : ℕ) (items : List (Bor (List ℕ))) → fold (λ u r. min (u + length r.now) M) (min a M) items ≡ min (a + total (row items)) M
capped M a [] = omega arith
capped M a (r ∷ items) =
    let l = length r.now in
    let e : min (min a M + l) M ≡ min (a + l) M = omega arith in
    let s : a + l + total (row items) ≡ a + total (row (r ∷ items)) = omega arith in
    ap (λ u. fold (λ u r. min (u + length r.now) M) u items) e ∙ capped M (a + l) items ∙ ap (λ n. min n M) s

pub capped-total : (M : ℕ) (items : List (Bor (List ℕ))) → fold (λ u r. min (u + length r.now) M) 0 items ≡ min (total (row items)) M
capped-total M items =
    let z : 0 ≡ min 0 M = omega arith in
    let t : 0 + total (row items) ≡ total (row items) = omega arith in
    ap (λ u. fold (λ u r. min (u + length r.now) M) u items) z ∙ capped M 0 items ∙ ap (λ n. min n M) t
