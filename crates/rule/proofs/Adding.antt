-- The children of a node counted as seen, one after the other.
use Rattle.std.proofs.Common.{◌≡◌, ℕ, ◌+◌, ◌<◌, ◌≤◌, Bool, true, false, cond, eqb, List, length, get_or, take, set, sum_by, count_by, sym, refl, ap, ◌∙◌, subst, ⊎_elim, arith, below_none, below_more}
use Rattle.std.proofs.lemmas.Bool.{cases_eq, eq-eqb, ne_eqb, cond-true}
use Rattle.std.proofs.lemmas.List.{get_or-set_same, get_or-set_other, map-set, length-map}
use Rattle.std.proofs.lemmas.List.Sums.{sum_by_more, sum_by_more_le, count_by_more_yes, count_by_more_no}
use Rattle.std.proofs.Math.ListN.{get_or-map}
use Rattle.rule.specs.Tally.{loose, flag, flags, AtMostOnce, Clash, twice}
use Rattle.rule.proofs.Counting.{loose-taken}

---- flags as numbers

pub flag-at : (seen : List Bool) (x : ℕ) → get_or (flags seen) x 0 ≡ flag (get_or seen x false)
flag-at seen x = get_or-map flag seen x false

pub flagged : (seen : List Bool) → AtMostOnce (flags seen)
flagged seen x = go (get_or seen x false) (flag-at seen x)
  where
    go : (b : Bool) → get_or (flags seen) x 0 ≡ flag b → get_or (flags seen) x 0 ≤ 1
    go true e = omega arith
    go false e = omega arith

pub flags-length : (seen : List Bool) → length (flags seen) ≡ length seen
flags-length seen = length-map seen flag

-- after q of the children kids of the node i
pub record Adding (kids : List ℕ) (i : ℕ) (seen₀ seen sizes : List ℕ) (total q : ℕ) : Type 0 where
  pub below : (r : ℕ) → r < q → get_or kids r 0 < i
  pub counts : (x : ℕ) → get_or seen x 0 ≡ get_or seen₀ x 0 + count_by (λ k. eqb k x) (take q kids)
  pub flags : AtMostOnce seen
  pub sum : total ≡ 1 + sum_by (λ k. get_or sizes k 0) (take q kids)
  pub rest : total + loose seen sizes ≡ 1 + loose seen₀ sizes

module _ (kids : List ℕ) (i : ℕ) (seen₀ : List ℕ) where
  pub adding-none : (sizes : List ℕ) → AtMostOnce seen₀ → Adding kids i seen₀ seen₀ sizes 1 0
  adding-none sizes f = record { below = below_none _; counts = λ x. omega arith; flags = f; sum = refl; rest = refl }

  -- one child more
  module _ (seen sizes : List ℕ) (total q : ℕ) (h : q < length kids) (a : Adding kids i seen₀ seen sizes total q) where
    adding-more : get_or kids q 0 < i → get_or kids q 0 < length seen → get_or kids q 0 < length sizes → get_or seen (get_or kids q 0) 0 ≡ 0
        → Adding kids i seen₀ (set seen (get_or kids q 0) 1) sizes (total + get_or sizes (get_or kids q 0) 0) (q + 1)
    adding-more b m n z =
        let c = get_or kids q 0 in
        record {
          below = below_more _ _ a.below b;
          counts = λ x.
              let e = a.counts x in
              ⊎_elim
              (λ (p : x ≡ c).
              let g : get_or (set seen c 1) x 0 ≡ 1 = ap (λ j. get_or (set seen c 1) j 0) p ∙ get_or-set_same seen c 1 0 m in
              let y : get_or seen x 0 ≡ 0 = ap (λ j. get_or seen j 0) p ∙ z in
              omega (arith, count_by_more_yes (λ j. eqb j x) kids q 0 h (eq-eqb c x (sym p))))
              (λ (d : x ≡ c → ⊥).
              let g : get_or (set seen c 1) x 0 ≡ get_or seen x 0 = get_or-set_other seen c x 1 0 d in
              omega (arith, count_by_more_no (λ j. eqb j x) kids q 0 h (ne_eqb c x (λ p. d (sym p)))))
              (cases_eq x c);
          flags = λ x.
              ⊎_elim
              (λ (p : x ≡ c).
              let g : get_or (set seen c 1) x 0 ≡ 1 = ap (λ j. get_or (set seen c 1) j 0) p ∙ get_or-set_same seen c 1 0 m in
              omega arith)
              (λ (d : x ≡ c → ⊥).
              let g : get_or (set seen c 1) x 0 ≡ get_or seen x 0 = get_or-set_other seen c x 1 0 d in
              omega (arith, a.flags x))
              (cases_eq x c);
          sum = omega (arith, a.sum, sum_by_more (λ j. get_or sizes j 0) kids q 0 h);
          rest = omega (arith, a.rest, loose-taken seen sizes c m n z);
        }

  ---- the same by flags

  module _ (seen : List Bool) (sizes : List ℕ) (total q : ℕ) (h : q < length kids) (a : Adding kids i seen₀ (flags seen) sizes total q) where
    pub kid-more : get_or kids q 0 < i → get_or kids q 0 < length seen → get_or kids q 0 < length sizes → get_or seen (get_or kids q 0) false ≡ false
        → Adding kids i seen₀ (flags (set seen (get_or kids q 0) true)) sizes (total + get_or sizes (get_or kids q 0) 0) (q + 1)
    kid-more b m n z =
        let c = get_or kids q 0 in
        subst (λ s. Adding kids i seen₀ s sizes (total + get_or sizes c 0) (q + 1)) (sym (map-set flag seen c true))
        (adding-more (flags seen) sizes total q h a b (omega (arith, flags-length seen)) n (flag-at seen c ∙ ap flag z))

    pub kid-twice : get_or kids q 0 < i → get_or seen (get_or kids q 0) false ≡ true → Clash kids i seen₀
    kid-twice b t =
        let c = get_or kids q 0 in
        let y : get_or (flags seen) c 0 ≡ 1 = flag-at seen c ∙ ap flag t in
        let e : ◌≡◌ {A = ℕ} (cond (eqb c c) 1 0) 1 = cond-true (eqb c c) 1 0 (eq-eqb c c refl) in
        twice c b (omega (arith, a.counts c, sum_by_more_le (λ j. cond (eqb j c) 1 0) kids q 0 h))
