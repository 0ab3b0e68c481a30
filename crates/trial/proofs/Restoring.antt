-- What a trial leaves in the table.
use Rattle.std.proofs.Common.{◌≡◌, ℕ, ◌+◌, ◌-◌, ◌<◌, ◌≤◌, min, Bool, true, false, not, ◌≢◌, List, ◌++◌, length, get_or, set, take, drop, sym, ap, ◌∙◌, ⊎_elim, arith}
use Rattle.std.proofs.lemmas.List.{get_or-set_same, get_or-set_other, get_or-take, get_or-drop, get_or_append_left, get_or-append_right, length-take, length-drop, length-append, ext_get_or}
use Rattle.std.proofs.lemmas.Bool.{cases_Bool, cases_eq, cases_lt, eqb-true, true≢false}
use Rattle.trial.specs.Marks.{held, Marked}
use Rattle.trial.specs.Table.{vacant}
use Rattle.trial.specs.Trials.{Extends, Restored}

-- a trial that failed puts the table back
pub put_back : (bits t t' s : List ℕ) → Marked bits t → Extends t t' → Restored bits t' s → s ≡ t
put_back bits t t' s m x b = ext_get_or 0 s t (b.long ∙ x.long) (λ k h. ⊎_elim (place k h) (λ l. b.tail k l ∙ x.tail k l) (cases_lt k 2048))
  where
    place : (k : ℕ) → k < length s → k < 2048 → get_or s k 0 ≡ get_or t k 0
    place k h l =
        let old : k < length t = omega (arith, b.long, x.long) in
        let new : k < length t' = omega (arith, b.long) in
        let held-is = m.marks k l old in
        ⊎_elim (λ (v : vacant t k ≡ true). b.vacated k l new (held-is ∙ ap not v) ∙ sym (eqb-true (get_or t k 0) 4294967295 v))
        (λ (v : vacant t k ≡ false). b.stays k l (held-is ∙ ap not v) ∙ x.has k v) (cases_Bool (vacant t k))

-- the loop of restore: up to place i the table s is restored, and past that it is t; f tells what was held
abbrev pub RestoredTo : (ℕ → Bool) → List ℕ → List ℕ → ℕ → Type 0
RestoredTo f t s i =
    ((k : ℕ) → k < i → f k ≡ true → get_or s k 0 ≡ get_or t k 0) ×
    ((k : ℕ) → k < i → f k ≡ false → get_or s k 0 ≡ 4294967295) ×
    ((k : ℕ) → i ≤ k → get_or s k 0 ≡ get_or t k 0)

pub restored-held : (f : ℕ → Bool) (t s : List ℕ) (i : ℕ) → f i ≡ true → RestoredTo f t s i → RestoredTo f t s (i + 1)
restored-held f t s i h inv = (
  λ k l e. ⊎_elim (λ (q : k ≡ i). inv.2 k (omega arith)) (λ (n : k ≡ i → ⊥). inv.0 k (omega arith) e) (cases_eq k i),
  λ k l e. ⊎_elim (λ (q : k ≡ i). absurd (true≢false (sym h ∙ ap f (sym q) ∙ e))) (λ (n : k ≡ i → ⊥). inv.1 k (omega arith) e) (cases_eq k i),
  λ k l. inv.2 k (omega arith),
)

pub restored-more :
    (f : ℕ → Bool) (t s : List ℕ) (i : ℕ) → i < length s → f i ≡ false → RestoredTo f t s i → RestoredTo f t (set s i 4294967295) (i + 1)
restored-more f t s i b h inv = (
  λ k l e. ⊎_elim (λ (q : k ≡ i). absurd (true≢false (sym e ∙ ap f q ∙ h)))
      (λ (n : k ≡ i → ⊥). get_or-set_other s i k 4294967295 0 n ∙ inv.0 k (omega arith) e) (cases_eq k i),
  λ k l e. ⊎_elim (λ (q : k ≡ i). ap (λ x. get_or (set s i 4294967295) x 0) q ∙ get_or-set_same s i 4294967295 0 b)
      (λ (n : k ≡ i → ⊥). get_or-set_other s i k 4294967295 0 n ∙ inv.1 k (omega arith) e) (cases_eq k i),
  λ k l. let n : k ≢ i = omega arith in get_or-set_other s i k 4294967295 0 n ∙ inv.2 k (omega arith),
)

-- restore goes over the places of the table alone, and leaves what stands past them
pub restored-places :
    (bits t s : List ℕ) (n i : ℕ) → n ≡ min (length t) 2048 → length s ≡ length (take n t) → length (take n t) ≤ i →
    RestoredTo (held bits) (take n t) s i → Restored bits t (s ++ drop n t)
restored-places bits t s n i whole long done inv =
    record {
      long = length-append s (drop n t) ∙ omega (arith, size, length-drop n t);
      stays = λ k l h.
          ⊎_elim (λ (b : k < n). within k b ∙ inv.0 k (omega (arith, size)) h ∙ get_or-take n t k 0 b) (λ (b : n ≤ k). past k b) (cases_lt k n);
      vacated = λ k l b h. within k (omega arith) ∙ inv.1 k (omega (arith, size)) h;
      tail = λ k l. past k (omega arith);
    }
  where
    size : length s ≡ n
    size = long ∙ length-take n t ∙ omega arith

    within : (k : ℕ) → k < n → get_or (s ++ drop n t) k 0 ≡ get_or s k 0
    within k b = get_or_append_left s (drop n t) 0 k (omega (arith, size))

    past : (k : ℕ) → n ≤ k → get_or (s ++ drop n t) k 0 ≡ get_or t k 0
    past k b =
        let e : n + (k - n) ≡ k = omega arith in
        get_or-append_right s (drop n t) n k 0 size b ∙ get_or-drop n t (k - n) 0 ∙ ap (λ j. get_or t j 0) e
