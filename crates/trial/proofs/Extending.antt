-- A table that has every pair of another, and maybe more.
use Rattle.std.proofs.Common.{◌≡◌, ℕ, ◌+◌, ◌<◌, true, false, ◌&&◌, eqb, ◌≢◌, List, length, get_or, sym, refl, ap, ◌∙◌, arith}
use Rattle.std.proofs.lemmas.Bool.{and_parts, true≢false}
use Rattle.trial.proofs.Recording.{placed-within, recorded-length, recorded-other, unpaired-parts}
use Rattle.trial.specs.Table.{vacant, placed, unpaired, recorded}
use Rattle.trial.specs.Trials.{Extends}

pub extends-refl : (t : List ℕ) → Extends t t
extends-refl t = record { long = refl; has = λ k h. refl; tail = λ k h. refl }

pub extends-trans : (t t' t'' : List ℕ) → Extends t t' → Extends t' t'' → Extends t t''
extends-trans t t' t'' a b =
    record {
      long = b.long ∙ a.long;
      has = λ k h. let e : get_or t' k 0 ≡ get_or t k 0 = a.has k h in b.has k (ap (λ x. eqb x 4294967295) e ∙ h) ∙ e;
      tail = λ k h. b.tail k h ∙ a.tail k h;
    }

-- a change at two places of a pair that hold none
change-extends :
    (t s : List ℕ) (l r : ℕ) → l < 1024 → r < 1024 → vacant t l ≡ true → vacant t (1024 + r) ≡ true → length s ≡ length t →
    ((k : ℕ) → k ≢ l → k ≢ 1024 + r → get_or s k 0 ≡ get_or t k 0) → Extends t s
change-extends t s l r hl hr vl vr long other =
    record { long = long; has = λ k h. other k (apart k l vl h) (apart k (1024 + r) vr h); tail = λ k h. other k (omega arith) (omega arith) }
  where
    apart : (k i : ℕ) → vacant t i ≡ true → vacant t k ≡ false → k ≢ i
    apart k i v h e = true≢false (sym v ∙ ap (vacant t) (sym e) ∙ h)

pub recorded-extends :
    (t : List ℕ) (l r : ℕ) → l < 1024 → r < 1024 → vacant t l ≡ true → vacant t (1024 + r) ≡ true → Extends t (recorded t l r)
recorded-extends t l r hl hr vl vr = change-extends t (recorded t l r) l r hl hr vl vr (recorded-length t l r) (recorded-other t l r)

pub unpaired-extends : (t : List ℕ) (l r : ℕ) → unpaired t l r ≡ true → Extends t (recorded t l r)
unfolding unpaired
unpaired-extends t l r h =
    let places = and_parts (placed t l r) (vacant t l && vacant t (1024 + r)) h in
    let within = placed-within t l r places.0 in
    let none = unpaired-parts t l r h in
    recorded-extends t l r within.0 within.1 none.0 none.1
