-- Digits, one more of them, and what they write. Assumes nothing.
use Rattle.std.proofs.Common.{◌≡◌, ℕ, ◌<◌, ◌≤◌, true, false, ◌&&◌, List, [], ◌∷◌, length, Ok, Err, Result, sym, refl, ap, ◌∙◌, subst, inl, inr, ⊎_elim, arith}
use Rattle.std.specs.Char.{digit_value, is_digit}
use Rattle.std.specs.List.{list_all}
use Rattle.std.specs.Str.Parse.{AllDigits, IsNumeral, digits_value, without_leading_plus}
use Rattle.std.proofs.lemmas.Bool.{and_parts, both_ways, lt-ltb, ltb-true}
use Rattle.std.proofs.lemmas.Str.Parse.{without_leading_plus_none}
use Rattle.tables.specs.declared.word.WordFault.{WordFault}
use Rattle.tables.specs.declared.word.WordFault.TheVariants.{NotANumber, TooLarge}
use Rattle.tables.specs.Numerals.{Writes, ReadAs, DigitsAs}

-- bytes that all pass the test of a digit, and bytes that do not
digits-all : (radix : ℕ) (ds : List ℕ) → list_all (λ b. is_digit b radix) ds ≡ true → AllDigits radix ds
digits-all radix [] h = tt
digits-all radix (d ∷ ds) h =
    let parts = and_parts (is_digit d radix) (list_all (λ b. is_digit b radix) ds) h in
    (ltb-true (digit_value d) radix parts.0, digits-all radix ds parts.1)

all-digits : (radix : ℕ) (ds : List ℕ) → AllDigits radix ds → list_all (λ b. is_digit b radix) ds ≡ true
all-digits radix [] h = refl
all-digits radix (d ∷ ds) h = (λ i. lt-ltb (digit_value d) radix h.0 i && all-digits radix ds h.1 i)

pub no-digits : (radix : ℕ) (ds : List ℕ) → list_all (λ b. is_digit b radix) ds ≡ false → IsNumeral radix ds → ⊥
no-digits radix ds off n = both_ways (list_all (λ b. is_digit b radix) ds) off (all-digits radix ds n.1)

no-plus : (radix : ℕ) (ds : List ℕ) → radix ≤ 16 → IsNumeral radix ds → without_leading_plus ds ≡ ds
no-plus radix [] low n = absurd (omega (arith, n.0))
no-plus radix (d ∷ ds) low n = without_leading_plus_none (d ∷ ds) (λ e. omega (arith, n.1.0, ap digit_value e))

pub numeral : (radix : ℕ) (ds : List ℕ) → 0 < length ds → list_all (λ b. is_digit b radix) ds ≡ true → IsNumeral radix ds
numeral radix ds some all = (some, digits-all radix ds all)

-- no decimal number begins with 0x
no-decimal : (ds : List ℕ) → AllDigits 10 (48 ∷ 120 ∷ ds) → ⊥
no-decimal ds d = let h : 33 < 10 = d.1.0 in omega arith

no-decimal-at : (bs ds : List ℕ) → bs ≡ 48 ∷ 120 ∷ ds → IsNumeral 10 bs → ⊥
no-decimal-at bs ds e n = no-decimal ds (rw e at n.1)

same-tail : (bs ds es : List ℕ) → bs ≡ 48 ∷ 120 ∷ ds → bs ≡ 48 ∷ 120 ∷ es → ds ≡ es
same-tail bs ds es p q = cc

pub writes_one : (bs : List ℕ) (m n : ℕ) → Writes bs m → Writes bs n → m ≡ n
writes_one bs m n (inl p) (inl q) = p.1 ∙ sym q.1
writes_one bs m n (inl p) (inr q) = absurd (no-decimal-at bs q.0 q.1 p.0)
writes_one bs m n (inr p) (inl q) = absurd (no-decimal-at bs p.0 p.1 q.0)
writes_one bs m n (inr p) (inr q) = p.3 ∙ ap (digits_value 16) (same-tail bs p.0 q.0 p.1 q.1) ∙ sym q.3

pub hexadecimal : (bs ds : List ℕ) (r : Result ℕ WordFault) → bs ≡ 48 ∷ 120 ∷ ds → DigitsAs 16 ds r → ReadAs bs r
hexadecimal bs ds (Ok n) e h = (inr (ds, e, h.0, h.1), h.2)
hexadecimal bs ds (Err TooLarge) e h = (digits_value 16 ds, inr (ds, e, h.0, refl), h.1)
hexadecimal bs ds (Err NotANumber) e h = λ n w.
    ⊎_elim (λ p. no-decimal-at bs ds e p.0) (λ q. h (subst (IsNumeral 16) (same-tail bs q.0 ds q.1 e) q.2)) w

pub decimal : (bs : List ℕ) (r : Result ℕ WordFault) → ((ds : List ℕ) → bs ≡ 48 ∷ 120 ∷ ds → ⊥) → DigitsAs 10 bs r → ReadAs bs r
decimal bs (Ok n) no-prefix h = (inl (h.0, h.1), h.2)
decimal bs (Err TooLarge) no-prefix h = (digits_value 10 bs, inl (h.0, refl), h.1)
decimal bs (Err NotANumber) no-prefix h = λ n w. ⊎_elim (λ p. h p.0) (λ q. no-prefix q.0 q.1) w
