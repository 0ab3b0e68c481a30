-- The bits that say which places held a partner.
use Rattle.std.proofs.Common.{◌≡◌, ℕ, zero, suc, ◌+◌, ◌-◌, ◌*◌, ◌/◌, ◌%◌, ◌^◌, ◌<◌, ◌≤◌, true, false, not, eqb, ◌≢◌, ◌⊎◌, List, length, get_or, set, replicate, sym, refl, ap, ◌∙◌, inl, inr, ⊎_elim, arith}
use Rattle.std.proofs.lemmas.Nat.{or_shr, or_mod, shl-shr, pow_below, pow-add, div-add-mod', mod_below}
use Rattle.std.proofs.lemmas.List.{get_or-set_same, get_or-set_other, get_or_past}
use Rattle.std.proofs.lemmas.Bool.{cases_eq, cases_lt}
use Rattle.trial.specs.Marks.{held}
use Rattle.trial.specs.Table.{vacant}
use lib.Bits.{bit_or}
use native.Mathlib.Nat.{div-eq_of_lt, zero-div}

bit-cases : (x : ℕ) → (x % 2 ≡ 0) ⊎ (x % 2 ≡ 1)
bit-cases x = ⊎_elim (λ e. inl e) (λ n. let h : x % 2 < 2 = mod_below x 2 (omega arith) in inr (omega arith)) (cases_eq (x % 2) 0)

-- a bit of an or is the or of the bits
or-bits : (w b n : ℕ) → bit_or w b / 2 ^ n % 2 ≡ bit_or (w / 2 ^ n % 2) (b / 2 ^ n % 2)
or-bits w b n = ap (λ x. x % 2) (or_shr w b n) ∙ or_mod (w / 2 ^ n) (b / 2 ^ n) 1

or-one : (x : ℕ) → (x % 2 ≡ 0) ⊎ (x % 2 ≡ 1) → bit_or (x % 2) 1 ≡ 1
or-one x (inl e) = ap (λ y. bit_or y 1) e
or-one x (inr e) = ap (λ y. bit_or y 1) e

or-zero : (x : ℕ) → (x % 2 ≡ 0) ⊎ (x % 2 ≡ 1) → bit_or (x % 2) 0 ≡ x % 2
or-zero x (inl e) = ap (λ y. bit_or y 0) e ∙ sym e
or-zero x (inr e) = ap (λ y. bit_or y 0) e ∙ sym e

-- 2 ^ m has bit m, and no other
power-bit-same : (m : ℕ) → 2 ^ m / 2 ^ m % 2 ≡ 1
power-bit-same m =
    let e : 1 * 2 ^ m / 2 ^ m ≡ 1 = shl-shr 1 m in
    let f : 1 * 2 ^ m ≡ 2 ^ m = omega arith in
    ap (λ x. x / 2 ^ m % 2) (sym f) ∙ ap (λ x. x % 2) e

power-bit-other : (m n : ℕ) → n ≢ m → 2 ^ m / 2 ^ n % 2 ≡ 0
power-bit-other m n h = ⊎_elim up down (cases_lt m n)
  where
    up : m < n → 2 ^ m / 2 ^ n % 2 ≡ 0
    up l = ap (λ x. x % 2) (div-eq_of_lt (pow_below m n l))

    down : n ≤ m → 2 ^ m / 2 ^ n % 2 ≡ 0
    down l =
        let d : ℕ = m - n - 1 in
        let e : m ≡ d + 1 + n = omega arith in
        let p : 2 ^ (d + 1) ≡ 2 ^ d * 2 ^ 1 = pow-add 2 d 1 in
        ap (λ x. 2 ^ x / 2 ^ n % 2) e ∙ ap (λ x. x / 2 ^ n % 2) (pow-add 2 (d + 1) n) ∙ ap (λ x. x % 2) (shl-shr (2 ^ (d + 1)) n)
        ∙ ap (λ x. x % 2) p ∙ omega arith

or-power-same : (w m : ℕ) → bit_or w (2 ^ m) / 2 ^ m % 2 ≡ 1
or-power-same w m = or-bits w (2 ^ m) m ∙ ap (λ x. bit_or (w / 2 ^ m % 2) x) (power-bit-same m) ∙ or-one (w / 2 ^ m) (bit-cases (w / 2 ^ m))

or-power-other : (w m n : ℕ) → n ≢ m → bit_or w (2 ^ m) / 2 ^ n % 2 ≡ w / 2 ^ n % 2
or-power-other w m n h =
    or-bits w (2 ^ m) n ∙ ap (λ x. bit_or (w / 2 ^ n % 2) x) (power-bit-other m n h) ∙ or-zero (w / 2 ^ n) (bit-cases (w / 2 ^ n))

-- the words with bit i set
abbrev pub marked : List ℕ → ℕ → List ℕ
marked bits i = set bits (i / 64) (bit_or (get_or bits (i / 64) 0) (2 ^ (i % 64)))

held_same : (bits : List ℕ) (i : ℕ) → i / 64 < length bits → held (marked bits i) i ≡ true
unfolding held
held_same bits i h =
    let w : ℕ = bit_or (get_or bits (i / 64) 0) (2 ^ (i % 64)) in
    ap (λ x. eqb (x / 2 ^ (i % 64) % 2) 1) (get_or-set_same bits (i / 64) w 0 h)
    ∙ ap (λ x. eqb x 1) (or-power-same (get_or bits (i / 64) 0) (i % 64))

held-other : (bits : List ℕ) (i k : ℕ) → i / 64 < length bits → k ≢ i → held (marked bits i) k ≡ held bits k
unfolding held
held-other bits i k h ne = go (cases_eq (k / 64) (i / 64))
  where
    go : (k / 64 ≡ i / 64) ⊎ (k / 64 ≡ i / 64 → ⊥) → held (marked bits i) k ≡ held bits k
    go (inl e) =
        let apart : k % 64 ≢ i % 64 =
        λ q. ne (sym (div-add-mod' k 64) ∙ ap (λ x. x * 64 + k % 64) e ∙ ap (λ x. i / 64 * 64 + x) q ∙ div-add-mod' i 64) in
        ap (λ x. eqb (get_or (marked bits i) x 0 / 2 ^ (k % 64) % 2) 1) e
        ∙ ap (λ x. eqb (x / 2 ^ (k % 64) % 2) 1) (get_or-set_same bits (i / 64) (bit_or (get_or bits (i / 64) 0) (2 ^ (i % 64))) 0 h)
        ∙ ap (λ x. eqb x 1) (or-power-other (get_or bits (i / 64) 0) (i % 64) (k % 64) apart)
        ∙ ap (λ x. eqb (get_or bits x 0 / 2 ^ (k % 64) % 2) 1) (sym e)
    go (inr n) = ap (λ x. eqb (x / 2 ^ (k % 64) % 2) 1) (get_or-set_other bits (i / 64) (k / 64) (bit_or (get_or bits (i / 64) 0) (2 ^ (i % 64))) 0 n)

held-word-zero : (bits : List ℕ) (k : ℕ) → get_or bits (k / 64) 0 ≡ 0 → held bits k ≡ false
unfolding held
held-word-zero bits k e = ap (λ x. eqb (x / 2 ^ (k % 64) % 2) 1) e ∙ ap (λ x. eqb (x % 2) 1) (zero-div (2 ^ (k % 64)))

-- no bit past the words
pub held-past : (bits : List ℕ) (k : ℕ) → length bits ≡ 32 → 2048 ≤ k → held bits k ≡ false
held-past bits k h l = held-word-zero bits k (get_or_past bits (k / 64) 0 (omega arith))

-- no bit of zeros is set
zeros-at : (n i : ℕ) → ◌≡◌ {A = ℕ} (get_or (replicate n 0) i 0) 0
zeros-at zero i = refl
zeros-at (suc n) zero = refl
zeros-at (suc n) (suc i) = zeros-at n i

-- the loop of Before::of: the bits are those of the places below i
abbrev pub MarkedTo : List ℕ → List ℕ → ℕ → Type 0
MarkedTo t bits i = ((k : ℕ) → k < i → held bits k ≡ not (vacant t k)) × ((k : ℕ) → i ≤ k → held bits k ≡ false)

pub marked-none : (t : List ℕ) (n : ℕ) → MarkedTo t (replicate n 0) 0
marked-none t n = (λ k l. absurd (omega arith), λ k l. held-word-zero (replicate n 0) k (zeros-at n (k / 64)))

pub marked_more :
    (t bits : List ℕ) (i : ℕ) → i / 64 < length bits → vacant t i ≡ false → MarkedTo t bits i → MarkedTo t (marked bits i) (i + 1)
marked_more t bits i b h inv = (
  λ k l. ⊎_elim (λ (q : k ≡ i). ap (held (marked bits i)) q ∙ held_same bits i b ∙ sym (ap (λ x. not (vacant t x)) q ∙ ap not h))
      (λ (n : k ≡ i → ⊥). held-other bits i k b n ∙ inv.0 k (omega arith)) (cases_eq k i),
  λ k l. let n : k ≢ i = omega arith in held-other bits i k b n ∙ inv.1 k (omega arith),
)

pub marked-vacant : (t bits : List ℕ) (i : ℕ) → vacant t i ≡ true → MarkedTo t bits i → MarkedTo t bits (i + 1)
marked-vacant t bits i h inv = (
  λ k l. ⊎_elim (λ (q : k ≡ i). inv.1 k (omega arith) ∙ sym (ap (λ x. not (vacant t x)) q ∙ ap not h))
      (λ (n : k ≡ i → ⊥). inv.0 k (omega arith)) (cases_eq k i),
  λ k l. inv.1 k (omega arith),
)
