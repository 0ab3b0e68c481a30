-- The word-wise hasher on numbers below 2 ^ 64. Assumes nothing.
use Rattle.std.specs.Prelude.{◌≡◌, ℕ, ◌+◌, ◌*◌, ◌/◌, ◌%◌, ◌^◌, [], ◌∷◌, bit_or, bit_xor, refl}
use Rattle.hashing.specs.Words.{fed_all}

-- 64 bits rotated by 5 places to the left: the five highest come in again as the lowest
abbrev pub rotated_five : ℕ → ℕ
rotated_five s = bit_or ((s * 2 ^ 5) % 2 ^ 64) (s / 2 ^ 59)

-- the state after one word
abbrev pub rotating_step : ℕ → ℕ → ℕ
rotating_step s w = (bit_xor (rotated_five s) w * 0x517cc1b727220a95) % 2 ^ 64

pub lowest-up : rotated_five 1 ≡ 32
lowest-up = refl

pub highest-round : rotated_five (2 ^ 63 + 1) ≡ 48
highest-round = refl

-- from 0, one word is multiplied
pub first_word : rotating_step 0 2 ≡ 0xa2f9836e4e44152a
first_word = refl

pub second_word : fed_all rotating_step 0 (1 ∷ 2 ∷ []) ≡ 7659469028595837896
second_word = refl
