-- FNV-1a of 64 bits. Assumes nothing.
use Rattle.std.specs.Prelude.{◌≡◌, ℕ, ◌*◌, ◌/◌, ◌%◌, ◌^◌, List, [], ◌∷◌, bit_xor, refl}
use Rattle.std.specs.List.{flat_map}
use Rattle.hashing.specs.Words.{fed_all}

abbrev pub fnv1a_start : ℕ
fnv1a_start = 0xcbf29ce484222325

-- the state after one byte
abbrev pub fnv1a_byte : ℕ → ℕ → ℕ
fnv1a_byte h b = (bit_xor h b * 0x100000001b3) % 2 ^ 64

-- the state after bytes, from a state h
abbrev pub fnv1a_from : ℕ → List ℕ → ℕ
fnv1a_from h bs = fed_all fnv1a_byte h bs

-- the hash of bytes
abbrev pub fnv1a_of : List ℕ → ℕ
fnv1a_of bs = fnv1a_from fnv1a_start bs

-- the eight bytes of a word, the lowest first
abbrev pub le_bytes : ℕ → List ℕ
le_bytes w = (w % 256) ∷ (w / 256 % 256) ∷ (w / 65536 % 256) ∷ (w / 16777216 % 256) ∷ (w / 4294967296 % 256) ∷ (w / 1099511627776 % 256) ∷ (w / 281474976710656 % 256) ∷ (w / 72057594037927936 % 256) ∷ []

-- the bytes of words, one word after another
abbrev pub le_bytes_of : List ℕ → List ℕ
le_bytes_of ws = flat_map le_bytes ws

-- the state after one word
abbrev pub fnv1a_word : ℕ → ℕ → ℕ
fnv1a_word h w = fnv1a_from h (le_bytes w)

pub of-nothing : fnv1a_of [] ≡ 0xcbf29ce484222325
of-nothing = refl

-- the byte 97, which is the letter a
pub of-a : fnv1a_of (97 ∷ []) ≡ 0xaf63dc4c8601ec8c
of-a = refl

pub lowest-first : le_bytes 0x0807060504030201 ≡ 1 ∷ 2 ∷ 3 ∷ 4 ∷ 5 ∷ 6 ∷ 7 ∷ 8 ∷ []
lowest-first = refl

pub word-97 : fnv1a_word fnv1a_start 97 ≡ 0x6926124a7b1433c4
word-97 = refl
