-- What a hasher makes of a list of words. Assumes nothing.
use Rattle.std.specs.Prelude.{◌≡◌, ℕ, ◌+◌, ◌*◌, List, [], ◌∷◌, refl}
use Rattle.std.specs.List.{fold}
use Rattle.hashing.specs.declared.hasher.Hasher as hasher

-- the state after a list of words, the first word fed first
abbrev pub fed_all : {S : Type 0} → (S → ℕ → S) → S → List ℕ → S
fed_all fed s ws = fold fed s ws

-- the hash of a list of words, given the first state, one feed and the end
abbrev pub of_words : {S : Type 0} → S → (S → ℕ → S) → (S → ℕ) → List ℕ → ℕ
of_words begun fed ended ws = ended (fed_all fed begun ws)

-- the hash of a list of words by a hasher, given what the interface tells of it: `hash_by H.Hasher ws` under a bound `H: Hasher`
abbrev pub hash_by : {H : Type 0} → hasher.Ghosts H → List ℕ → ℕ
hash_by h ws = of_words h.begun h.fed h.ended ws

-- of no word, the end of the first state
pub of_none : of_words 4 (λ s w. 10 * s + w) (λ s. s + 1) [] ≡ 5
of_none = refl

-- the order counts: here the state is a numeral, and a word its next digit
pub of_two : of_words 4 (λ s w. 10 * s + w) (λ s. s + 1) (2 ∷ 7 ∷ []) ≡ 428
of_two = refl
