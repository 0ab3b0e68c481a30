-- What a trial adds to a pair table, and what it leaves when it fails.
use Rattle.std.specs.Prelude.{◌≡◌, ℕ, ◌<◌, ◌≤◌, true, false, List, length, slice_index}
use Rattle.trial.specs.Marks.{held}
use Rattle.trial.specs.Table.{vacant}

-- t' has every pair of t, and maybe more; past the places they are the same
pub record Extends (t t' : List ℕ) : Type 0 where
  pub long : length t' ≡ length t
  pub has : (k : ℕ) → vacant t k ≡ false → slice_index t' k ≡ slice_index t k
  pub tail : (k : ℕ) → 2048 ≤ k → slice_index t' k ≡ slice_index t k

-- s is t with no partner at the places that held none by the bits
pub record Restored (bits t s : List ℕ) : Type 0 where
  pub long : length s ≡ length t
  pub stays : (k : ℕ) → k < 2048 → held bits k ≡ true → slice_index s k ≡ slice_index t k
  pub vacated : (k : ℕ) → k < 2048 → k < length t → held bits k ≡ false → slice_index s k ≡ 4294967295
  pub tail : (k : ℕ) → 2048 ≤ k → slice_index s k ≡ slice_index t k
