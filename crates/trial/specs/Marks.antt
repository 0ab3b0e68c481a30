-- Which places of a pair table held a partner, as the bits of words of 64.
use Rattle.std.specs.Prelude.{◌≡◌, ℕ, ◌/◌, ◌%◌, ◌^◌, ◌<◌, ◌≤◌, Bool, false, not, List, length, ◌==◌, slice_index}
use Rattle.trial.specs.Table.{vacant}

-- bit k
unfoldable pub held : List ℕ → ℕ → Bool
held bits k = slice_index bits (k / 64) / 2 ^ (k % 64) % 2 == 1

-- the bits are those of the places of t that hold a partner
pub record Marked (bits t : List ℕ) : Type 0 where
  pub marks : (k : ℕ) → k < 2048 → k < length t → held bits k ≡ not (vacant t k)
  pub past : (k : ℕ) → length t ≤ k → held bits k ≡ false
