-- The input list of names. Assumes nothing.
use Rattle.std.specs.Prelude.{◌≡◌, ℕ, ◌<◌, ◌⊎◌, List, length}

-- 1: longer than 255 bytes; 2: empty
abbrev pub meets_name : ℕ → List ℕ → Type 0
meets_name n bytes = ((n ≡ 1) × (255 < length bytes)) ⊎ ((n ≡ 2) × (length bytes ≡ 0))
