-- The pair table: place l is the partner of local l of the first rule, place 1,024 + r that of local r of the second.
use Rattle.std.specs.Prelude.{◌≡◌, ℕ, ◌+◌, ◌<◌, ◌≤◌, Bool, cond, ◌&&◌, List, length, ◌==◌, nat_lt, slice_index, slice_set}

-- place k holds no partner
abbrev pub vacant : List ℕ → ℕ → Bool
vacant t k = slice_index t k == 4294967295

-- l and r are numbers of locals, and the table has their places
unfoldable pub placed : List ℕ → ℕ → ℕ → Bool
placed t l r = nat_lt l 1024 && (nat_lt r 1024 && nat_lt (1024 + r) (length t))

-- the table has the places of l and r, and they hold x and y
abbrev pub holds : List ℕ → ℕ → ℕ → ℕ → ℕ → Bool
holds t l r x y = placed t l r && (slice_index t l == x && slice_index t (1024 + r) == y)

-- l and r are each other's partner
unfoldable pub paired : List ℕ → ℕ → ℕ → Bool
paired t l r = holds t l r r l

-- neither l nor r has a partner
unfoldable pub unpaired : List ℕ → ℕ → ℕ → Bool
unpaired t l r = placed t l r && (vacant t l && vacant t (1024 + r))

-- the table with l and r as partners; the same table where it lacks a place of theirs
unfoldable pub recorded : List ℕ → ℕ → ℕ → List ℕ
recorded t l r = cond (placed t l r) (slice_set (slice_set t l r) (1024 + r) l) t

-- s is t with no partner at any place, and the same past the places
pub record Cleared (t s : List ℕ) : Type 0 where
  pub long : length s ≡ length t
  pub vacated : (k : ℕ) → k < 2048 → k < length t → slice_index s k ≡ 4294967295
  pub tail : (k : ℕ) → 2048 ≤ k → slice_index s k ≡ slice_index t k
