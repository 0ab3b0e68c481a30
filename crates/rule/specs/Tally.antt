-- What is counted of the nodes while they are found to be a tree: how often each is a child, and how large its tree is.
use Rattle.std.specs.Prelude.{◌≡◌, ℕ, ◌+◌, ◌<◌, ◌≤◌, Bool, true, false, cond, List, [], ◌∷◌, length, map, ◌==◌, slice_index, sum_by, count_by}
use Rattle.rule.specs.Trees.{tree_at}
use Rattle.rule.specs.Marks.{size}
use Rattle.rule.specs.Intake.{nodes}

-- the sizes of the nodes that were no child so far, added up
unfoldable pub loose : List ℕ → List ℕ → ℕ
loose [] sizes = 0
loose (a ∷ seen) [] = 0
loose (a ∷ seen) (b ∷ sizes) = cond (a == 0) b 0 + loose seen sizes

-- what was a child so far, by number: 1, and else 0
abbrev pub flag : Bool → ℕ
flag true = 1
flag false = 0

abbrev pub flags : List Bool → List ℕ
flags = map flag

-- no node was a child more than once
abbrev pub AtMostOnce : List ℕ → Type 0
AtMostOnce seen = (x : ℕ) → slice_index seen x ≤ 1

-- the children kids of node i are below it and were no child before; now each is seen once more
pub record Added (kids : List ℕ) (i : ℕ) (seen seen' sizes : List ℕ) (total : ℕ) : Type 0 where
  pub below : (q : ℕ) → q < length kids → slice_index kids q < i
  pub counts : (x : ℕ) → slice_index seen' x ≡ slice_index seen x + count_by (λ k. k == x) kids
  pub flags : AtMostOnce seen'
  pub sum : total ≡ 1 + sum_by (λ k. slice_index sizes k) kids
  pub rest : total + loose seen' sizes ≡ 1 + loose seen sizes

-- a child of node i is not below it, or some node would be a child twice
pub data Clash (kids : List ℕ) (i : ℕ) (seen : List ℕ) : Type 0 where
  high : (q : ℕ) → q < length kids → i ≤ slice_index kids q → Clash kids i seen
  twice : (x : ℕ) → x < i → 1 < slice_index seen x + count_by (λ k. k == x) kids → Clash kids i seen

-- the size of each node's tree
pub record Sized (ws sizes : List ℕ) : Type 0 where
  pub each : (i : ℕ) → i < nodes ws → slice_index sizes i ≡ size (tree_at ws i)
  pub small : (i : ℕ) → i < nodes ws → slice_index sizes i ≤ 2048
