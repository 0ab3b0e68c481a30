-- What comparing two branches, or two sides, answers: the walks of specs/Walking, of the branches and sides as they are passed.
use Rattle.std.specs.Prelude.{◌≡◌, ℕ, ◌+◌, Bool, List, length}
use Rattle.rule.specs.Trees.{tree_at}
use Rattle.sameness.specs.declared.kind.Branch.{Branch}
use Rattle.sameness.specs.declared.kind.Side.{Side}
use Rattle.sameness.specs.Comparing.{Sound}
use Rattle.sameness.specs.Walking.{NodesWalked, KindsWalked, KidsWalked, BothWalked, FirstFails}

abbrev pub BranchesWalked : Branch → Branch → List ℕ → List ℕ → Bool → Type 0
BranchesWalked x y t t' r = NodesWalked x.rule.words.now x.number y.rule.words.now y.number t t' r

abbrev pub SidesWalked : Side → Side → List ℕ → List ℕ → Bool → Type 0
SidesWalked l r t t' res = KindsWalked l.branch.rule.words.now l.node r.branch.rule.words.now r.node t t' res

abbrev pub ChildrenWalked : Side → Side → List ℕ → List ℕ → Bool → Type 0
ChildrenWalked l r t t' res = KidsWalked l.branch.rule.words.now l.node r.branch.rule.words.now r.node t t' res

-- x₀ and y₀, and then x₁ and y₁
abbrev pub PairsWalked : Branch → Branch → Branch → Branch → List ℕ → List ℕ → Bool → Type 0
PairsWalked x₀ x₁ y₀ y₁ t t' r =
    BothWalked (tree_at x₀.rule.words.now x₀.number) (tree_at x₁.rule.words.now x₁.number) (tree_at y₀.rule.words.now y₀.number) (tree_at y₁.rule.words.now y₁.number) t t' r

-- the reading of a binary expression as it stands fails
abbrev pub DirectFails : Side → Side → List ℕ → Type 0
DirectFails l r t = FirstFails l.branch.rule.words.now l.node r.branch.rule.words.now r.node t

-- a whole rule: the last node of a run that meets none of the grounds 1 to 6
pub record IsRoot (x : Branch) : Type 0 where
  pub sound : Sound x.rule.words.now
  pub last : x.number + 1 ≡ length x.rule.at.now
