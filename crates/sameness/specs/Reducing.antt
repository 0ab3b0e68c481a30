-- What is known of the nodes of a rule that are reduced.
use Rattle.std.specs.Prelude.{◌≡◌, ℕ, ◌+◌, ◌<◌, ◌≤◌, List, length, slice_index, slice_index_or}
use Rattle.rule.specs.Intake.{nodes}
use Rattle.rule.specs.Trees.{tree_at}
use Rattle.sameness.specs.declared.kind.Kind.{Kind}
use Rattle.sameness.specs.declared.reducing.Reduced.{Reduced}
use Rattle.sameness.specs.Comparing.{Sound}
use Rattle.sameness.specs.Kinds.{kind_tree}
use Rattle.sameness.specs.Reduction.{reduce}

-- what stands where no node is
abbrev pub no_kind : Kind
no_kind = record { code = 0; v = 0; w = 0; first = 0; kids = 0 }

-- what node i comes to
abbrev pub kind_in : List Kind → ℕ → Kind
kind_in ks i = slice_index_or ks i no_kind

-- a kind that is node i reduced: its children are nodes below i, and their numbers stand in the run
pub record NodeReduced (ws : List ℕ) (i : ℕ) (k : Kind) : Type 0 where
  pub tree : kind_tree ws k ≡ reduce (tree_at ws i)
  pub within : k.first + k.kids ≤ length ws
  pub below : (q : ℕ) → q < k.kids → slice_index ws (k.first + q) < i

-- the rule of a run that meets none of the grounds 1 to 6, with each node reduced
pub record RuleReduced (ws : List ℕ) (r : Reduced) : Type 0 where
  pub sound : Sound ws
  pub count : r.count ≡ nodes ws
  pub some : 0 < r.count
  pub few : r.count ≤ 2048
  pub each : (i : ℕ) → i < r.count → NodeReduced ws i (kind_in r.kinds i)
