-- What comparing two runs of words answers, and what it leaves in the pair table.
use Rattle.std.specs.Prelude.{◌≡◌, ℕ, ◌<◌, ◌≤◌, Bool, true, false, List, length, Ok, Err, Result, slice_index}
use Rattle.rule.specs.declared.fault.Fault.{Fault}
use Rattle.rule.specs.Faults.{number_of}
use Rattle.rule.specs.declared.nodes.Nodes.{Nodes}
use Rattle.rule.specs.Intake.{Accepted, Passes, Refused}
use Rattle.rule.specs.Trees.{Tree, tree_of}
use Rattle.sameness.specs.declared.compare.CompareFault.{CompareFault}
use Rattle.sameness.specs.declared.compare.CompareFault.TheVariants.{PairTable, Unfit as ByUnfit}
use Rattle.sameness.specs.declared.compare.Unfit.{Unfit}
use Rattle.sameness.specs.declared.compare.Unfit.TheVariants.{First, Second}
use Rattle.sameness.specs.Reduction.{reduce}
use Rattle.sameness.specs.Sameness.{Agree, Partner, declarations, Same}
use Rattle.sameness.specs.Deciding.{Table, blank, holds, decide, toward, backward, Shows}

-- the number of a refusal: that of the rule's fault, or 23 for a pair table below 2,048 words
abbrev pub unfit_number : Unfit → ℕ
unfit_number (First f) = number_of f
unfit_number (Second f) = number_of f

abbrev pub compare_number : CompareFault → ℕ
compare_number (ByUnfit e) = unfit_number e
compare_number PairTable = 23

-- a run that meets none of the grounds 1 to 6
abbrev pub Sound : List ℕ → Type 0
Sound ws = (f : Fault) → number_of f ≤ 6 → Passes f ws

-- a run that is refused by the first of these that it meets
abbrev pub Unsound : List ℕ → Fault → Type 0
Unsound ws f = Refused ws f × (number_of f ≤ 6)

-- what stands past the first 2,048 words does not change
abbrev pub SameTail : List ℕ → List ℕ → Type 0
SameTail ps qs = (length qs ≡ length ps) × ((k : ℕ) → 2048 ≤ k → slice_index qs k ≡ slice_index ps k)

-- two trees are the same, and the table has the renaming that the walk finds, the direct reading of a comparison first:
-- under it the reduced trees agree
pub record Renamed (t u : Tree) (qs : List ℕ) : Type 0 where
  pub same : Same t u
  pub table : Table
  pub found : decide (reduce t) (reduce u) blank ≡ holds table
  pub agree : Agree (Partner (toward table) (backward table) (declarations (reduce t)) (declarations (reduce u))) (reduce t) (reduce u)
  pub shows : Shows table qs

-- two trees are not the same, and no local has a partner
pub record Parted (t u : Tree) (qs : List ℕ) : Type 0 where
  pub differ : Same t u → ⊥
  pub none : (k : ℕ) → k < 2048 → slice_index qs k ≡ 4294967295

abbrev pub Judged : Bool → Tree → Tree → List ℕ → Type 0
Judged true t u qs = Renamed t u qs
Judged false t u qs = Parted t u qs

-- which of the runs ws and us is no rule: the first, or the second where the first is one
abbrev pub UnfitAs : List ℕ → List ℕ → Unfit → Type 0
UnfitAs ws us (First f) = Unsound ws f
UnfitAs ws us (Second f) = Sound ws × Unsound us f

-- the places of the nodes of both, or which is no rule
abbrev pub BothAs : List ℕ → List ℕ → Result (Nodes × Nodes) Unfit → Type 0
BothAs ws us (Ok n) = Accepted 6 ws n.0 × Accepted 6 us n.1
BothAs ws us (Err e) = UnfitAs ws us e

-- the answer for the runs ws and us, where the pair table was ps and is qs
abbrev pub Compared : List ℕ → List ℕ → List ℕ → List ℕ → Result Bool CompareFault → Type 0
Compared ws us ps qs (Ok r) = Sound ws × Sound us × (2048 ≤ length ps) × Judged r (tree_of ws) (tree_of us) qs × SameTail ps qs
Compared ws us ps qs (Err (ByUnfit e)) = UnfitAs ws us e × (qs ≡ ps)
Compared ws us ps qs (Err PairTable) = Sound ws × Sound us × (length ps < 2048) × (qs ≡ ps)

-- the same over a pair table of 2,048 words
abbrev pub ComparedOver : List ℕ → List ℕ → List ℕ → List ℕ → Result Bool Unfit → Type 0
ComparedOver ws us ps qs (Ok r) = Sound ws × Sound us × Judged r (tree_of ws) (tree_of us) qs
ComparedOver ws us ps qs (Err e) = UnfitAs ws us e × (qs ≡ ps)
