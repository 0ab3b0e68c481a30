-- What becomes of a rule when a table is changed, and how many rules have each outcome. Assumes nothing.
use Rattle.std.specs.Prelude.{◌≡◌, ℕ, ◌<◌, ◌≤◌, Bool, true, false, List, length, Some, None, Ok, Err, Option, Result, ◌==◌, count_by}
use Rattle.rule.specs.Faults.{number_of}
use Rattle.rule.specs.Intake as intake
use Rattle.rule.specs.Trees.{tree_of}
use Rattle.sameness.specs.Sameness.{Same}
use Rattle.sameness.specs.Comparing.{Compared, Sound}
use Rattle.sameness.specs.declared.compare.CompareFault.{CompareFault}
use Rattle.sameness.specs.declared.compare.CompareFault.TheVariants.{PairTable, Unfit as ByUnfit}
use Rattle.sameness.specs.declared.compare.Unfit.{Unfit}
use Rattle.sameness.specs.declared.compare.Unfit.TheVariants.{First, Second}
use Rattle.verdicts.specs.declared.outcome.Kind.{Kind}
use Rattle.verdicts.specs.declared.outcome.Outcome.{Outcome}
use Rattle.verdicts.specs.declared.outcome.Outcome.TheVariants.{Keep, Convert, Gone, Added, Refused}
use Rattle.verdicts.specs.declared.outcome.Side.{Side}
use Rattle.verdicts.specs.declared.outcome.Side.TheVariants.{Old, New}

abbrev pub kind_of : Outcome → Kind
kind_of Keep = Kind.Keep
kind_of Convert = Kind.Convert
kind_of Gone = Kind.Gone
kind_of Added = Kind.Added
kind_of (Refused side fault) = Kind.Refused

abbrev pub rank : Kind → ℕ
rank Kind.Keep = 0
rank Kind.Convert = 1
rank Kind.Gone = 2
rank Kind.Added = 3
rank Kind.Refused = 4

abbrev pub is_kind : Kind → Kind → Bool
is_kind a b = rank a == rank b

-- how many of the outcomes are of a kind
abbrev pub counted : Kind → List Outcome → ℕ
counted k os = count_by (λ o. is_kind (kind_of o) k) os

-- the outcome of two rules that are the same, or are not
abbrev pub both : Bool → Outcome
both true = Keep
both false = Convert

-- the outcome of a rule that is in both tables, where one of the two is no rule
abbrev pub unfit : Unfit → Outcome
unfit (First fault) = Refused Old fault
unfit (Second fault) = Refused New fault

-- the outcome of a rule that is in both tables, by what comparing the two says, and none where the pair table was too short for it
abbrev pub answered : Result Bool CompareFault → Option Outcome
answered (Ok same) = Some (both same)
answered (Err (ByUnfit e)) = Some (unfit e)
answered (Err PairTable) = None

-- the outcome of a rule that is in one table alone: refused by the first ground from 1 to 6 that it meets, or gone or new
abbrev pub SoleAs : Side → List ℕ → Outcome → Type 0
SoleAs side ws Keep = ⊥
SoleAs side ws Convert = ⊥
SoleAs side ws Gone = (side ≡ Old) × Sound ws
SoleAs side ws Added = (side ≡ New) × Sound ws
SoleAs side ws (Refused s f) = (s ≡ side) × intake.Refused ws f × (number_of f ≤ 6)

-- the outcome of a rule that is in both tables: it is kept exactly when both are rules and they are the same
abbrev pub OutcomeAs : List ℕ → List ℕ → Outcome → Type 0
OutcomeAs ws us Keep = Sound ws × Sound us × Same (tree_of ws) (tree_of us)
OutcomeAs ws us Convert = Sound ws × Sound us × (Same (tree_of ws) (tree_of us) → ⊥)
OutcomeAs ws us Gone = ⊥
OutcomeAs ws us Added = ⊥
OutcomeAs ws us (Refused Old f) = intake.Refused ws f × (number_of f ≤ 6)
OutcomeAs ws us (Refused New f) = Sound ws × intake.Refused us f × (number_of f ≤ 6)

-- the same over the pair table ps, where nothing is said if it is too short
abbrev pub JudgedAs : List ℕ → List ℕ → List ℕ → Option Outcome → Type 0
JudgedAs ws us ps (Some o) = OutcomeAs ws us o
JudgedAs ws us ps None = length ps < 2048

-- the outcome is that of comparing the two, by which the pair table ps is qs then
abbrev pub OutcomeBy : List ℕ → List ℕ → List ℕ → List ℕ → Option Outcome → Type 0
OutcomeBy ws us ps qs o = (r : Result Bool CompareFault) × (o ≡ answered r) × Compared ws us ps qs r
