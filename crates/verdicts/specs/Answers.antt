-- What comparing two rules answers. Assumes nothing.
use Rattle.std.specs.Prelude.{ℕ, List, Some, None, Ok, Err, Option, Result}
use Rattle.rule.specs.Trees.{tree_of}
use Rattle.sameness.specs.Sameness.{Same}
use Rattle.sameness.specs.Comparing.{Sound, UnfitAs, Renamed}
use Rattle.sameness.specs.declared.compare.Unfit.{Unfit}
use Rattle.verdicts.specs.declared.pairs.PairTable.{PairTable}

-- the answer for the runs ws and us: where they are the same, the table has the renaming
abbrev pub AnsweredAs : List ℕ → List ℕ → Result (Option PairTable) Unfit → Type 0
AnsweredAs ws us (Ok (Some pairs)) = Sound ws × Sound us × Renamed (tree_of ws) (tree_of us) pairs.places
AnsweredAs ws us (Ok None) = Sound ws × Sound us × (Same (tree_of ws) (tree_of us) → ⊥)
AnsweredAs ws us (Err e) = UnfitAs ws us e
