-- What comparing the rules of two names answers. Assumes nothing.
use Rattle.std.specs.Prelude.{◌≡◌, ℕ, ◌⊎◌, List, Ok, Err, Result}
use Rattle.tables.specs.declared.line.Entry.{Entry}
use Rattle.verdicts.specs.declared.comparison.Comparison.{Comparison}
use Rattle.verdicts.specs.declared.comparison.Uncompared.{Uncompared}
use Rattle.verdicts.specs.declared.comparison.Uncompared.TheVariants.{Unnamed, Memory}
use Rattle.verdicts.specs.Answers.{AnsweredAs}
use Rattle.verdicts.specs.Names.{Named, Lacks, words_of}

-- a rule of the first name is compared with one of the second; or no rule has one of the names
abbrev pub ComparisonAs : List Entry → List ℕ → List ℕ → Result Comparison Uncompared → Type 0
ComparisonAs es first second (Ok c) =
    (c.first.now ≡ first) ×
    (c.second.now ≡ second) ×
    ((n : Entry) × (m : Entry) × Named es first n × Named es second m × AnsweredAs (words_of n) (words_of m) c.answer)
ComparisonAs es first second (Err (Unnamed name)) = ((name.now ≡ first) × Lacks es first) ⊎ ((name.now ≡ second) × Lacks es second)
ComparisonAs es first second (Err Memory) = Unit {0}
