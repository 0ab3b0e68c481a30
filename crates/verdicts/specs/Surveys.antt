-- What becomes of the rules of two tables where the second takes the place of the first. Assumes nothing.
use Rattle.std.specs.Prelude.{◌≡◌, ◌⊎◌, List, [], ◌∷◌, ◌++◌}
use Rattle.tables.specs.declared.line.Entry.{Entry}
use Rattle.tables.specs.Rules.{name_of}
use Rattle.verdicts.specs.declared.outcome.Side.TheVariants.{Old, New}
use Rattle.verdicts.specs.declared.survey.Line.{Line}
use Rattle.verdicts.specs.Names.{Named, Lacks, words_of}
use Rattle.verdicts.specs.Outcomes.{OutcomeAs, SoleAs}

-- the line of the rule e of the old table: its name, and the outcome by a rule of the new table that has its name, or that of a
-- rule in the old table alone where the new one has no such rule
unfoldable pub OldLine : List Entry → Entry → Line → Type 0
OldLine new e l =
    (l.name.now ≡ name_of e) ×
    (((n : Entry) × Named new (name_of e) n × OutcomeAs (words_of e) (words_of n) l.outcome) ⊎ (Lacks new (name_of e) × SoleAs Old (words_of e) l.outcome))

-- a line for each rule of the old table, in its order
abbrev pub OldLines : List Entry → List Entry → List Line → Type 0
OldLines new [] [] = Unit {0}
OldLines new [] (l ∷ ls) = ⊥
OldLines new (e ∷ es) [] = ⊥
OldLines new (e ∷ es) (l ∷ ls) = OldLine new e l × OldLines new es ls

-- the line of the rule e that is in the new table alone: its name and its outcome
abbrev pub NewLine : Entry → Line → Type 0
NewLine e l = (l.name.now ≡ name_of e) × SoleAs New (words_of e) l.outcome

-- no line for a rule of the new table whose name the old one has, and a line for each other rule, in its order
abbrev pub NewLines : List Entry → List Entry → List Line → Type 0
NewLines old [] ls = ls ≡ []
NewLines old (e ∷ es) ls =
    (((o : Entry) × Named old (name_of e) o) × NewLines old es ls) ⊎
    (Lacks old (name_of e) × ((l : Line) × (more : List Line) × (ls ≡ l ∷ more) × NewLine e l × NewLines old es more))

-- the lines ls, and then those for the new table
abbrev pub WithNew : List Entry → List Entry → List Line → List Line → Type 0
WithNew old new ls all = (more : List Line) × (all ≡ ls ++ more) × NewLines old new more

-- the lines for the old table, and then those for the new one
abbrev pub SurveyOf : List Entry → List Entry → List Line → Type 0
SurveyOf old new all = (ls : List Line) × OldLines new old ls × WithNew old new ls all
