-- The calls that enter the rules of a table, and what is promised of the catalogue then.
use Rattle.std.specs.Prelude.{◌≡◌, ℕ, List, [], ◌∷◌, length, vec_items, Result}
use Rattle.catalogue.specs.declared.fault.Fault.{Fault}
use Rattle.catalogue.specs.declared.record.Entered.{Entered}
use Rattle.catalogue.specs.Model.{Event, entering}
use Rattle.catalogue.specs.Promise.{Reached}
use Rattle.catalogue.specs.States.{State}
use Rattle.kinds.specs.Rules.{RulePromise, rules}
use Rattle.kinds.specs.declared.rules.RuleFault.{RuleFault}
use Rattle.tables.specs.declared.line.Entry.{Entry}

-- after the calls of h, an enter for each rule of a table in its order, with the answers: the last call first
abbrev pub enterings : List (Event ℕ RuleFault) → List Entry → List (Result Entered (Fault RuleFault)) → List (Event ℕ RuleFault)
enterings h [] answers = h
enterings h (e ∷ es) [] = h
enterings h (e ∷ es) (a ∷ answers) = enterings (entering (vec_items e.words) a ∷ h) es answers

-- a table whose rules were entered, each with its answer, into a catalogue that began empty and is now in the state s
pub record EntersAll (f : List ℕ → ℕ) (es : List Entry) (answers : List (Result Entered (Fault RuleFault))) (s : State ℕ) : Type 0 where
  pub all : length answers ≡ length es
  pub reached : Reached (rules f) (enterings [] es answers) s

-- what is promised of a catalogue that calls have reached holds of it, with n classes
pub record Classed (f : List ℕ → ℕ) (es : List Entry) (answers : List (Result Entered (Fault RuleFault))) (s : State ℕ) (n : ℕ) : Type 0 where
  pub entered : EntersAll f es answers s
  pub promise : RulePromise f (enterings [] es answers) s n
