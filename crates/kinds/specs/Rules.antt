-- Rules as entries: their input list, their sameness, and what is promised of their classes.
use Rattle.std.specs.Prelude.{◌≡◌, ℕ, ◌<◌, List}
use Rattle.rule.specs.declared.fault.Fault.{Fault}
use Rattle.rule.specs.Faults.{number_of}
use Rattle.rule.specs.Intake.{Passes}
use Rattle.rule.specs.Trees.{tree_of}
use Rattle.sameness.specs.Reduction.{reduce}
use Rattle.sameness.specs.Sameness.{Agree, Partner, declarations, Same}
use Rattle.feed.specs.Feed.{feed}
use Rattle.catalogue.specs.Kinds.{Sense}
use Rattle.catalogue.specs.Model.{Event}
use Rattle.catalogue.specs.Promise.{Reached, Promise}
use Rattle.catalogue.specs.States.{State, run_at, class_at}
use Rattle.kinds.specs.declared.rules.RuleFault.{RuleFault}
use Rattle.kinds.specs.Numbers.{rule_number}

-- a run meets the number of a ground that it does not pass: 1 to 7
abbrev pub meets_rule : ℕ → List ℕ → Type 0
meets_rule n ws = (f : Fault) × (number_of f ≡ n) × (Passes f ws → ⊥)

abbrev pub same_rule : List ℕ → List ℕ → Type 0
same_rule ws us = Same (tree_of ws) (tree_of us)

abbrev pub rule_feed : (List ℕ → ℕ) → List ℕ → List ℕ
rule_feed f ws = feed f (reduce (tree_of ws))

-- the kind, under a hasher
abbrev pub rules : (List ℕ → ℕ) → Sense ℕ RuleFault
rules f = record { meets = meets_rule; same = same_rule; hashed = λ ws. f (rule_feed f ws); number = rule_number }

---- the promise, with sameness in full

-- both reduced, two rules agree node for node once some comparisons of the first are reversed and its declared locals are
-- renamed one to one to those of the second
pub record Renamable (ws us : List ℕ) : Type 0 where
  pub to : ℕ → ℕ
  pub from : ℕ → ℕ
  pub agree : Agree (Partner to from (declarations (reduce (tree_of ws))) (declarations (reduce (tree_of us)))) (reduce (tree_of ws)) (reduce (tree_of us))

-- of a state s of a catalogue of rules that was reached by the calls of h under the hasher f, where n classes are counted
pub record RulePromise (f : List ℕ → ℕ) (h : List (Event ℕ RuleFault)) (s : State ℕ) (n : ℕ) : Type 0 where
  pub promise : Promise rules f h s n
  -- two standing rules bear one class number exactly when they are renamable
  pub one_class : (i j : ℕ) → i < s.numbers.standing → j < s.numbers.standing → Renamable (run_at s i) (run_at s j) → class_at s i ≡ class_at s j
  pub one_renaming : (i j : ℕ) → i < s.numbers.standing → j < s.numbers.standing → class_at s i ≡ class_at s j → Renamable (run_at s i) (run_at s j)

abbrev pub RulesPromised : (List ℕ → ℕ) → State ℕ → ℕ → Type 0
RulesPromised f s n = (h : List (Event ℕ RuleFault)) → Reached (rules f) h s → RulePromise f h s n
