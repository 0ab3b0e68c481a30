-- What is said of a rule, and how many rules are accepted.
use Rattle.std.specs.Prelude.{ℕ, List, count_by, is_ok, MatchResult}
use Rattle.rule.specs.declared.fault.Fault.{Fault}
use Rattle.rule.specs.Intake as intake
use Rattle.verdicts.specs.declared.verdict.Verdict.{Verdict}

abbrev pub acceptances : List Verdict → ℕ
acceptances vs = count_by (λ v. is_ok v.0) vs

-- a rule is accepted where it meets no ground of refusal, and else refused by the first one that it meets
abbrev pub VerdictOn : List ℕ → Verdict → Type 0
VerdictOn ws v = MatchResult v.0 (λ _. (f : Fault) → intake.Passes f ws) (λ f. intake.Refused ws f)
