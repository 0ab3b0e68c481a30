-- Number 1 is met by exactly the runs that are longer than the kind's longest.
use Rattle.std.specs.Prelude.{◌≡◌, ℕ, ◌<◌, List, length}
use Rattle.std.proofs.Common.{refl, inl, ⊎_elim, arith}
use Rattle.std.proofs.lemmas.Bool.{cases_lt}
use Rattle.rule.specs.declared.fault.Fault.{Fault}
use Rattle.rule.specs.declared.fault.Fault.TheVariants.{TooLong, CutShort, OutsideRow, NotATree, WrongClass, BadScope, SameAsNothing}
use Rattle.rule.specs.Faults.{number_of}
use Rattle.rule.specs.Intake.{Passes}
use Rattle.kinds.specs.Names.{meets_name}
use Rattle.kinds.specs.Rules.{meets_rule}

pub name-longest : (bytes : List ℕ) → (meets_name 1 bytes → 255 < length bytes) × (255 < length bytes → meets_name 1 bytes)
name-longest bytes = (λ met. ⊎_elim (λ long. long.1) (λ empty. absurd (omega (arith, empty.0))) met, λ long. inl (refl, long))

over : (ws : List ℕ) (f : Fault) → number_of f ≡ 1 → (Passes f ws → ⊥) → 8192 < length ws
over ws TooLong e met = ⊎_elim (λ long. long) (λ short. absurd (met short)) (cases_lt 8192 (length ws))
over ws CutShort e met = absurd (omega arith)
over ws OutsideRow e met = absurd (omega arith)
over ws NotATree e met = absurd (omega arith)
over ws WrongClass e met = absurd (omega arith)
over ws BadScope e met = absurd (omega arith)
over ws SameAsNothing e met = absurd (omega arith)

pub rule-longest : (ws : List ℕ) → (meets_rule 1 ws → 8192 < length ws) × (8192 < length ws → meets_rule 1 ws)
rule-longest ws = (λ met. over ws met.0 met.1 met.2, λ long. (TooLong, refl, λ short. omega (arith, long, short)))
