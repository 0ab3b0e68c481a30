-- The numbers of the faults of rules and of names, and that no two faults of a kind have one number.
use Rattle.std.specs.Prelude.{◌≡◌, ℕ, ◌-◌, List, [], ◌∷◌, slice_index_or, refl}
use Rattle.std.proofs.Common.{sym, ap, ◌∙◌}
use Rattle.rule.specs.declared.fault.Fault.{Fault}
use Rattle.rule.specs.declared.fault.Fault.TheVariants.{TooLong, CutShort, OutsideRow, NotATree, WrongClass, BadScope, SameAsNothing}
use Rattle.rule.specs.Faults.{number_of}
use Rattle.kinds.specs.declared.names.NameFault.{NameFault}
use Rattle.kinds.specs.declared.rules.RuleFault.{RuleFault}
use Rattle.kinds.specs.declared.names.NameFault.TheVariants.{TooLong as LongName, Empty}

abbrev pub rule_number : RuleFault → ℕ
rule_number e = number_of e.0

abbrev pub name_number : NameFault → ℕ
name_number LongName = 1
name_number Empty = 2

---- the fault of a number

rule_faults : List Fault
rule_faults = TooLong ∷ CutShort ∷ OutsideRow ∷ NotATree ∷ WrongClass ∷ BadScope ∷ SameAsNothing ∷ []

rule_fault_at : (f : Fault) → slice_index_or rule_faults (number_of f - 1) TooLong ≡ f
unfolding rule_faults
rule_fault_at TooLong = refl
rule_fault_at CutShort = refl
rule_fault_at OutsideRow = refl
rule_fault_at NotATree = refl
rule_fault_at WrongClass = refl
rule_fault_at BadScope = refl
rule_fault_at SameAsNothing = refl

one_fault : (f g : Fault) → number_of f ≡ number_of g → f ≡ g
one_fault f g p = sym (rule_fault_at f) ∙ ap (λ (n : ℕ). slice_index_or rule_faults (n - 1) TooLong) p ∙ rule_fault_at g

pub one_rule_fault : (e e' : RuleFault) → rule_number e ≡ rule_number e' → e ≡ e'
one_rule_fault e e' p = let F : Fault → RuleFault = λ f. record { 0 = f } in ap F (one_fault e.0 e'.0 p)

pub one_name_fault : (e e' : NameFault) → name_number e ≡ name_number e' → e ≡ e'
one_name_fault LongName LongName p = refl
one_name_fault LongName Empty p = cc
one_name_fault Empty LongName p = cc
one_name_fault Empty Empty p = refl
