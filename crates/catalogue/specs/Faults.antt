-- The number of each ground on which a run is not entered, by the numbers of the faults of the kind.
use Rattle.std.specs.Prelude.{ℕ}
use Rattle.catalogue.specs.declared.fault.Fault.{Fault}
use Rattle.catalogue.specs.declared.fault.NotStanding.{NotStanding}
use Rattle.catalogue.specs.declared.fault.Fault.TheVariants.{Input, NoSlot, NoUnits}

abbrev pub number_of : {F : Type 0} → (F → ℕ) → Fault F → ℕ
number_of number (Input f) = number f
number_of number NoSlot = 20
number_of number NoUnits = 21

-- and of the one on which what is asked of entries is
abbrev pub not_standing_number : NotStanding → ℕ
not_standing_number _ = 22
