-- What stands in the record of a catalogue and in the memory that is handed with it. Assumes nothing.
use Rattle.std.specs.Prelude.{◌≡◌, ℕ, ◌+◌, ◌<◌, ◌≤◌, List, length, take, drop, Option, Some, None, slice_index_or}
use Rattle.std.specs.Borrow.{Bor}
use Rattle.catalogue.specs.declared.record.Slot.{Slot}
use Rattle.catalogue.specs.Numbers.{Numbers}
use Rattle.catalogue.specs.Classes.{First}
use Rattle.catalogue.specs.Kinds.{Sense, Sound}

pub record State (U : Type 0) : Type 0 where
  pub numbers : Numbers
  pub slots : List Slot
  pub units : List U

abbrev pub state : {U : Type 0} → Numbers → List Slot → List U → State U
state a slots units = record { numbers = a; slots = slots; units = units }

---- the entry that a slot tells of

abbrev pub no_slot : Slot
no_slot = record { start = 0; len = 0; hash = 0; class = 0; begun = 0 }

abbrev pub slot_at : List Slot → ℕ → Slot
slot_at slots i = slice_index_or slots i no_slot

abbrev pub Within : {U : Type 0} → Slot → List U → Type 0
Within slot units = slot.start + slot.len ≤ length units

abbrev pub run_of : {U : Type 0} → List U → Slot → List U
run_of units slot = take slot.len (drop slot.start units)

-- the run that a slot names, or none where it is not within the units
abbrev pub RunWithin : {U : Type 0} → List U → Slot → Option (Bor (List U)) → Type 0
RunWithin units slot None = Within slot units → ⊥
RunWithin units slot (Some r) = Within slot units × (r.now ≡ run_of units slot)

abbrev pub run_at : {U : Type 0} → State U → ℕ → List U
run_at s i = run_of s.units (slot_at s.slots i)

abbrev pub class_at : {U : Type 0} → State U → ℕ → ℕ
class_at s i = (slot_at s.slots i).class

---- memory that only the calls have altered

pub record Kept {U F : Type 0} (k : Sense U F) (used : ℕ) (units : List U) (slot : Slot) : Type 0 where
  pub within : slot.start + slot.len ≤ used
  pub sound : Sound k (run_of units slot)
  pub hash : slot.hash ≡ k.hashed (run_of units slot)

pub record Intact {U F : Type 0} (k : Sense U F) (s : State U) : Type 0 where
  pub standing : s.numbers.standing ≤ length s.slots
  pub used : s.numbers.used ≤ length s.units
  pub each : (i : ℕ) → i < s.numbers.standing → Kept k s.numbers.used s.units (slot_at s.slots i)

-- the first standing entry that is the same as a run
abbrev pub FirstAt : {U F : Type 0} → Sense U F → State U → List U → Option ℕ → Type 0
FirstAt k s run r = First (λ i. k.same (run_at s i) run) s.numbers.standing r
