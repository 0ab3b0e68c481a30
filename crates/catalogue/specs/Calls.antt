-- What each call answers, and what it leaves in the record and in the memory.
use Rattle.std.specs.Prelude.{◌≡◌, ℕ, ◌+◌, ◌<◌, ◌≤◌, min, cond, List, length, Some, None, Ok, Err, Option, Result, nat_lt, slice_set}
use Rattle.std.specs.Borrow.{Bor}
use Rattle.std.proofs.Math.Seq.{paste}
use Rattle.catalogue.specs.declared.fault.Fault.{Fault}
use Rattle.catalogue.specs.declared.fault.Fault.TheVariants.{Input, NoSlot, NoUnits}
use Rattle.catalogue.specs.declared.fault.NotStanding.{NotStanding}
use Rattle.catalogue.specs.declared.record.Entered.{Entered}
use Rattle.catalogue.specs.declared.record.Slot.{Slot}
use Rattle.catalogue.specs.Kinds.{Sense, Sound, FirstMet}
use Rattle.catalogue.specs.States.{State, Intact, FirstAt, Within, run_of, slot_at}
use Rattle.catalogue.specs.Numbers.{Numbers}

---- enter

-- n entries stand, and one more can
abbrev pub SlotFree : ℕ → ℕ → Type 0
SlotFree slots n = (n < slots) × (n < 65536)

-- why a run is not entered where n entries with u units stand: the input is tested first, then the slots, then the units
abbrev pub EnterRefused : {U F : Type 0} → Sense U F → ℕ → ℕ → ℕ → ℕ → List U → Fault F → Type 0
EnterRefused k slots units n u run (Input e) = FirstMet k run (k.number e)
EnterRefused k slots units n u run NoSlot = Sound k run × (SlotFree slots n → ⊥)
EnterRefused k slots units n u run NoUnits = Sound k run × SlotFree slots n × (units < u + length run)

-- why it is entered
pub record EnterGranted {U F : Type 0} (k : Sense U F) (slots units n u : ℕ) (run : List U) : Type 0 where
  pub sound : Sound k run
  pub slot : SlotFree slots n
  pub room : u + length run ≤ units

-- the class c of a run, and how many classes there are with it, by the first entry that is the same
abbrev pub Classed : {U : Type 0} → State U → Option ℕ → ℕ → ℕ → Type 0
Classed s None c n = (c ≡ s.numbers.classes) × (n ≡ s.numbers.classes + 1)
Classed s (Some i) c n = (c ≡ (slot_at s.slots i).class) × (n ≡ s.numbers.classes)

-- the state t after run is entered in the state s, with the number n and the class c
pub record Placed {U F : Type 0} (k : Sense U F) (s : State U) (run : List U) (n c : ℕ) (t : State U) : Type 0 where
  pub number : n ≡ s.numbers.standing
  pub slots : t.slots ≡ slice_set s.slots s.numbers.standing
      (record { start = s.numbers.used; len = length run; hash = k.hashed run; class = c; begun = s.numbers.classes })
  pub units : t.units ≡ paste s.units s.numbers.used run (length run)
  pub standing : t.numbers.standing ≡ s.numbers.standing + 1
  pub used : t.numbers.used ≡ s.numbers.used + length run
  pub class : Intact k s → (r : Option ℕ) × FirstAt k s run r × Classed s r c t.numbers.classes

abbrev pub EnterDone : {U F : Type 0} → Sense U F → State U → List U → Result Entered (Fault F) → State U → Type 0
EnterDone k s run (Ok e) t = EnterGranted k (length s.slots) (length s.units) s.numbers.standing s.numbers.used run × Placed k s run e.number e.class t
EnterDone k s run (Err f) t = EnterRefused k (length s.slots) (length s.units) s.numbers.standing s.numbers.used run f × (t ≡ s)

---- find, which alters nothing

abbrev pub FindRefused : {U F : Type 0} → Sense U F → List U → F → Type 0
FindRefused k run e = FirstMet k run (k.number e)

abbrev pub FindDone : {U F : Type 0} → Sense U F → State U → List U → Result (Option ℕ) F → Type 0
FindDone k s run (Ok r) = Sound k run × (Intact k s → FirstAt k s run r)
FindDone k s run (Err f) = FindRefused k run f

---- cut, which alters the record alone

-- the record after the first n entries are kept
pub record CutTo (a : Numbers) (slots : List Slot) (n : ℕ) (b : Numbers) : Type 0 where
  pub few : n ≤ a.standing
  pub standing : b.standing ≡ n
  pub used : b.used ≡ cond (nat_lt n a.standing) (slot_at slots n).start a.used
  pub classes : b.classes ≡ cond (nat_lt n a.standing) (min (slot_at slots n).begun n) a.classes

abbrev pub CutDone : Numbers → List Slot → ℕ → Result (Unit {0}) NotStanding → Numbers → Type 0
CutDone a slots n (Ok _) b = CutTo a slots n b
CutDone a slots n (Err _) b = (a.standing < n) × (b ≡ a)

---- what is asked of an entry

-- entry i stands, and its slot is within the memory handed
abbrev pub SlotThere : Numbers → List Slot → ℕ → Type 0
SlotThere a slots i = (i < a.standing) × (i < length slots)

-- its slot, or a part of that
abbrev pub PartDone : {A : Type 0} → Numbers → List Slot → ℕ → (Slot → A) → Result A NotStanding → Type 0
PartDone a slots i part (Ok x) = SlotThere a slots i × (x ≡ part (slot_at slots i))
PartDone a slots i part (Err _) = SlotThere a slots i → ⊥

-- its run: as many units as the slot has, from the slot's start on
abbrev pub RunThere : {U : Type 0} → Numbers → List Slot → List U → ℕ → Type 0
RunThere a slots units i = SlotThere a slots i × Within (slot_at slots i) units

abbrev pub RunDone : {U : Type 0} → Numbers → List Slot → List U → ℕ → Result (Bor (List U)) NotStanding → Type 0
RunDone a slots units i (Ok r) = RunThere a slots units i × (r.now ≡ run_of units (slot_at slots i))
RunDone a slots units i (Err _) = RunThere a slots units i → ⊥
