-- What the call of a script answers, and what it leaves. Assumes nothing.
use Rattle.std.specs.Prelude.{◌≡◌, ℕ, List, Ok, Err, vec_items, Option, Result, Vec}
use Rattle.catalogue.specs.declared.fault.Fault.{Fault}
use Rattle.catalogue.specs.declared.fault.NotStanding.{NotStanding}
use Rattle.catalogue.specs.declared.record.Entered.{Entered}
use Rattle.catalogue.specs.declared.record.Slot.{Slot}
use Rattle.catalogue.specs.Calls.{EnterDone, FindDone, CutDone, PartDone, RunThere}
use Rattle.catalogue.specs.Kinds.{Sense}
use Rattle.catalogue.specs.Numbers.{Numbers}
use Rattle.catalogue.specs.States.{State, run_of, slot_at}
use Rattle.scripts.specs.declared.call.Call.{Call}
use Rattle.scripts.specs.declared.call.Call.TheVariants as calls
use Rattle.replays.specs.declared.answer.Answer.{Answer}
use Rattle.replays.specs.declared.answer.Answer.TheVariants as answers

-- a copy of the run of entry i, or that it is not there
abbrev pub RunCopied : {U A : Type 0} → Numbers → List Slot → List U → ℕ → Result (Vec U A) NotStanding → Type 0
RunCopied a slots units i (Ok v) = RunThere a slots units i × (vec_items v ≡ run_of units (slot_at slots i))
RunCopied a slots units i (Err _) = RunThere a slots units i → ⊥

-- in the state s the call has this answer, and leaves the state t
abbrev pub Performed : {U F : Type 0} → Sense U F → State U → Call U → Answer U F → State U → Type 0
Performed k s (calls.Enter v) a t = (r : Result Entered (Fault _)) × EnterDone k s (vec_items v) r t × (a ≡ answers.Enter r)
Performed k s (calls.Find v) a t = (r : Result (Option ℕ) _) × FindDone k s (vec_items v) r × (a ≡ answers.Find r) × (t ≡ s)
Performed k s (calls.Cut n) a t =
    (r : Result (Unit {0}) NotStanding) × CutDone s.numbers s.slots n r t.numbers × (t.slots ≡ s.slots) × (t.units ≡ s.units) × (a ≡ answers.Cut r)
Performed k s calls.Count a t = (a ≡ answers.Count s.numbers.classes) × (t ≡ s)
Performed k s (calls.Class i) a t = (r : Result ℕ NotStanding) × PartDone s.numbers s.slots i (λ slot. slot.class) r × (a ≡ answers.Class r) × (t ≡ s)
Performed k s (calls.Hash i) a t = (r : Result ℕ NotStanding) × PartDone s.numbers s.slots i (λ slot. slot.hash) r × (a ≡ answers.Hash r) × (t ≡ s)
Performed k s (calls.Run i) a t = (r : Result (Vec _ _) NotStanding) × RunCopied s.numbers s.slots s.units i r × (a ≡ answers.Run r) × (t ≡ s)
