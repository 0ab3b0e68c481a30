-- Names, the runs that stand in the naive model, and what it answers. Assumes nothing.
use Rattle.std.specs.Prelude.{◌≡◌, ℕ, ◌+◌, ◌^◌, ◌<◌, ◌≤◌, List, length, map, vec_len, vec_capacity, Ok, Err, Result}
use Rattle.catalogue.specs.Calls.{EnterGranted}
use Rattle.catalogue.specs.declared.fault.Fault.{Fault}
use Rattle.catalogue.specs.declared.fault.NotStanding.{NotStanding}
use Rattle.catalogue.specs.Faults.{number_of, not_standing_number}
use Rattle.catalogue.specs.Kinds.{Sense}
use Rattle.catalogue.specs.Model.{Event, entering, finding, cutting, total, Answers}
use Rattle.kinds.specs.Names.{meets_name}
use Rattle.kinds.specs.Numbers.{name_number}
use Rattle.kinds.specs.declared.names.NameFault.{NameFault}
use Rattle.std.specs.declared.alloc.AllocError.{AllocError}
use Rattle.catalogues.specs.declared.model.Model.{Model}
use Rattle.catalogues.specs.declared.words.Answer.{Answer}
use Rattle.catalogues.specs.declared.words.Call.{Call}
use Rattle.catalogues.specs.declared.words.Call.TheVariants.{Enter, Find, Cut as ToCut}
use Rattle.catalogues.specs.declared.words.Answer.TheVariants.{Entered, Found, Cut, Other, Refused}

-- names are the same when they are equal; the model has no hash
abbrev pub names : Sense ℕ NameFault
names = record { meets = meets_name; same = λ a b. a ≡ b; hashed = λ run. 0; number = name_number }

abbrev pub runs_of : Model → List (List ℕ)
runs_of m = map (λ r. r.now) m.runs.items

---- calls

-- no more slots than entries can stand, and fewer units than the highest number
abbrev pub Modest : Model → Type 0
Modest m = (m.slots ≤ 65536) × (m.units + 1 < 2 ^ 64)

-- as many slots and units as before
abbrev pub SameRoom : Model → Model → Type 0
SameRoom m t = (t.slots ≡ m.slots) × (t.units ≡ m.units)

-- a call of a catalogue of names where the runs of m stand, its answer, and the runs that stand then
abbrev pub Answered : Model → Event ℕ NameFault → Model → Type 0
Answered m e t = Answers names m.slots m.units (runs_of m) e (runs_of t) × SameRoom m t

-- the answers of the model are those of a catalogue; but where its own vector is full it may have no memory for a run that is to be entered
abbrev pub EnterAnswered : Model → List ℕ → Answer → Model → Type 0
EnterAnswered m run (Entered n c) t = Answered m (entering run (Ok (record { number = n; class = c }))) t
EnterAnswered m run (Refused n) t = (f : Fault NameFault) × (n ≡ number_of name_number f) × Answered m (entering run (Err f)) t
EnterAnswered m run Other t = EnterGranted names m.slots m.units (length (runs_of m)) (total (runs_of m)) run
    × (vec_capacity m.runs ≤ vec_len m.runs) × (runs_of t ≡ runs_of m) × SameRoom m t
EnterAnswered m run _ t = ⊥

abbrev pub FindAnswered : Model → List ℕ → Answer → Type 0
FindAnswered m run (Found o) = Answered m (finding run (Ok o)) m
FindAnswered m run (Refused n) = (e : NameFault) × (n ≡ name_number e) × Answered m (finding run (Err e)) m
FindAnswered m run _ = ⊥

abbrev pub CutAnswered : Model → ℕ → Answer → Model → Type 0
CutAnswered m keep Cut t = Answered m (cutting keep (Ok tt)) t
CutAnswered m keep (Refused n) t = (f : NotStanding) × (n ≡ not_standing_number f) × Answered m (cutting keep (Err f)) t
CutAnswered m keep _ t = ⊥

-- the other calls are not the model's to answer
abbrev pub CallAnswered : Model → Call → Answer → Model → Type 0
CallAnswered m (Enter run) a t = Modest m → EnterAnswered m run.now a t
CallAnswered m (Find run) a t = FindAnswered m run.now a × (t ≡ m)
CallAnswered m (ToCut keep) a t = CutAnswered m keep a t
CallAnswered m _ a t = (a ≡ Other) × (t ≡ m)

---- calls that fail where there is no memory for a run that is to be entered

abbrev pub EnterTried : Model → List ℕ → Result Answer AllocError → Model → Type 0
EnterTried m run (Ok Other) t = ⊥
EnterTried m run (Ok a) t = EnterAnswered m run a t
EnterTried m run (Err _) t = EnterAnswered m run Other t

abbrev pub CallTried : Model → Call → Result Answer AllocError → Model → Type 0
CallTried m (Enter run) r t = Modest m → EnterTried m run.now r t
CallTried m call (Ok a) t = CallAnswered m call a t
CallTried m _ (Err _) t = ⊥
