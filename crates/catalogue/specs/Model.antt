-- What stands, and what each call answers, by the calls and the number of slots and units alone.
use Rattle.std.specs.Prelude.{◌≡◌, ℕ, ◌+◌, ◌<◌, ◌≤◌, List, [], ◌∷◌, ◌++◌, length, take, Ok, Err, Option, Result}
use Rattle.catalogue.specs.declared.fault.Fault.{Fault}
use Rattle.catalogue.specs.declared.fault.NotStanding.{NotStanding}
use Rattle.catalogue.specs.declared.record.Entered.{Entered}
use Rattle.catalogue.specs.Kinds.{Sense, Sound}
use Rattle.catalogue.specs.Classes.{FirstSame, ClassOf}
use Rattle.catalogue.specs.Calls.{EnterGranted, EnterRefused, FindRefused}

---- calls

pub data Call (U : Type 0) : Type 0 where
  enter : List U → Call U
  find : List U → Call U
  cut : ℕ → Call U

-- a call with its answer
pub data Event (U F : Type 0) : Type 0 where
  entering : List U → Result Entered (Fault F) → Event U F
  finding : List U → Result (Option ℕ) F → Event U F
  cutting : ℕ → Result (Unit {0}) NotStanding → Event U F

abbrev pub call : {U F : Type 0} → Event U F → Call U
call (entering run r) = enter run
call (finding run r) = find run
call (cutting n r) = cut n

abbrev pub calls : {U F : Type 0} → List (Event U F) → List (Call U)
calls [] = []
calls (e ∷ h) = call e ∷ calls h

---- what stands

-- the units of all the runs
abbrev pub total : {U : Type 0} → List (List U) → ℕ
total [] = 0
total (r ∷ rs) = length r + total rs

-- a run is put last, with its number and its class
pub record Enters {U F : Type 0} (k : Sense U F) (slots units : ℕ) (rs : List (List U)) (run : List U) (e : Entered) (rs' : List (List U)) : Type 0 where
  pub granted : EnterGranted k slots units (length rs) (total rs) run
  pub number : e.number ≡ length rs
  pub last : rs' ≡ rs ++ (run ∷ [])
  pub class : ClassOf k rs' (length rs) e.class

-- a call where rs stand, its answer, and what stands then
abbrev pub Answers : {U F : Type 0} → Sense U F → ℕ → ℕ → List (List U) → Event U F → List (List U) → Type 0
Answers k slots units rs (entering run (Ok e)) rs' = Enters k slots units rs run e rs'
Answers k slots units rs (entering run (Err f)) rs' = EnterRefused k slots units (length rs) (total rs) run f × (rs' ≡ rs)
Answers k slots units rs (finding run (Ok r)) rs' = Sound k run × FirstSame k rs run r × (rs' ≡ rs)
Answers k slots units rs (finding run (Err f)) rs' = FindRefused k run f × (rs' ≡ rs)
Answers k slots units rs (cutting n (Ok u)) rs' = (n ≤ length rs) × (rs' ≡ take n rs)
Answers k slots units rs (cutting n (Err _)) rs' = (length rs < n) × (rs' ≡ rs)

-- after the calls of h, the last of them first, rs stand, and each answer is right
abbrev pub Stands : {U F : Type 0} → Sense U F → ℕ → ℕ → List (Event U F) → List (List U) → Type 0
Stands k slots units [] rs = rs ≡ []
Stands k slots units (e ∷ h) rs' = (rs : List (List _)) × Stands k slots units h rs × Answers k slots units rs e rs'
