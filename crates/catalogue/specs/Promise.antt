-- What holds of every history of calls.
use Rattle.std.specs.Prelude.{◌≡◌, ℕ, ◌<◌, ◌≤◌, List, [], ◌∷◌, length}
use Rattle.catalogue.specs.Kinds.{Sense, Sound}
use Rattle.catalogue.specs.Classes.{entry, ClassOf, Begun, Choice}
use Rattle.catalogue.specs.States.{State, slot_at, run_at, class_at}
use Rattle.catalogue.specs.Numbers.{nothing}
use Rattle.catalogue.specs.Calls.{EnterDone, FindDone, CutDone}
use Rattle.catalogue.specs.Model.{Event, entering, finding, cutting, calls, Stands}

---- the states that calls reach

-- one call, from a state to the next
abbrev pub Step : {U F : Type 0} → Sense U F → State U → Event U F → State U → Type 0
Step k s (entering run r) t = EnterDone k s run r t
Step k s (finding run r) t = FindDone k s run r × (t ≡ s)
Step k s (cutting n r) t = CutDone s.numbers s.slots n r t.numbers × (t.slots ≡ s.slots) × (t.units ≡ s.units)

-- t is reached from a record with nothing standing, and any memory, by the calls of h alone, the last of them first
abbrev pub Reached : {U F : Type 0} → Sense U F → List (Event U F) → State U → Type 0
Reached k [] t = t.numbers ≡ nothing
Reached k (e ∷ h) t = (s : State _) × Reached k h s × Step k s e t

---- the promise

-- the record and the memory of s hold the runs rs, which are sound, with their hashes and classes
pub record Holds {U F : Type 0} (k : Sense U F) (s : State U) (rs : List (List U)) : Type 0 where
  pub standing : s.numbers.standing ≡ length rs
  pub runs : (i : ℕ) → i < length rs → run_at s i ≡ entry rs i
  pub sound : (i : ℕ) → i < length rs → Sound k (entry rs i)
  pub hash : (i : ℕ) → i < length rs → (slot_at s.slots i).hash ≡ k.hashed (entry rs i)
  pub class : (i : ℕ) → i < length rs → ClassOf k rs i (class_at s i)
  pub classes : Begun k rs (length rs) s.numbers.classes

-- two catalogues, in the states s and t after the calls of h and of j, that have answered alike
pub record Alike {U F : Type 0} (h : List (Event U F)) (s : State U) (j : List (Event U F)) (t : State U) : Type 0 where
  pub answers : h ≡ j
  pub standing : s.numbers.standing ≡ t.numbers.standing
  pub classes : s.numbers.classes ≡ t.numbers.classes
  pub class : (i : ℕ) → i < s.numbers.standing → class_at s i ≡ class_at t i

-- of a state s that was reached by the calls of h under the hasher f, where n classes are counted
pub record Promise {U F : Type 0} (kind : (List ℕ → ℕ) → Sense U F) (f : List ℕ → ℕ) (h : List (Event U F)) (s : State U) (n : ℕ) : Type 0 where
  -- the runs that stand by the calls are in memory, and each call has answered as it should
  pub runs : List (List U)
  pub stand : Stands (kind f) (length s.slots) (length s.units) h runs
  pub held : Holds (kind f) s runs
  -- nothing but the calls, the number of slots and the number of units tells what stands and what is answered
  pub told : (j : List (Event U F)) (rs : List (List U)) → Stands (kind f) (length s.slots) (length s.units) j rs → calls h ≡ calls j → (h ≡ j) × (runs ≡ rs)
  -- n is the size of a largest choice of entries, no two the same
  pub some : (is : List ℕ) × Choice (kind f) runs is × (length is ≡ n)
  pub most : (is : List ℕ) → Choice (kind f) runs is → length is ≤ n
  -- two entries are of one class exactly when they are the same
  pub one_class : (i j : ℕ) → i < length runs → j < length runs → (kind f).same (entry runs i) (entry runs j) → class_at s i ≡ class_at s j
  pub one_same : (i j : ℕ) → i < length runs → j < length runs → class_at s i ≡ class_at s j → (kind f).same (entry runs i) (entry runs j)
  -- a second catalogue, under any hasher, that was given the same calls has answered alike
  pub alike : (g : List ℕ → ℕ) (j : List (Event U F)) (t : State U) → Reached (kind g) j t → calls h ≡ calls j
      → length s.slots ≡ length t.slots → length s.units ≡ length t.units → Alike h s j t

abbrev pub Promised : {U F : Type 0} → ((List ℕ → ℕ) → Sense U F) → (List ℕ → ℕ) → State U → ℕ → Type 0
Promised kind f s n = (h : List (Event _ _)) → Reached (kind f) h s → Promise kind f h s n
