-- Entries in a row, the classes that they are of, and the choices among them. Assumes nothing.
use Rattle.std.specs.Prelude.{◌≡◌, ℕ, zero, suc, ◌<◌, ◌⊎◌, List, [], length, Some, None, Option, ◌≢◌, slice_index, slice_index_or}
use Rattle.catalogue.specs.Kinds.{Sense}

-- r is the first number below n of which P holds, or none where it holds of none
abbrev pub First : (ℕ → Type 0) → ℕ → Option ℕ → Type 0
First P n None = (j : ℕ) → j < n → P j → ⊥
First P n (Some i) = (i < n) × P i × ((j : ℕ) → j < i → P j → ⊥)

abbrev pub entry : {U : Type 0} → List (List U) → ℕ → List U
entry rs i = slice_index_or rs i []

-- the first entry that is the same as a run
abbrev pub FirstSame : {U F : Type 0} → Sense U F → List (List U) → List U → Option ℕ → Type 0
FirstSame k rs run r = First (λ i. k.same (entry rs i) run) (length rs) r

---- classes

-- an entry begins a class when no earlier one is the same
abbrev pub Begins : {U F : Type 0} → Sense U F → List (List U) → ℕ → Type 0
Begins k rs i = (j : ℕ) → j < i → k.same (entry rs j) (entry rs i) → ⊥

-- m of the first n entries begin a class
abbrev pub Begun : {U F : Type 0} → Sense U F → List (List U) → ℕ → ℕ → Type 0
Begun k rs zero m = m ≡ 0
Begun k rs (suc n) m = (Begins k rs n × ((l : ℕ) × (m ≡ suc l) × Begun k rs n l)) ⊎ ((Begins k rs n → ⊥) × Begun k rs n m)

-- the class of an entry is numbered by how many began before the first entry that is the same
abbrev pub ClassOf : {U F : Type 0} → Sense U F → List (List U) → ℕ → ℕ → Type 0
ClassOf k rs i c = (j : ℕ) × First (λ j. k.same (entry rs j) (entry rs i)) (suc i) (Some j) × Begun k rs j c

---- choices

-- numbers of entries, no two of which are the same
pub record Choice {U F : Type 0} (k : Sense U F) (rs : List (List U)) (is : List ℕ) : Type 0 where
  pub each : (a : ℕ) → a < length is → slice_index is a < length rs
  pub apart : (a b : ℕ) → a < length is → b < length is → (a ≢ b) → k.same (entry rs (slice_index is a)) (entry rs (slice_index is b)) → ⊥
