-- What a kind says of its runs. Assumes nothing.
use Rattle.std.specs.Prelude.{ℕ, ◌<◌, List}

---- by the numbers that a run meets

-- it meets none
abbrev pub SoundBy : {U : Type 0} → (ℕ → List U → Type 0) → List U → Type 0
SoundBy meets run = (n : ℕ) → meets n run → ⊥

-- it meets n, and no lower one
abbrev pub FirstOf : {U : Type 0} → (ℕ → List U → Type 0) → List U → ℕ → Type 0
FirstOf meets run n = meets n run × ((m : ℕ) → m < n → meets m run → ⊥)

---- a kind under one hasher

pub record Sense (U F : Type 0) : Type 1 where
  pub meets : ℕ → List U → Type 0
  pub same : List U → List U → Type 0
  pub hashed : List U → ℕ
  -- the number of the input list that a fault stands for
  pub number : F → ℕ

-- by what a kind's value says, by its faults' numbers, and by the hasher
abbrev pub sense : {X U F : Type 0} → (X → ℕ → List U → Type 0) → (X → List U → List U → Type 0) → (X → (List ℕ → ℕ) → List U → List ℕ) → (F → ℕ) → X → (List ℕ → ℕ) → Sense U F
sense meets same feed number k f = record { meets = meets k; same = same k; hashed = λ run. f (feed k f run); number = number }

abbrev pub Sound : {U F : Type 0} → Sense U F → List U → Type 0
Sound k run = SoundBy k.meets run

abbrev pub FirstMet : {U F : Type 0} → Sense U F → List U → ℕ → Type 0
FirstMet k run n = FirstOf k.meets run n
