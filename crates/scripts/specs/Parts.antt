-- The parts of a line. Assumes nothing.
use Rattle.std.specs.Prelude.{◌≡◌, ℕ, ◌^◌, ◌<◌, ◌≤◌, List, length, Ok, Err, Result, ◌≢◌, slice_index}
use Rattle.tables.specs.Numerals.{Writes}
use Rattle.tables.specs.Pieces.{First, Run}

-- the next piece of bs, and what follows it
abbrev pub PieceTo : List ℕ → List ℕ × List ℕ → Type 0
PieceTo bs q = First bs q.0 q.1

-- the next piece of bs writes a number, and what follows it
abbrev pub NumberTo : List ℕ → ℕ × List ℕ → Type 0
NumberTo bs q = (p : List ℕ) × First bs p q.1 × Writes p q.0 × (q.0 < 2 ^ 32)

-- the piece p writes the unit k, which is not above the limit
abbrev pub UnitAt : ℕ → List ℕ → ℕ → Type 0
UnitAt limit p k = Writes p k × (k < 2 ^ 32) × (k ≤ limit)

-- no unit is above the limit
abbrev pub UnitsUnder : ℕ → List ℕ → Type 0
UnitsUnder limit us = (i : ℕ) → i < length us → slice_index us i ≤ limit

-- the pieces of bs write the units us, none above the limit
pub record Units (limit : ℕ) (bs us : List ℕ) : Type 0 where
  pub run : Run bs us
  pub under : UnitsUnder limit us

-- the next piece of bs is the word for something, and what follows it
abbrev pub WordTo : {V : Type 0} → (V → List ℕ) → List ℕ → V × List ℕ → Type 0
WordTo spelling bs q = First bs (spelling q.0) q.1

-- what bs is the word for, or that it is the word for nothing
abbrev pub WordAs : {V E : Type 0} → (V → List ℕ) → List ℕ → Result V E → Type 0
WordAs spelling bs (Ok v) = bs ≡ spelling v
WordAs {V} spelling bs (Err e) = (v : V) → bs ≢ spelling v
