-- What it means that a text is read. Assumes nothing.
use Rattle.std.specs.Prelude.{◌≡◌, ℕ, ◌⊎◌, Some, None, Ok, Err, Option, Result}
use Rattle.scripts.specs.declared.fault.ScriptFault.{ScriptFault}
use Rattle.scripts.specs.declared.fault.ScriptFault.TheVariants.{Unexpected, NoHeading, NotUtf8, Memory}

-- the line that a fault names
abbrev pub line_of : ScriptFault → Option ℕ
line_of (Unexpected k expected found) = Some k
line_of NoHeading = None
line_of (NotUtf8 k) = Some k
line_of Memory = None

-- the fault names line n, or is want of memory
abbrev pub Faulted : ℕ → ScriptFault → Type 0
Faulted n f = (f ≡ Memory) ⊎ (line_of f ≡ Some n)

-- P holds of v, and of nothing else
pub record Sole {V : Type 0} (P : V → Type 0) (v : V) : Type 0 where
  pub holds : P v
  pub only : (w : V) → P w → w ≡ v

-- P holds of nothing
abbrev pub NoneIs : {V : Type 0} → (V → Type 0) → Type 0
NoneIs {V} P = (v : V) → P v → ⊥

-- what a part of line n is read as, where P says what the part writes, and view what is read:
-- the one thing that it writes, or a fault of that line where it writes none
abbrev pub Reads : {T V : Type 0} → ℕ → (T → V) → (V → Type 0) → Result T ScriptFault → Type 0
Reads n view P (Ok x) = Sole P (view x)
Reads n view P (Err f) = (f ≡ Memory) ⊎ ((line_of f ≡ Some n) × NoneIs P)

-- a copy views as v, but for want of memory
abbrev pub Kept : {T V : Type 0} → (T → V) → V → Result T ScriptFault → Type 0
Kept view v (Ok x) = view x ≡ v
Kept view v (Err f) = f ≡ Memory
