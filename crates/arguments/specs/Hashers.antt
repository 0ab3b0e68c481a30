-- What a table and the option that names a hasher are read as. Assumes nothing.
use Rattle.std.specs.Prelude.{◌≡◌, ℕ, ◌≤◌, List, length, IsOkAnd, Ok, Err, codes, Result, String}
use Rattle.std.specs.declared.alloc.Global.{Global}
use Rattle.hashing.specs.Named.{spelling}
use Rattle.hashing.specs.declared.named.HasherName.{HasherName}
use Rattle.hashing.specs.declared.named.HasherName.TheVariants.{Rotating}
use Rattle.arguments.specs.Misuses.{Finds, Is, Lacks}
use Rattle.arguments.specs.declared.hashed.Hashed.{Hashed}
use Rattle.arguments.specs.declared.misuse.Expected.TheVariants.{Table, Hasher, NoMore}
use Rattle.arguments.specs.declared.misuse.Misuse.{Misuse}
use Rattle.arguments.specs.declared.misuse.Misuse.TheVariants.{Missing, Other}

-- the argument at i is the option
abbrev pub OptionAt : List (String Global) → ℕ → Type 0
OptionAt rest i = Is rest i (codes "--hasher")

-- no hasher has the name at i
abbrev pub Nameless : List (String Global) → ℕ → Type 0
Nameless rest i = (h : HasherName) → Is rest i (spelling h) → ⊥

-- the table, and the hasher of this name
abbrev pub TableHashedAs : List ℕ → List ℕ → Result Hashed Misuse → Type 0
TableHashedAs name table (Ok a) = (a.table.now ≡ table) × (name ≡ spelling a.hasher)
TableHashedAs name table (Err (Missing expected)) = ⊥
TableHashedAs name table (Err (Other expected word)) = (expected ≡ Hasher) × (word.now ≡ name) × ((h : HasherName) → name ≡ spelling h → ⊥)

-- the table at t, and the hasher whose name is at n
abbrev pub NamedAs : List (String Global) → ℕ → ℕ → Result Hashed Misuse → Type 0
NamedAs rest t n (Ok a) = Is rest t a.table.now × Is rest n (spelling a.hasher)
NamedAs rest t n (Err (Missing expected)) = ⊥
NamedAs rest t n (Err (Other expected word)) = (expected ≡ Hasher) × Is rest n word.now × Nameless rest n

-- the option, and then the table
abbrev pub OptionFirstAs : List (String Global) → Result Hashed Misuse → Type 0
OptionFirstAs rest r =
    (length rest ≤ 1 → Lacks Hasher r) ×
    (length rest ≡ 2 → Lacks Table r) ×
    (length rest ≡ 3 → NamedAs rest 2 1 r) ×
    (4 ≤ length rest → Finds NoMore (Is rest 3) r)

-- the table, and then the option
abbrev pub OptionSecondAs : List (String Global) → Result Hashed Misuse → Type 0
OptionSecondAs rest r =
    (length rest ≤ 2 → Lacks Hasher r) ×
    (length rest ≡ 3 → NamedAs rest 0 2 r) ×
    (4 ≤ length rest → Finds NoMore (Is rest 3) r)

-- the table alone, or the option behind it
abbrev pub TableFirstAs : List (String Global) → Result Hashed Misuse → Type 0
TableFirstAs rest r =
    (length rest ≡ 0 → Lacks Table r) ×
    (length rest ≡ 1 → IsOkAnd r (λ a. Is rest 0 a.table.now × (a.hasher ≡ Rotating))) ×
    (OptionAt rest 1 → OptionSecondAs rest r) ×
    (2 ≤ length rest → (OptionAt rest 1 → ⊥) → Finds NoMore (Is rest 1) r)

abbrev pub HashedAs : List (String Global) → Result Hashed Misuse → Type 0
HashedAs rest r =
    (OptionAt rest 0 → OptionFirstAs rest r) ×
    ((OptionAt rest 0 → ⊥) → TableFirstAs rest r)
