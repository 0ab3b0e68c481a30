-- What files and names of rules after a command are read as. Assumes nothing.
use Rattle.std.specs.Prelude.{◌≡◌, ℕ, ◌≤◌, true, List, length, is_ok, IsOkAnd, codes, Result, String}
use Rattle.std.specs.Borrow.{Bor}
use Rattle.std.specs.declared.alloc.Global.{Global}
use Rattle.arguments.specs.Misuses.{Finds, Is, Lacks}
use Rattle.arguments.specs.declared.files.Changed.{Changed}
use Rattle.arguments.specs.declared.files.Compared.{Compared}
use Rattle.arguments.specs.declared.misuse.Expected.{Expected}
use Rattle.arguments.specs.declared.misuse.Expected.TheVariants.{Table, Script, Names, NewTable, File, NoMore}
use Rattle.arguments.specs.declared.misuse.Misuse.{Misuse}

-- nothing more
abbrev pub AloneAs : {A : Type 0} → List (String Global) → Result A Misuse → Type 0
AloneAs rest r =
    (length rest ≡ 0 → is_ok r ≡ true) ×
    (1 ≤ length rest → Finds NoMore (Is rest 0) r)

-- one file, where this is expected
abbrev pub FileAs : Expected → List (String Global) → Result (Bor (List ℕ)) Misuse → Type 0
FileAs e rest r =
    (length rest ≡ 0 → Lacks e r) ×
    (length rest ≡ 1 → IsOkAnd r (λ file. Is rest 0 file.now)) ×
    (2 ≤ length rest → Finds NoMore (Is rest 1) r)

abbrev pub TableAs : List (String Global) → Result (Bor (List ℕ)) Misuse → Type 0
TableAs rest r = FileAs Table rest r

abbrev pub ScriptAs : List (String Global) → Result (Bor (List ℕ)) Misuse → Type 0
ScriptAs rest r = FileAs Script rest r

-- a table and the names of two rules
abbrev pub ComparedAs : List (String Global) → Result Compared Misuse → Type 0
ComparedAs rest r =
    (length rest ≡ 0 → Lacks Table r) ×
    (length rest ≡ 1 → Lacks Names r) ×
    (length rest ≡ 2 → Lacks Names r) ×
    (length rest ≡ 3 → IsOkAnd r (λ c. Is rest 0 c.table.now × Is rest 1 c.first.now × Is rest 2 c.second.now)) ×
    (4 ≤ length rest → Finds NoMore (Is rest 3) r)

-- the argument at i is standard input
abbrev pub Input : List (String Global) → ℕ → Type 0
Input rest i = Is rest i (codes "-")

-- two tables, of which only one may be standard input
abbrev pub ChangedAs : List (String Global) → Result Changed Misuse → Type 0
ChangedAs rest r =
    (length rest ≡ 0 → Lacks Table r) ×
    (length rest ≡ 1 → Lacks NewTable r) ×
    (length rest ≡ 2 → Input rest 0 → Input rest 1 → Finds File (Is rest 1) r) ×
    (length rest ≡ 2 → (Input rest 0 → Input rest 1 → ⊥) → IsOkAnd r (λ c. Is rest 0 c.old.now × Is rest 1 c.new.now)) ×
    (3 ≤ length rest → Finds NoMore (Is rest 2) r)
