-- Arguments, and what can be wrong with them. Assumes nothing.
use Rattle.std.specs.Prelude.{◌≡◌, ℕ, ◌<◌, ◌⊎◌, List, length, Ok, Err, string_bytes, codes, Result, String, slice_index_or}
use Rattle.std.specs.declared.alloc.Global.{Global}
use Rattle.arguments.specs.declared.misuse.Expected.{Expected}
use Rattle.arguments.specs.declared.misuse.Misuse.{Misuse}
use Rattle.arguments.specs.declared.misuse.Misuse.TheVariants.{Missing, Other}

-- the argument at i is this text
abbrev pub Is : List (String Global) → ℕ → List ℕ → Type 0
Is args i text = (i < length args) × ((d : String Global) → text ≡ string_bytes (slice_index_or args i d))

-- the word at 1 asks for help
abbrev pub Helping : List (String Global) → Type 0
Helping args = Is args 1 (codes "help") ⊎ Is args 1 (codes "--help")

-- refused: the arguments end where this is expected
abbrev pub Lacks : {A : Type 0} → Expected → Result A Misuse → Type 0
Lacks e r = r ≡ Err (Missing e)

-- refused: a text of which P holds stands where this is expected
abbrev pub Finds : {A : Type 0} → Expected → (List ℕ → Type 0) → Result A Misuse → Type 0
Finds e P (Ok a) = ⊥
Finds e P (Err (Missing other)) = ⊥
Finds e P (Err (Other expected word)) = (expected ≡ e) × P word.now
