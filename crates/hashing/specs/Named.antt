-- The names of the hashers. Assumes nothing.
use Rattle.std.specs.Prelude.{◌≡◌, ℕ, List, codes, Result, Ok, Err, ◌≢◌}
use Rattle.hashing.specs.declared.named.HasherName.{HasherName}
use Rattle.hashing.specs.declared.named.HasherName.TheVariants.{Rotating, Fnv1a}
use Rattle.hashing.specs.declared.named.UnknownHasher.{UnknownHasher}

abbrev pub spelling : HasherName → List ℕ
spelling Rotating = codes "rotating"
spelling Fnv1a = codes "fnv1a"

-- the hasher that bs names, or that it names none
abbrev pub NamedAs : List ℕ → Result HasherName UnknownHasher → Type 0
NamedAs bs (Ok n) = bs ≡ spelling n
NamedAs bs (Err _) = (n : HasherName) → bs ≢ spelling n

-- what is said of a text that names none
abbrev pub no_name : List ℕ
no_name = codes "no hasher has this name: it is rotating or fnv1a"
