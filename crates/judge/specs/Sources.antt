-- Where a text is read from. Assumes nothing.
use Rattle.std.specs.Prelude.{◌≡◌, ◌≢◌, ℕ, List, codes}
use Rattle.judge.specs.declared.source.Source.{Source}
use Rattle.judge.specs.declared.source.Source.TheVariants.{StandardInput, File}

-- the source that an argument of the program names: `-` is standard input, and all else is a file of that name
abbrev pub NamedBy : List ℕ → Source → Type 0
NamedBy name StandardInput = name ≡ codes "-"
NamedBy name (File file) = (file.now ≡ name) × (name ≢ codes "-")
