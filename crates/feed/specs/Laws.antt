-- The theorems, as the statements that contracts cite.
use Rattle.std.specs.Prelude.{◌≡◌, ℕ, List}
use Rattle.rule.specs.Trees.{Tree}
use Rattle.sameness.specs.Sameness.{Same}
use Rattle.sameness.specs.TrialRules.{local, less, greater}
use Rattle.feed.specs.Feed.{hash_of}

-- rules that are the same have one hash under every hasher
abbrev pub HashLaw : Type 0
HashLaw = (f : List ℕ → ℕ) (t u : Tree) → Same t u → hash_of f t ≡ hash_of f u

-- #1 < #2 and #2 > #1 do
abbrev pub OneHash : Type 0
OneHash = (f : List ℕ → ℕ) → hash_of f (less (local 1) (local 2)) ≡ hash_of f (greater (local 2) (local 1))
