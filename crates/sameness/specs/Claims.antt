-- The theorems, as the statements that contracts cite.
use Rattle.std.specs.Prelude.{◌≡◌, true, ◌↔◌}
use Rattle.rule.specs.Trees.{Tree}
use Rattle.rule.specs.Scopes.{SoundScopes}
use Rattle.sameness.specs.Reduction.{reduce}
use Rattle.sameness.specs.Sameness.{Agree, Partner, declarations, clean, Same}
use Rattle.sameness.specs.Deciding.{Table, blank, holds, decide, toward, backward}
use Rattle.sameness.specs.Freely.{decide_freely}

---- sameness is an equivalence of rules that are not the same as nothing

abbrev pub Reflexive : Type 0
Reflexive = (t : Tree) → clean t ≡ true → Same t t

abbrev pub Symmetric : Type 0
Symmetric = (t u : Tree) → Same t u → Same u t

abbrev pub Transitive : Type 0
Transitive = (t u o : Tree) → Same t u → Same u o → Same t o

---- the walk decides it, for rules with sound scopes

abbrev pub Decided : Type 0
Decided = (t u : Tree) → SoundScopes t → SoundScopes u → ((P : Table) × (decide (reduce t) (reduce u) blank ≡ holds P)) ↔ Same t u

-- and its table is a renaming
abbrev pub TableRenames : Type 0
TableRenames =
    (t u : Tree) (P : Table) → SoundScopes t → SoundScopes u → decide (reduce t) (reduce u) blank ≡ holds P
    → Agree (Partner (toward P) (backward P) (declarations (reduce t)) (declarations (reduce u))) (reduce t) (reduce u)

-- of two locals that are declared neither ever has a partner yet: the walk that does not test it is the same walk
abbrev pub TestNeverFails : Type 0
TestNeverFails = (t u : Tree) → SoundScopes t → SoundScopes u → decide (reduce t) (reduce u) blank ≡ decide_freely (reduce t) (reduce u) blank
