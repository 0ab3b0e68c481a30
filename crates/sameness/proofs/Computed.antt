-- Sound scopes and sameness of trees that are written out, by computation.
use Rattle.std.proofs.Common.{◌≡◌, ℕ, Bool, true, false, ◌&&◌, ltb, List, replicate, sym, refl, ◌∙◌}
use Rattle.std.proofs.lemmas.List.{length-replicate}
use Rattle.std.proofs.lemmas.Bool.{and_parts, ltb-true, false≢true}
use Rattle.rule.specs.Trees.{Tree}
use Rattle.rule.specs.Scopes.{SoundScopes}
use Rattle.rule.specs.Marks.{size, steps, Marked, broken, marked, note_all}
use Rattle.rule.proofs.Counting.{zeros}
use Rattle.rule.proofs.Scoping.{noted-sound}
use Rattle.sameness.specs.Reduction.{reduce}
use Rattle.sameness.specs.Sameness.{Same}
use Rattle.sameness.specs.Deciding.{Table, blank, fails, holds, decide}
use Rattle.sameness.proofs.Runs.{fails≢}
use Rattle.sameness.proofs.Theorems.{decided}

abbrev is_marked : Marked → Bool
is_marked broken = false
is_marked (marked m) = true

-- the walk of a tree that is not too large is noted to its end
abbrev pub sound_test : Tree → Bool
sound_test t = ltb (size t) 65535 && is_marked (note_all 0 (steps 0 (size t) t) (replicate 1024 0))

is-marked : (o : Marked) → is_marked o ≡ true → (m : List ℕ) × (o ≡ marked m)
is-marked broken e = absurd (false≢true e)
is-marked (marked m) e = (m, refl)

pub sound-by : (t : Tree) → sound_test t ≡ true → SoundScopes t
sound-by t e =
    let p = and_parts (ltb (size t) 65535) (is_marked (note_all 0 (steps 0 (size t) t) (replicate 1024 0))) e in
    let k = is-marked (note_all 0 (steps 0 (size t) t) (replicate 1024 0)) p.1 in
    noted-sound t (replicate 1024 0) k.0 (ltb-true (size t) 65535 p.0) (length-replicate {A = ℕ} 1024 0) (zeros 1024) k.1

pub same_by : (t u : Tree) (P : Table) → sound_test t ≡ true → sound_test u ≡ true → decide (reduce t) (reduce u) blank ≡ holds P → Same t u
same_by t u P s s' e = (decided t u (sound-by t s) (sound-by u s')).0 (P, e)

pub differ-by : (t u : Tree) → sound_test t ≡ true → sound_test u ≡ true → decide (reduce t) (reduce u) blank ≡ fails → Same t u → ⊥
differ-by t u s s' e a =
    let k = (decided t u (sound-by t s) (sound-by u s')).1 a in
    fails≢ (sym e ∙ k.1)
