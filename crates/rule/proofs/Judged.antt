-- What the walk of the whole rule says of its scopes.
use Rattle.std.proofs.Common.{◌≡◌, ℕ, ◌+◌, ◌-◌, ◌<◌, ◌≤◌, List, length, get_or, Ok, Err, Result, ap, subst, arith, OnOk, IfErr}
use Rattle.rule.specs.declared.fault.Fault.{Fault}
use Rattle.rule.specs.declared.fault.Fault.TheVariants.{BadScope}
use Rattle.rule.specs.Trees.{Tree, tree_at, tree_of}
use Rattle.rule.specs.Scopes.{SoundScopes}
use Rattle.rule.specs.Marks.{size, steps, note_all, Says}
use Rattle.rule.specs.Intake.{Read, Scoped, nodes}
use Rattle.rule.specs.Tally.{Sized}
use Rattle.rule.proofs.Laid.{read-nodes}
use Rattle.rule.proofs.Scoping.{noted-sound, broken-unsound}

says-judged : {X : Type 0} (r : Result X Fault) (t : Tree) (m m' : List ℕ) → size t < 65535 → length m ≡ 1024 → ((x : ℕ) → get_or m x 0 ≡ 0)
    → Says r m' (note_all 0 (steps 0 (size t) t) m) → OnOk r (SoundScopes t) × IfErr r (λ f. (f ≡ BadScope) × (SoundScopes t → ⊥))
says-judged (Ok x) t m m' s l z e = (noted-sound t m m' s l z e, tt)
says-judged (Err f) t m m' s l z e = (tt, (e.0, broken-unsound t m s l z e.1))

-- i is the last node, the root
module _ (ws os sizes : List ℕ) (i : ℕ) (d : Read ws os) (z : Sized ws sizes) (h : i + 1 ≡ length os) where
  last-node : i < nodes ws
  last-node = omega (arith, read-nodes ws os d)

  pub last-size : get_or sizes i 0 ≡ size (tree_at ws i)
  last-size = z.each i last-node

  pub last-small : size (tree_at ws i) ≤ 2048
  last-small = omega (arith, last-size, z.small i last-node)

  pub judged : {X : Type 0} (r : Result X Fault) (m m' : List ℕ) → length m ≡ 1024 → ((x : ℕ) → get_or m x 0 ≡ 0)
      → Says r m' (note_all 0 (steps 0 (get_or sizes i 0) (tree_at ws i)) m) → OnOk r (Scoped ws) × IfErr r (λ f. (f ≡ BadScope) × (Scoped ws → ⊥))
  unfolding tree_of
  judged r m m' l y s =
      let j : i ≡ nodes ws - 1 = omega (arith, read-nodes ws os d) in
      let e : tree_at ws i ≡ tree_at ws (nodes ws - 1) = ap (tree_at ws) j in
      let k = last-small in
      subst (λ (t : Tree). OnOk r (SoundScopes t) × IfErr r (λ f. (f ≡ BadScope) × (SoundScopes t → ⊥))) e
      (says-judged r (tree_at ws i) m m' (omega arith) l y (subst (λ n. Says r m' (note_all 0 (steps 0 n (tree_at ws i)) m)) last-size s))
