-- Every node of a rule has low locals only: the root has, and each other node is a child of a higher one.
use Rattle.std.proofs.Common.{◌≡◌, ℕ, zero, suc, ◌+◌, ◌<◌, ◌≤◌, List, [], ◌∷◌, length, get_or, ap, ◌∙◌, subst, ⊎_elim, arith}
use Rattle.std.proofs.lemmas.Bool.{cases_eq, cases_lt}
use Rattle.rule.specs.declared.fault.Fault.TheVariants.{NotATree}
use Rattle.rule.specs.Run.{kids_at, standing, child_of}
use Rattle.rule.specs.Trees.{tree_at}
use Rattle.rule.specs.Intake.{Read, Treelike}
use Rattle.rule.proofs.Counting.{hit, hit_other}
use Rattle.rule.proofs.Fitting.{kid-below}
use Rattle.rule.proofs.Laid.{read-nodes}
use Rattle.sameness.specs.Comparing.{Sound}
use Rattle.sameness.specs.Walking.{Low}
use Rattle.sameness.proofs.Lowness.{low-kid}
use Rattle.sameness.proofs.Judging.{last-low}

---- a child that is counted is found

-- x stands among the n words from the place p on
record Stands (x : ℕ) (ws : List ℕ) (p n : ℕ) : Type 0 where
  q : ℕ
  in_run : q < n
  is : get_or ws (p + q) 0 ≡ x

stands : (x : ℕ) (ws : List ℕ) (p n : ℕ) → 0 < standing x ws p n → Stands x ws p n
unfolding standing
stands x ws p zero h = absurd (omega arith)
stands x ws p (suc n) h =
    ⊎_elim (λ (e : get_or ws p 0 ≡ x). let f : p + 0 ≡ p = omega arith in record { q = 0; in_run = omega arith; is = ap (λ z. get_or ws z 0) f ∙ e })
    (λ (e : get_or ws p 0 ≡ x → ⊥).
    let k : hit x ws p ≡ 0 = hit_other x ws p e in
    let s = stands x ws (p + 1) n (omega arith) in
    let f : p + suc s.q ≡ p + 1 + s.q = omega arith in
    record { q = suc s.q; in_run = omega arith; is = ap (λ z. get_or ws z 0) f ∙ s.is }) (cases_eq (get_or ws p 0) x)

-- x is a child of one of the nodes that begin at these places
record Parent (x : ℕ) (ws os : List ℕ) : Type 0 where
  j : ℕ
  q : ℕ
  j_in : j < length os
  q_in : q < kids_at ws (get_or os j 0)
  is : get_or ws (get_or os j 0 + 4 + q) 0 ≡ x

parent : (x : ℕ) (ws os : List ℕ) → 0 < child_of x ws os → Parent x ws os
unfolding child_of
parent x ws [] h = absurd (omega arith)
parent x ws (o ∷ os) h =
    ⊎_elim (λ (g : 0 < standing x ws (o + 4) (kids_at ws o)). let s = stands x ws (o + 4) (kids_at ws o) g in record { j = 0; q = s.q; j_in = omega arith; q_in = s.in_run; is = s.is })
    (λ (g : standing x ws (o + 4) (kids_at ws o) ≤ 0).
    let s = parent x ws os (omega arith) in
    record { j = suc s.j; q = s.q; j_in = omega arith; q_in = s.q_in; is = s.is }) (cases_lt 0 (standing x ws (o + 4) (kids_at ws o)))

---- from the root downwards

module _ (ws os : List ℕ) (d : Read ws os) (s : Sound ws) where
  tree : Treelike ws
  tree = s NotATree (omega arith)

  -- node i, with at most n nodes above it
  low-from : (n i : ℕ) → i < length os → length os ≤ i + n + 1 → Low (tree_at ws i)
  low-from zero i h l = last-low ws os d s i (omega arith)
  low-from (suc n) i h l =
      ⊎_elim (λ (g : i + 1 < length os).
      let e : child_of i ws os ≡ 1 = ap (child_of i ws) d.places ∙ tree.once i (omega (arith, read-nodes ws os d)) in
      let p = parent i ws os (omega arith) in
      let b = kid-below ws os d tree p.j p.q p.j_in p.q_in in
      let m : i < p.j = omega (arith, p.is) in
      subst (λ z. Low (tree_at ws z)) p.is (low-kid ws os d tree p.j p.q p.j_in p.q_in (low-from n p.j p.j_in (omega arith))))
      (λ (g : length os ≤ i + 1). last-low ws os d s i (omega arith)) (cases_lt (i + 1) (length os))

  pub node-low : (i : ℕ) → i < length os → Low (tree_at ws i)
  node-low i h = low-from (length os) i h (omega arith)
