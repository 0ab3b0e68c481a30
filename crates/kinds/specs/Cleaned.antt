-- The tree of a sound rule has no code that is the same as nothing, so a sound rule is the same as itself.
use Rattle.std.specs.Prelude.{◌≡◌, ℕ, zero, suc, ◌+◌, ◌-◌, ◌<◌, Bool, true, false, not, ◌&&◌, List, ◌≢◌, slice_index, slice_index_or, refl}
use Rattle.std.proofs.Common.{ap, subst, ◌∙◌, arith}
use Rattle.rule.specs.declared.fault.Fault.TheVariants.{CutShort, NotATree, SameAsNothing}
use Rattle.rule.specs.Intake.{Whole, Treelike, Comparable, barred, nodes, offset}
use Rattle.rule.specs.Run.{code_at, kids_at, kid_at}
use Rattle.rule.specs.Trees.{stub, kids_of, node_of, trees_of, tree_at, tree_of}
use Rattle.rule.proofs.Grown.{tree-at}
use Rattle.rule.proofs.Laid.{node-some}
use Rattle.sameness.specs.Sameness.{clean, clean_all}
use Rattle.catalogue.specs.Kinds.{SoundBy}
use Rattle.kinds.specs.Rules.{meets_rule}

both : (a b : Bool) → a ≡ true → b ≡ true → (a && b) ≡ true
both a b p q = rw (p, q) refl

clean-kids : (ws : List ℕ) (p n : ℕ) → ((q : ℕ) → q < n → clean (tree_at ws (slice_index ws (p + q))) ≡ true) → clean_all (kids_of (trees_of ws) ws p n) ≡ true
unfolding kids_of clean_all tree_at
clean-kids ws p zero h = refl
clean-kids ws p (suc n) h =
    let here : clean (slice_index_or (trees_of ws) (slice_index ws p) stub) ≡ true =
    (let e : p + 0 ≡ p = omega arith in subst (λ (z : ℕ). clean (slice_index_or (trees_of ws) (slice_index ws z) stub) ≡ true) e (h 0 (omega arith))) in
    both _ _ here (clean-kids ws (p + 1) n (λ q lt.
    let e : p + suc q ≡ p + 1 + q = omega arith in
    subst (λ (z : ℕ). clean (slice_index_or (trees_of ws) (slice_index ws z) stub) ≡ true) e (h (suc q) (omega arith))))

clean-node : (ws : List ℕ) (o : ℕ) → barred (code_at ws o) ≡ false → clean_all (kids_of (trees_of ws) ws (o + 4) (kids_at ws o)) ≡ true → clean (node_of ws (trees_of ws) o) ≡ true
unfolding node_of clean
clean-node ws o h k = both _ _ (ap not h) k

-- every node below n
clean-below : (ws : List ℕ) → Treelike ws → Comparable ws → (n i : ℕ) → i < n → i < nodes ws → clean (tree_at ws i) ≡ true
clean-below ws t c zero i lt h = absurd (omega arith)
clean-below ws t c (suc n) i lt h =
    ap clean (tree-at ws i h (λ q lq. t.below i q h lq))
    ∙ clean-node ws (offset ws i) (c i h) (clean-kids ws (offset ws i + 4) (kids_at ws (offset ws i)) (λ q lq.
    let below : kid_at ws (offset ws i) q < i = t.below i q h lq in
    clean-below ws t c n (kid_at ws (offset ws i) q) (omega arith) (omega arith)))

clean-tree : (ws : List ℕ) → Whole ws → Treelike ws → Comparable ws → clean (tree_of ws) ≡ true
unfolding tree_of
clean-tree ws w t c =
    let some = node-some ws w in
    let lt : nodes ws - 1 < nodes ws = omega arith in
    clean-below ws t c (nodes ws) (nodes ws - 1) lt lt

-- a truth that cannot be denied
settled : (b : Bool) → ((b ≢ true) → ⊥) → b ≡ true
settled true h = refl
settled false h = absurd (h (λ e. let z : ◌≡◌ {A = ℕ} 0 1 = cc in omega arith))

pub clean-rule : (ws : List ℕ) → SoundBy meets_rule ws → clean (tree_of ws) ≡ true
clean-rule ws sound =
    settled (clean (tree_of ws)) (λ no.
    sound 2 (
      CutShort,
      refl,
      λ w.
          sound 4 (
            NotATree,
            refl,
            λ t.
                sound 7 (SameAsNothing, refl, λ c. no (clean-tree ws w t c)),
          ),
    ))
