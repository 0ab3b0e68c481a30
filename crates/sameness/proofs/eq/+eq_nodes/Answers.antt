use Rattle.std.proofs.Common.{rules, ◌≡◌, ℕ, ◌<◌, true, min, ◌⊎◌, length, get_or, sym, refl, ◌∙◌, subst, ap₂, inl, inr, arith, length-append}
use Rattle.std.proofs.lemmas.Slice.Zip.{zip_turn, zip_end}
use Rattle.rule.specs.Trees.{tree_at}
use Rattle.sameness.proofs.Overs.{going_more, going-fails, going-all, over-unequal, first_holds, not-exchanged, few-operands, exchanged, both-same}
use Rattle.sameness.specs.Walking.{Low, KindsWalked, KidsWalked}
use Rattle.sameness.proofs.Asking.{no-binding, second-binding, no-local, second-local, binding-low, local-low, nodes-named}
use Rattle.sameness.proofs.Walks.{kinds-unequal, kinds-other, kinds-fail, kinds-plain, kinds-by, kinds-bound, kinds-taken, kinds-local}
use Rattle.sameness.proofs.eq.+eq_nodes.Goals as goal
use Rattle.sameness.proofs.eq.+eq_nodes.Goals.{over-In-Some, eq_reversed-then-l-ne2-via-then-l-ne2, eq_reversed-then-l-ne2-via-else-l-ne2+then-r-ne2}

pub eq_part-returns-then-eq_words : goal.eq_part-returns-then-eq_words
eq_part-returns-then-eq_words t c =
    kinds-by _ c.args.l.node _ c.args.r.node _ _ _ c.requires (sym c.if-eq_words.ensures) c.over.ensures

pub eq_part-returns-else-eq_words : goal.eq_part-returns-else-eq_words
eq_part-returns-else-eq_words t c = kinds-other _ c.args.l.node _ c.args.r.node _ _ c.requires.not_binary c.eq_words.ensures c.if-eq_words.false

pub eq_pat-returns-then-not-eq_words : goal.eq_pat-returns-then-not-eq_words
eq_pat-returns-then-not-eq_words t c = kinds-unequal _ c.args.l.node _ c.args.r.node _ c.requires.not_binary (sym c.if-not-eq_words.ensures)

pub eq_pat-returns-then-not-over : goal.eq_pat-returns-then-not-over
eq_pat-returns-then-not-over t c = kinds-fail _ c.args.l.node _ c.args.r.node _ _ c.requires.not_binary (sym c.if-not-eq_words.ensures) c.if-not-over.ensures

pub eq_pat-returns-in_default : goal.eq_pat-returns-in_default
eq_pat-returns-in_default t c =
    let d = sym c.if-not-eq_words.ensures in
    kinds-plain _ c.args.l.node _ c.args.r.node _ _ c.requires.not_binary (second-binding c.args.l.node c.args.r.node d (sym c.declared-2.ensures ∙ c.in_default.is-1)) (λ e. c.requires.not_path e.0) d c.if-not-over.ensures

pub eq_pat-returns-in_default-2 : goal.eq_pat-returns-in_default-2
eq_pat-returns-in_default-2 t c =
    kinds-plain _ c.args.l.node _ c.args.r.node _ _ c.requires.not_binary (no-binding c.args.l.node (sym c.declared.ensures ∙ c.in_default.is-0)) (λ e. c.requires.not_path e.0) (sym c.if-not-eq_words.ensures) c.if-not-over.ensures

pub eq_pat-returns-then-not-unpaired : goal.eq_pat-returns-then-not-unpaired
eq_pat-returns-then-not-unpaired t c =
    let u = sym c.declared.ensures ∙ c.in-Some-Some.is-0 in
    let v = sym c.declared-2.ensures ∙ c.in-Some-Some.is-1 in
    kinds-taken _ c.args.l.node _ c.args.r.node _ _ _ _ u v (sym c.if-not-eq_words.ensures) c.over.array_long (binding-low _ _ _ _ c.args.l.held u) (binding-low _ _ _ _ c.args.r.held v)
    c.if-not-over.ensures (sym c.if-not-unpaired.ensures)

pub eq_pat-returns-else-not-unpaired : goal.eq_pat-returns-else-not-unpaired
eq_pat-returns-else-not-unpaired t c =
    let u = sym c.declared.ensures ∙ c.in-Some-Some.is-0 in
    let v = sym c.declared-2.ensures ∙ c.in-Some-Some.is-1 in
    subst (λ z. KindsWalked c.args.l.branch.rule.words.now c.args.l.node c.args.r.branch.rule.words.now c.args.r.node c.args.t.now z true) (sym c.record.ensures)
    (kinds-bound _ c.args.l.node _ c.args.r.node _ _ _ _ u v (sym c.if-not-eq_words.ensures) c.over.array_long (binding-low _ _ _ _ c.args.l.held u) (binding-low _ _ _ _ c.args.r.held v)
    c.if-not-over.ensures (sym c.if-not-unpaired.ensures))

pub eq_qpath-returns-then-not-eq_words : goal.eq_qpath-returns-then-not-eq_words
eq_qpath-returns-then-not-eq_words t c = kinds-unequal _ c.args.l.node _ c.args.r.node _ c.requires.not_binary (sym c.if-not-eq_words.ensures)

pub eq_qpath-returns-then-not-over : goal.eq_qpath-returns-then-not-over
eq_qpath-returns-then-not-over t c = kinds-fail _ c.args.l.node _ c.args.r.node _ _ c.requires.not_binary (sym c.if-not-eq_words.ensures) c.if-not-over.ensures

pub eq_qpath-eq_locals-requires : goal.eq_qpath-eq_locals-requires
eq_qpath-eq_locals-requires t c =
    record {
      first = local-low _ c.args.l.node _ _ c.args.l.held (sym c.local.ensures ∙ c.in-Some-Some.is-0);
      second = local-low _ c.args.r.node _ _ c.args.r.held (sym c.local-2.ensures ∙ c.in-Some-Some.is-1);
    }

pub eq_qpath-returns-in-Some-Some : goal.eq_qpath-returns-in-Some-Some
eq_qpath-returns-in-Some-Some t c =
    kinds-local _ c.args.l.node _ c.args.r.node _ _ _ _ _ (sym c.local.ensures ∙ c.in-Some-Some.is-0) (sym c.local-2.ensures ∙ c.in-Some-Some.is-1)
    (sym c.if-not-eq_words.ensures) c.eq_locals.ensures c.if-not-over.ensures

pub eq_qpath-returns-in_default : goal.eq_qpath-returns-in_default
eq_qpath-returns-in_default t c =
    let d = sym c.if-not-eq_words.ensures in
    kinds-plain _ c.args.l.node _ c.args.r.node _ _ c.requires.not_binary c.requires.not_binding (second-local c.args.l.node c.args.r.node d (sym c.local-2.ensures ∙ c.in_default.is-1)) d c.if-not-over.ensures

pub eq_qpath-returns-in_default-2 : goal.eq_qpath-returns-in_default-2
eq_qpath-returns-in_default-2 t c =
    kinds-plain _ c.args.l.node _ c.args.r.node _ _ c.requires.not_binary c.requires.not_binding (no-local c.args.l.node (sym c.local.ensures ∙ c.in_default.is-0)) (sym c.if-not-eq_words.ensures) c.if-not-over.ensures

pub eq_binary-returns-then-over_words : goal.eq_binary-returns-then-over_words
eq_binary-returns-then-over_words t c =
    let wl = c.args.l.branch.rule.words.now in
    let wr = c.args.r.branch.rule.words.now in
    let k : KidsWalked wl c.args.l.node wr c.args.r.node c.args.t.now c.over_words.new.words true =
    subst (λ z. KidsWalked wl c.args.l.node wr c.args.r.node z c.over_words.new.words true) c.of-trial.ensures.table c.if-over_words.ensures in
    subst (λ z. KindsWalked wl c.args.l.node wr c.args.r.node c.args.t.now z true) (sym (c.drop-trial.ensures.keeps refl))
    (first_holds _ c.args.l.node _ c.args.r.node _ _ c.requires.binary (sym c.if-not-eq_words.ensures) k)

pub eq_reversed-returns-then-not-is_reversed : goal.eq_reversed-returns-then-not-is_reversed
eq_reversed-returns-then-not-is_reversed t c = not-exchanged _ c.args.l.node _ c.args.r.node _ c.requires.binary (sym c.if-not-is_reversed.ensures) c.requires.direct_fails

pub eq_reversed-returns-then-l-ne2 : goal.eq_reversed-returns-then-l-ne2
eq_reversed-returns-then-l-ne2 t c =
    let n : (length c.args.l.node.kids.now ≡ 2 → ⊥) ⊎ (length c.args.r.node.kids.now ≡ 2 → ⊥) =
    elim c.then-l-ne2.branch [ eq_reversed-then-l-ne2-via-then-l-ne2 w ↦ inl w.if-l-ne2.true | eq_reversed-then-l-ne2-via-else-l-ne2+then-r-ne2 w ↦ inr w.if-r-ne2.true ] in
    few-operands _ c.args.l.node _ c.args.r.node _ c.requires.binary n c.requires.direct_fails

pub eq_reversed-returns : goal.eq_reversed-returns
eq_reversed-returns t c =
    exchanged _ c.args.l.node _ c.args.r.node _ _ _ c.requires.binary (sym c.if-not-is_reversed.ensures) c.if-l-ne2.false c.if-r-ne2.false c.requires.direct_fails
    (both-same _ _ _ _ _ _ _ _ _ _ _ (ap₂ tree_at c.child.ensures.words c.child.ensures.number) (ap₂ tree_at c.child-3.ensures.words c.child-3.ensures.number)
    (ap₂ tree_at c.child-2.ensures.words c.child-2.ensures.number) (ap₂ tree_at c.child-4.ensures.words c.child-4.ensures.number) c.both.ensures)

pub over-returns-then-l-r : goal.over-returns-then-l-r
over-returns-then-l-r t c = over-unequal c.args.l.branch.rule.words.now c.args.l.node c.args.r.branch.rule.words.now c.args.r.node _ c.if-l-r.true

-- the two children of this turn stand at one place of the two nodes
turn : (t : ℕ) (c : over-In-Some t)
    → (length c.loop-x.yielded < length c.args.l.node.kids.now) × (length c.loop-x.yielded < length c.args.r.node.kids.now)
    × ((d : ℕ) → c.in-Some.x.now ≡ get_or c.args.l.node.kids.now (length c.loop-x.yielded) d) × ((d : ℕ) → c.in-Some.y.now ≡ get_or c.args.r.node.kids.now (length c.loop-x.yielded) d)
turn t c =
    zip_turn c.args.l.node.kids.now c.args.r.node.kids.now c.loop-x.yielded c.into_iter-x-iterator.result c.loop-x.x-iterator c.next.new.self c.next.result (search rules) (search rules) c.loop-x.yielded_by (c.in-Some.x, c.in-Some.y) c.in-Some.is c.next.ensures.steps

pub over-invariant_of-first : goal.over-invariant_of-first
over-invariant_of-first t c =
    let l = c.args.l in
    let z = turn t (goal.at.over-invariant_of-first t c).In-Some in
    let e : c.in-Some.x.now ≡ get_or l.node.kids.now (length c.loop-x.yielded) 0 = z.2 0 in
    record {
      within = omega (arith, e, l.held.below _ z.0, l.branch.within);
      treelike = l.branch.treelike;
      low = subst (λ n. Low (tree_at l.branch.rule.words.now n)) (sym e) (l.held.kids_low _ z.0);
    }

pub over-invariant_of-second : goal.over-invariant_of-second
over-invariant_of-second t c =
    let r = c.args.r in
    let z = turn t (goal.at.over-invariant_of-second t c).In-Some in
    let e : c.in-Some.y.now ≡ get_or r.node.kids.now (length c.loop-x.yielded) 0 = z.3 0 in
    record {
      within = omega (arith, e, r.held.below _ z.1, r.branch.within);
      treelike = r.branch.treelike;
      low = subst (λ n. Low (tree_at r.branch.rule.words.now n)) (sym e) (r.held.kids_low _ z.1);
    }

pub over-returns-then-not-eq_node : goal.over-returns-then-not-eq_node
over-returns-then-not-eq_node t c =
    let z = turn t (goal.at.over-returns-then-not-eq_node t c).In-Some in
    going-fails _ c.args.l.node _ c.args.r.node _ _ _ _ z.0 z.1 (nodes-named _ _ _ _ _ _ _ _ _ (z.2 0) (z.3 0) c.if-not-eq_node.ensures) c.loop-x.invariant

pub over-loop-x-preserved : goal.over-loop-x-preserved
over-loop-x-preserved t c =
    let z = turn t (goal.at.over-loop-x-preserved t c).In-Some in
    rw length-append (going_more _ c.args.l.node _ c.args.r.node _ _ _ _ z.0 z.1 (nodes-named _ _ _ _ _ _ _ _ _ (z.2 0) (z.3 0) c.if-not-eq_node.ensures) c.loop-x.invariant)

pub over-returns : goal.over-returns
over-returns t c =
    let e : length c.loop-x.yielded ≡ min (length c.args.l.node.kids.now) (length c.args.r.node.kids.now) =
    zip_end c.args.l.node.kids.now c.args.r.node.kids.now c.loop-x.yielded c.into_iter-x-iterator.result c.loop-x.x-iterator c.next.new.self c.next.result (search rules) (search rules) c.loop-x.yielded_by c.in-None.is c.next.ensures.steps in
    going-all _ c.args.l.node _ c.args.r.node _ _ _ (omega (arith, e, c.if-l-r.false)) (omega (arith, e, c.if-l-r.false)) c.loop-x.invariant
