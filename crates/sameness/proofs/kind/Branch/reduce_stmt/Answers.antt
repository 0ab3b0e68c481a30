use Rattle.std.proofs.Common.{◌≡◌, ◌<◌, get_or, sym, refl, ap, ◌∙◌, subst, inl, inr, ⊎_elim, arith}
use Rattle.rule.specs.Trees.{node, tree_at}
use Rattle.sameness.specs.Blocks.{Inner, Comes}
use Rattle.sameness.specs.Reduction.{code_of, returns as holds_return}
use Rattle.sameness.specs.Sameness.{one, pair}
use Rattle.sameness.proofs.Inside.{inside-stmt, return_or_none}
use Rattle.sameness.proofs.KindTrees.{kind-tree, kind-node, kind-code, kind-absent, kind-held, kids-one}
use Rattle.sameness.proofs.BlockShapes.{return-kids, tail-some, stmt-kept, stmt-code, stmt-kids, stmt-other}
use Rattle.sameness.proofs.kind.Branch.reduce_stmt.Goals as goal

pub returns-then-not-is_absent : goal.returns-then-not-is_absent
returns-then-not-is_absent c =
    let l = c.args.tail in
    tail-some _ _ (kind-absent _ _ l.rule.read l.treelike _ l.within _ c.node.ensures ∙ sym c.if-not-is_absent.ensures)

pub returns-then-stmt-ne-SEMI_STMT : goal.returns-then-stmt-ne-SEMI_STMT
returns-then-stmt-ne-SEMI_STMT c =
    let s = c.args.self in
    let k = kind-code _ _ s.rule.read s.treelike _ s.within _ c.node-2.ensures in
    stmt-kept _ _ (stmt-code _ (λ n. c.if-stmt-ne-EXPR_STMT.true (sym k ∙ n)) (λ n. c.if-stmt-ne-SEMI_STMT.true (sym k ∙ n)))

pub invariant_of-stmt : goal.invariant_of-stmt
invariant_of-stmt c = let s = c.args.self in record { held = kind-held _ _ s.rule.read s.treelike _ s.within _ c.node-2.ensures s.low }

pub returns-then-stmt-ne1 : goal.returns-then-stmt-ne1
returns-then-stmt-ne1 c =
    let s = c.args.self in
    let t = kind-tree _ _ s.rule.read s.treelike _ s.within _ c.node-2.ensures in
    stmt-kept _ _ (ap holds_return t ∙ stmt-kids _ (return-kids _ _ c.if-stmt-ne1.true))

pub returns : goal.returns
returns c =
    let s = c.args.self in
    let l = c.args.tail in
    let i = c.child.result in
    let e = c.node-2.ensures in
    let ks = c.node-2.result.kids.now in
    let ws = s.rule.words.now in
    let o = kids-one ws ks c.if-stmt-ne1.false in
    let f : tree_at ws s.number ≡ node c.node-2.result.code c.node-2.result.v c.node-2.result.w (one (tree_at ws (get_or ks 0 0))) = kind-node _ _ s.rule.read s.treelike _ s.within _ e _ _ _ _ refl refl refl o in
    let g : tree_at i.rule.words.now i.number ≡ tree_at ws (get_or ks 0 0) = rw (c.child.ensures.words, c.child.ensures.number) refl in
    let k = sym (kind-code _ _ i.rule.read i.treelike _ i.within _ c.node-inner.ensures) in
    let a = kind-absent _ _ l.rule.read l.treelike _ l.within _ c.node.ensures ∙ sym c.if-not-is_absent.ensures in
    let h = kind-held _ _ s.rule.read s.treelike _ s.within _ e s.low in
    let b : get_or ks 0 0 < s.number = h.below 0 (omega arith) in
    return_or_none (Comes ws (pair (tree_at ws s.number) (tree_at l.rule.words.now l.number)) s.number) _ c.then_some.ensures
    (λ y u.
    subst (λ z. Inner z (node 94 0 u (pair (tree_at ws s.number) (tree_at l.rule.words.now l.number))) s.number c.node-inner.result) c.child.ensures.words
    (inside-stmt _ _ i.rule.read i.treelike _ _ _ _ _ _ _ i.within _ c.node-inner.ensures y i.low (omega (arith, b, c.child.ensures.number)) (f ∙ ap (λ t. node c.node-2.result.code c.node-2.result.v c.node-2.result.w (one t)) (sym g))
    (⊎_elim (λ p. inr p.1) inl c.else-stmt-ne-EXPR_STMT.either) a u))
    (λ n. stmt-kept _ _ (ap holds_return f ∙ stmt-other _ _ _ _ (λ m. n (k ∙ subst (λ z. code_of z ≡ 31) (sym g) m))))
