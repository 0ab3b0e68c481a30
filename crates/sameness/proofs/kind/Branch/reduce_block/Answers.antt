use Rattle.std.proofs.Common.{◌≡◌, ◌<◌, get_or, sym, refl, ap, ◌∙◌, subst, arith}
use Rattle.rule.specs.Trees.{node, tree_at}
use Rattle.sameness.specs.Blocks.{Made}
use Rattle.sameness.specs.Reduction.{shape_of_block}
use Rattle.sameness.specs.Sameness.{one, pair}
use Rattle.sameness.proofs.Inside.{block_made}
use Rattle.sameness.proofs.KindTrees.{kind-tree, kind-node, kind-held, kids-one, kids-two}
use Rattle.sameness.proofs.BlockShapes.{plain-words, block_kept, block-body, body-kids}
use Rattle.sameness.proofs.kind.Branch.reduce_block.Goals as goal

pub returns-then-not-is_plain_block : goal.returns-then-not-is_plain_block
returns-then-not-is_plain_block c =
    let s = c.args.self in
    ap shape_of_block (kind-tree _ _ s.rule.read s.treelike _ s.within _ c.node.ensures) ∙ block_kept _ _ _ _ (sym c.if-not-is_plain_block.ensures)

pub invariant_of-block : goal.invariant_of-block
invariant_of-block c = let s = c.args.self in record { held = kind-held _ _ s.rule.read s.treelike _ s.within _ c.node.ensures s.low }

pub returns-in-1 : goal.returns-in-1
returns-in-1 c =
    let s = c.args.self in
    let p = plain-words c.node.result.code c.node.result.v (sym c.if-not-is_plain_block.ensures) in
    let k = c.child.result in
    let ks = c.node.result.kids.now in
    let h = kind-held _ _ s.rule.read s.treelike _ s.within _ c.node.ensures s.low in
    let b : get_or ks 0 0 < s.number = h.below 0 (omega (arith, c.in-1.is)) in
    let f : tree_at s.rule.words.now s.number ≡ node 94 0 c.node.result.w (one (tree_at k.rule.words.now k.number)) =
    rw (c.child.ensures.words, c.child.ensures.number) (kind-node _ _ s.rule.read s.treelike _ s.within _ c.node.ensures _ _ _ _ p.0 p.1 refl (kids-one _ ks c.in-1.is)) in
    subst (λ z. Made z (tree_at s.rule.words.now s.number) s.number c.reduce_tail.result) c.child.ensures.words
    (block_made _ _ _ _ _ _ _ f (omega (arith, b, c.child.ensures.number)) c.reduce_tail.ensures)

pub returns-in-2 : goal.returns-in-2
returns-in-2 c =
    let s = c.args.self in
    let p = plain-words c.node.result.code c.node.result.v (sym c.if-not-is_plain_block.ensures) in
    let k = c.child-in-2.result in
    let m = c.child-in-2-2.result in
    let ks = c.node.result.kids.now in
    let h = kind-held _ _ s.rule.read s.treelike _ s.within _ c.node.ensures s.low in
    let b : get_or ks 0 0 < s.number = h.below 0 (omega (arith, c.in-2.is)) in
    let f : tree_at s.rule.words.now s.number ≡ node 94 0 c.node.result.w (pair (tree_at k.rule.words.now k.number) (tree_at m.rule.words.now m.number)) =
    rw (c.child-in-2.ensures.words, c.child-in-2.ensures.number, c.child-in-2-2.ensures.words, c.child-in-2-2.ensures.number)
    (kind-node _ _ s.rule.read s.treelike _ s.within _ c.node.ensures _ _ _ _ p.0 p.1 refl (kids-two _ ks c.in-2.is)) in
    subst (λ z. Made z (tree_at s.rule.words.now s.number) s.number c.reduce_stmt.result) c.child-in-2.ensures.words
    (block_made _ _ _ _ _ _ _ f (omega (arith, b, c.child-in-2.ensures.number)) c.reduce_stmt.ensures)

pub returns-in_default : goal.returns-in_default
returns-in_default c =
    let s = c.args.self in
    let p = plain-words c.node.result.code c.node.result.v (sym c.if-not-is_plain_block.ensures) in
    let f = kind-node _ _ s.rule.read s.treelike _ s.within _ c.node.ensures _ _ _ _ p.0 p.1 refl refl in
    ap shape_of_block f ∙ block-body _ _ ∙ body-kids _ _ (λ e. omega (arith, c.in_default)) (λ e. omega (arith, c.in_default))
