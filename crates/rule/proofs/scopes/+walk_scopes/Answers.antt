use Rattle.std.proofs.Common.{◌≡◌, ◌+◌, get_or, is_some, sym, ap, ◌∙◌, subst, arith}
use Rattle.std.proofs.lemmas.Result.{err_from_is_err_and}
use Rattle.rule.specs.Run.{kids_at}
use Rattle.rule.specs.Trees.{tree_at}
use Rattle.rule.specs.Marks.{broken, marked, ends, note_all, size, steps}
use Rattle.rule.proofs.Grown.{tree-read}
use Rattle.rule.proofs.Kids.{kid, kid-end}
use Rattle.rule.proofs.Spelling.{spelt-comparison, spelt-note}
use Rattle.rule.proofs.Marking.{ends-length}
use Rattle.rule.proofs.Roles.{walking-more, walking-broken, walking-all, size-node, node-broken, node-noted}
use Rattle.rule.proofs.scopes.+walk_scopes.Goals as goal

pub overflow_add-end : goal.overflow_add-end
overflow_add-end t c =
    let tree = c.args.tree in
    let k = kid _ _ _ _ _ _ _ _ _ _ _ _ tree.rule.read tree.treelike tree.sized c.requires.inside c.known_node-node.ensures c.loop-kid-test.true c.requires.fits c.loop-kid.invariant in
    omega (arith, k.size_is, k.ends, c.ranges.until)

pub walk_scopes-requires : goal.walk_scopes-requires
walk_scopes-requires t c =
    let tree = c.args.tree in
    let k = kid _ _ _ _ _ _ _ _ _ _ _ _ tree.rule.read tree.treelike tree.sized c.requires.inside c.known_node-node.ensures c.loop-kid-test.true c.requires.fits c.loop-kid.invariant in
    (omega (arith, k.below, c.decreases), (omega (arith, k.below, c.requires.inside), kid-end c.is_some-fork.result _ _ _ _ _ k.size_is k.ends c.operand_end.ensures))

pub returns-in_err-walk_scopes : goal.returns-in_err-walk_scopes
returns-in_err-walk_scopes t c =
    let p = err_from_is_err_and c.from_residual.result c.from_residual.ensures.1 in
    let e = c.in_err-walk_scopes.ensures in
    let tree = c.args.tree in
    let k = kid _ _ _ _ _ _ _ _ _ _ _ _ tree.rule.read tree.treelike tree.sized c.requires.inside c.known_node-node.ensures c.loop-kid-test.true c.requires.fits c.loop-kid.invariant in
    let s = subst (λ x. note_all c.loop-kid.at (steps c.loop-kid.at c.operand_end.result (tree_at tree.rule.words.now x)) (ends c.loop-kid.marks) ≡ broken) (sym k.place) e.1 in
    let z = ap (λ n. c.loop-kid.at + n) (k.size_is ∙ ap (λ x. size (tree_at tree.rule.words.now x)) (sym k.place)) in
    let b = walking-broken _ _ _ _ _ _ _ _ _ _ _ _ k.count z c.operand_end.ensures s c.loop-kid.invariant in
    rw (p.1, p.2) (e.0, node-broken _ _ _ _ _ _ (tree-read _ _ _ tree.rule.read tree.treelike c.requires.inside) _ (spelt-comparison _ _ _ _ c.known_node-node.ensures (c.is_some-fork.ensures ∙ ap is_some c.comparison.ensures)) b)

pub loop-kid-preserved : goal.loop-kid-preserved
loop-kid-preserved t c =
    let tree = c.args.tree in
    let k = kid _ _ _ _ _ _ _ _ _ _ _ _ tree.rule.read tree.treelike tree.sized c.requires.inside c.known_node-node.ensures c.loop-kid-test.true c.requires.fits c.loop-kid.invariant in
    let s = subst (λ x. note_all c.loop-kid.at (steps c.loop-kid.at c.operand_end.result (tree_at tree.rule.words.now x)) (ends c.loop-kid.marks) ≡ marked (ends c.walk_scopes.new.marks)) (sym k.place) c.in_ok-walk_scopes.ensures in
    let z = ap (λ n. c.loop-kid.at + n) (k.size_is ∙ ap (λ x. size (tree_at tree.rule.words.now x)) (sym k.place)) in
    walking-more _ _ _ _ _ _ _ _ _ _ _ _ _ k.count z c.operand_end.ensures (omega (arith, ends-length c.walk_scopes.new.marks)) s c.loop-kid.invariant

pub note_node-requires : goal.note_node-requires
note_node-requires t c =
    let tree = c.args.tree in
    let e : c.loop-kid.kid-index ≡ kids_at tree.rule.words.now (get_or tree.rule.at.now c.args.i 0) = omega (arith, c.known_node-node.ensures.count, c.loop-kid-test.false, c.loop-kid.auto.kid-index-end) in
    let a = walking-all _ _ _ _ _ _ _ _ _ _ e c.loop-kid.invariant in
    let z = size-node _ _ _ c.args.place c.args.until (ends c.args.marks.now) (tree-read _ _ _ tree.rule.read tree.treelike c.requires.inside) in
    omega (arith, a.1, z, c.requires.fits)

pub returns : goal.returns
returns t c =
    let tree = c.args.tree in
    let e : c.loop-kid.kid-index ≡ kids_at tree.rule.words.now (get_or tree.rule.at.now c.args.i 0) = omega (arith, c.known_node-node.ensures.count, c.loop-kid-test.false, c.loop-kid.auto.kid-index-end) in
    let a = walking-all _ _ _ _ _ _ _ _ _ _ e c.loop-kid.invariant in
    node-noted _ _ _ _ _ _ (tree-read _ _ _ tree.rule.read tree.treelike c.requires.inside) _ _ _ _ _ (spelt-comparison _ _ _ _ c.known_node-node.ensures (c.is_some-fork.ensures ∙ ap is_some c.comparison.ensures)) a.0 a.1
    (spelt-note _ _ _ _ _ _ _ _ c.known_node-node.ensures c.note_node.ensures)
