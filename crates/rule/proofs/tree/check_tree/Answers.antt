use Rattle.std.proofs.Common.{false, length, sym, refl, ap, ◌∙◌, subst, arith}
use Rattle.std.proofs.Math.Bool.{beq}
use Rattle.std.proofs.lemmas.Result.{err_from_is_err_and}
use Rattle.rule.specs.Tally.{Added, Clash, flags}
use Rattle.rule.proofs.Adding.{flags-length}
use Rattle.rule.proofs.Tallying.{tallied-none, tallied-more, tallied-clash, tallied-all, tallied-missing, some-unseen, none-unseen, unseen}
use Rattle.rule.proofs.Yielded.{one-given, all-given}
use Rattle.rule.proofs.tree.check_tree.Goals as goal

pub loop-node-init : goal.loop-node-init
loop-node-init c =
    let first = c.into_iter-node-iterator.ensures.into_iter_gives ∙ c.nodes-node-items.ensures in
    record { rule = ap (λ s. s.rule) first; tallied = rw (c.new-sizes.ensures, ap (λ s. s.next) first) (tallied-none _ _ _ (unseen 2048)) }

pub returns-in_err-total-clause-err : goal.returns-in_err-total-clause-err
returns-in_err-total-clause-err c =
    let rule = c.args.rule in
    let l = c.loop-node.invariant in
    let g = one-given rule _ _ l.rule refl _ _ c.in-Some.ensures.steps in
    let p = err_from_is_err_and c.from_residual.result c.from_residual.ensures.1 in
    let e = c.in_err-total.ensures.err in
    let k = subst (λ z. Clash c.in-Some.node.kids.now (length z) (flags c.loop-node.seen)) c.as_slice.ensures.value e.1 in
    rw (p.1, p.2) (e.0, tallied-clash _ _ rule.read _ _ _ g.0 l.tallied _ g.1 k)

pub loop-node-preserved : goal.loop-node-preserved
loop-node-preserved c =
    let rule = c.args.rule in
    let l = c.loop-node.invariant in
    let g = one-given rule _ _ l.rule refl _ _ c.in-Some.ensures.steps in
    let k = subst (λ z. Added c.in-Some.node.kids.now (length z) (flags c.loop-node.seen) (flags c.add_kids.new.seen) z c.in_ok-total.total) c.as_slice.ensures.value c.in_ok-total.ensures.ok in
    record { rule = g.2; tallied = rw (c.push.ensures.items, g.3) (tallied-more _ _ rule.read _ _ _ _ _ g.0 l.tallied _ g.1 k (omega (arith, flags-length c.add_kids.new.seen))) }

pub returns-then-contains-clause-err : goal.returns-then-contains-clause-err
returns-then-contains-clause-err c =
    let rule = c.args.rule in
    let l = c.loop-node.invariant in
    let few = rule.read.few in
    let a = all-given rule _ _ l.rule refl _ c.in-None.ensures.steps in
    let u = some-unseen (λ y. beq y false) c.root.result c.loop-node.seen refl (sym c.contains.ensures.value ∙ c.if-contains.true) in
    (refl, tallied-missing _ _ rule.read _ _ _ u.0 a (omega (arith, u.1, c.root.ensures)) u.2 l.tallied)

pub returns-clause-ok : goal.returns-clause-ok
returns-clause-ok c =
    let rule = c.args.rule in
    let l = c.loop-node.invariant in
    let few = rule.read.few in
    let a = all-given rule _ _ l.rule refl _ c.in-None.ensures.steps in
    let n = none-unseen (λ y. beq y false) c.root.result c.loop-node.seen refl (omega (arith, c.root.ensures)) (sym c.contains.ensures.value ∙ c.if-contains.false) in
    tallied-all _ _ rule.read _ _ _ a (λ x h. n x (omega (arith, c.root.ensures))) l.tallied
