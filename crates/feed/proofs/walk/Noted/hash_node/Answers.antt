use Rattle.std.proofs.Common.{◌<◌, length, ap, ◌∙◌, arith, reverse}
use Rattle.std.proofs.lemmas.List.{length-reverse, nil_from_length}
use Rattle.feed.specs.Pending.{node_hash}
use Rattle.feed.proofs.Lefts.{walked-next}
use Rattle.feed.proofs.Stacks.{walks-one, walks-less, child-deep, child-done, walks-more, walked-out, shorter, pushed, pushed_two}
use Rattle.feed.proofs.walk.Noted.hash_node.Goals as goal

pub loop-frame-init : goal.loop-frame-init
loop-frame-init g c =
    let r = c.requires in
    walks-one _ _ r.reduced r.within r.noted c.fresh-hasher.ensures c.feed_at.ensures (ap reverse c.new-stack.ensures) (pushed _ _ c.push.ensures.items)

pub feed_at-requires-in-Some-nth : goal.feed_at-requires-in-Some-nth
feed_at-requires-in-Some-nth g c =
    let r = c.requires in
    let d = child-deep _ _ r.reduced r.within r.noted c.loop-frame.invariant (pushed _ _ c.in-Some.ensures.items) (walked-next c.node-node.ensures _ c.of.ensures c.in-Some-nth.ensures) in
    record { reduced = r.reduced; within = omega (arith, d); noted = omega (arith, d) }

pub overflow_add-frame : goal.overflow_add-frame
overflow_add-frame g c =
    let r = c.requires in
    omega (arith, child-done _ _ r.reduced r.within r.noted c.loop-frame.invariant (pushed _ _ c.in-Some.ensures.items) (walked-next c.node-node.ensures _ c.of.ensures c.in-Some-nth.ensures))

pub overflow_cast-below : goal.overflow_cast-below
overflow_cast-below g c =
    let r = c.requires in
    omega (arith, r.reduced.few, child-deep _ _ r.reduced r.within r.noted c.loop-frame.invariant (pushed _ _ c.in-Some.ensures.items) (walked-next c.node-node.ensures _ c.of.ensures c.in-Some-nth.ensures))

pub push-requires-in-Some-nth-2 : goal.push-requires-in-Some-nth-2
push-requires-in-Some-nth-2 g c =
    let r = c.requires in
    omega (arith, r.reduced.few, c.push-in-Some-nth.ensures.len, length-reverse c.pop.new.self.items, child-deep _ _ r.reduced r.within r.noted c.loop-frame.invariant (pushed _ _ c.in-Some.ensures.items) (walked-next c.node-node.ensures _ c.of.ensures c.in-Some-nth.ensures))

pub loop-frame-smaller-in-Some-nth : goal.loop-frame-smaller-in-Some-nth
loop-frame-smaller-in-Some-nth g c =
    let r = c.requires in
    shorter _ _ r.reduced r.within r.noted c.loop-frame.invariant (pushed _ _ c.in-Some.ensures.items) (walked-next c.node-node.ensures _ c.of.ensures c.in-Some-nth.ensures) (pushed_two _ _ _ c.push-in-Some-nth-2.ensures.items c.push-in-Some-nth.ensures.items)

pub loop-frame-preserved-in-Some-nth : goal.loop-frame-preserved-in-Some-nth
loop-frame-preserved-in-Some-nth g c =
    let r = c.requires in
    walks-more _ _ r.reduced r.within r.noted c.loop-frame.invariant (pushed _ _ c.in-Some.ensures.items) (walked-next c.node-node.ensures _ c.of.ensures c.in-Some-nth.ensures) c.feed_at-in-Some-nth.ensures (pushed_two _ _ _ c.push-in-Some-nth-2.ensures.items c.push-in-Some-nth.ensures.items)

pub loop-frame-preserved : goal.loop-frame-preserved
loop-frame-preserved g c =
    let r = c.requires in
    walks-less _ _ r.reduced r.within r.noted c.loop-frame.invariant (pushed _ _ c.in-Some.ensures.items) (walked-next c.node-node.ensures _ c.of.ensures c.in_default-nth.ensures)

pub returns : goal.returns
unfolding node_hash
returns g c =
    let none : 0 < length c.loop-frame.stack.items → ⊥ = λ h. let e = c.in_default.ensures.variant.1 h in cc in
    let out = nil_from_length c.loop-frame.stack.items (omega arith) in
    c.end.ensures ∙ ap g.H.Hasher.ended (walked-out c.loop-frame.invariant (ap reverse out))
