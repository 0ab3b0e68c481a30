use Rattle.std.proofs.Common.{◌≡◌, ◌<◌, length, take, sym, ap, ◌∙◌, subst, arith, length-set, length-take, below_more}
use Rattle.std.proofs.lemmas.List.{get_or-set_same, get_or-set_other}
use Rattle.rule.specs.declared.fault.Fault.TheVariants.{NotATree}
use Rattle.rule.specs.Intake.{Read}
use Rattle.rule.proofs.Grounds.{accepted-read}
use Rattle.rule.proofs.Laid.{read-nodes}
use Rattle.sameness.specs.Reducing.{NodeReduced, no_kind}
use Rattle.sameness.proofs.Judging.{last-in}
use Rattle.sameness.proofs.KindNodes.{held-reduced}
use Rattle.sameness.proofs.Lows.{node-low}
use Rattle.sameness.proofs.reducing.reduce_into.Goals as goal

pub invariant_of-rule : goal.invariant_of-rule
invariant_of-rule c = record { read = rw c.places.ensures (accepted-read 6 _ c.in_ok-nodes.nodes (omega arith) c.in_ok-nodes.ensures) }

pub invariant_of-reduce_exprkind : goal.invariant_of-reduce_exprkind
invariant_of-reduce_exprkind c =
    let a = c.in_ok-nodes.ensures in
    let n = c.in_ok-nodes.nodes in
    let d : Read c.args.words.now c.places.result.now = rw c.places.ensures (accepted-read 6 _ n (omega arith) a) in
    let l : length c.places.result.now ≡ n.count = omega (arith, ap length c.places.ensures, length-take n.count n.at) in
    record { within = omega (arith, l); treelike = a.passes NotATree (omega arith); low = node-low _ _ d a.passes _ (omega (arith, l)) }

pub loop-number-preserved : goal.loop-number-preserved
loop-number-preserved c =
    let e = c.reduce_exprkind.ensures in
    let i = c.loop-number.invariant in
    let ks = c.loop-number.reduced.kinds in
    let n = c.loop-number.number in
    let k = c.of.result in
    let ws = c.args.words.now in
    let r : NodeReduced ws n k = subst (NodeReduced ws n) (sym c.of.ensures) (held-reduced ws n _ e.tree e.held) in
    let l : n < length ks = omega (arith, c.in_ok-nodes.ensures.few) in
    record {
      long = length-set ks n k ∙ i.long;
      each = below_more _ _ (λ j h. subst (NodeReduced ws j) (sym (get_or-set_other ks n j k no_kind (λ m. omega arith))) (i.each j h))
          (subst (NodeReduced ws n) (sym (get_or-set_same ks n k no_kind l)) r);
    }

pub returns-clause-ok : goal.returns-clause-ok
returns-clause-ok c =
    let a = c.in_ok-nodes.ensures in
    let n = c.in_ok-nodes.nodes in
    let d = accepted-read 6 c.args.words.now n (omega arith) a in
    let l : length (take n.count n.at) ≡ n.count = omega (arith, length-take n.count n.at) in
    record {
      sound = a.passes;
      count = sym l ∙ read-nodes _ _ d;
      some = omega (arith, l, last-in _ _ d);
      few = a.few;
      each = λ j h. c.loop-number.invariant.each j (omega (arith, h));
    }
