use Rattle.std.proofs.Common.{refl, arith}
use Rattle.rule.specs.Tally.{high}
use Rattle.rule.proofs.Adding.{adding-none, kid-more, kid-twice, flagged}
use Rattle.rule.proofs.tree.add_kids.Goals as goal
use Rattle.rule.proofs.tree.add_kids.Goals.{then-kid-i-via-then-kid-i, then-kid-i-via-else-kid-i+then-seen-kid}

pub loop-kid-init : goal.loop-kid-init
loop-kid-init c = adding-none _ _ _ _ (flagged _)

pub returns-then-kid-i-clause-err : goal.returns-then-kid-i-clause-err
returns-then-kid-i-clause-err c =
    elim c.then-kid-i.branch [
      | then-kid-i-via-then-kid-i w ↦ (refl, high c.loop-kid.kid-index c.loop-kid-test.true w.if-kid-i.true)
      | then-kid-i-via-else-kid-i+then-seen-kid w ↦
          (refl, kid-twice _ _ _ c.loop-kid.seen _ _ _ c.loop-kid-test.true c.loop-kid.invariant w.if-kid-i.false w.if-seen-kid.true)
    ]

pub loop-kid-preserved : goal.loop-kid-preserved
loop-kid-preserved c = kid-more _ _ _ c.loop-kid.seen _ _ _ c.loop-kid-test.true c.loop-kid.invariant c.if-kid-i.false (omega arith) (omega arith) c.if-seen-kid.false
