use Rattle.std.proofs.Common.{arith}
use Rattle.rule.specs.declared.fault.Fault.TheVariants.{NotATree}
use Rattle.rule.specs.Intake.{Read}
use Rattle.rule.proofs.Grounds.{accepted-read}
use Rattle.sameness.proofs.Judging.{last-low}
use Rattle.sameness.proofs.compare.root_of.Goals as goal

pub invariant_of-rule : goal.invariant_of-rule
invariant_of-rule c = record { read = rw c.places.ensures (accepted-read 6 _ c.args.nodes.now (omega arith) c.requires) }

pub invariant_of-result : goal.invariant_of-result
invariant_of-result c =
    let d : Read c.args.words.now c.places.result.now = rw c.places.ensures (accepted-read 6 _ c.args.nodes.now (omega arith) c.requires) in
    record { within = omega (arith, c.root.ensures); treelike = c.requires.passes NotATree (omega arith); low = last-low _ c.places.result.now d c.requires.passes _ c.root.ensures }
