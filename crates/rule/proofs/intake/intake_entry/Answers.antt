use Rattle.std.proofs.Common.{sym, subst, arith}
use Rattle.rule.specs.Intake.{Read}
use Rattle.rule.proofs.Grounds.{accepted-read}
use Rattle.rule.proofs.intake.intake_entry.Goals as goal

pub invariant_of-check_comparable : goal.invariant_of-check_comparable
invariant_of-check_comparable c = record { read = subst (λ os. Read c.args.words.now os) (sym c.places.ensures) (accepted-read 6 _ c.in_ok-nodes.nodes (omega arith) c.in_ok-nodes.ensures) }
