use Rattle.trial.proofs.Restoring.{RestoredTo}
use Rattle.trial.proofs.guard.Before.restore.Given as goal
use Rattle.trial.specs.Marks.{held}

abbrev pub invariant-loop-i : goal.invariant-loop-i
invariant-loop-i l = RestoredTo (held l.self.bits) l.initial.place-items l.place-items l.i
