use Rattle.std.proofs.Common.{refl}
use Rattle.replays.proofs.perform.perform.Goals as goal

pub returns-in-Cut-clause-done : goal.returns-in-Cut-clause-done
returns-in-Cut-clause-done g c = rw c.in-Cut.is (c.cut.result, c.cut.ensures.done, refl, refl, refl)

pub returns-in_ok-copied_run-in-Run-clause-done : goal.returns-in_ok-copied_run-in-Run-clause-done
returns-in_ok-copied_run-in-Run-clause-done g c = rw c.in-Run.is (c.in_ok-copied_run-in-Run.field-0, c.in_ok-copied_run-in-Run.ensures.copied, refl, refl)
