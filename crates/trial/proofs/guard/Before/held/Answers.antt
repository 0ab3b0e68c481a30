use Rattle.std.proofs.lemmas.Bool.{le-ltb}
use Rattle.trial.proofs.Marking.{held-past}
use Rattle.trial.proofs.guard.Before.held.Goals as goal
use Rattle.trial.specs.Marks.{held}
use Rattle.std.proofs.Common.{sym, refl, ◌∙◌, arith}

pub returns-then-i-lt-PLACES : goal.returns-then-i-lt-PLACES
unfolding held
returns-then-i-lt-PLACES c = refl

pub returns-else-i-lt-PLACES : goal.returns-else-i-lt-PLACES
returns-else-i-lt-PLACES c =
    le-ltb c.args.i 2048 c.if-i-lt-PLACES.false ∙ sym (held-past c.args.self.now.bits c.args.i (omega arith) c.if-i-lt-PLACES.false)
