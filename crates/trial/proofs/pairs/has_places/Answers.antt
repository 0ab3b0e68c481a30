use Rattle.std.proofs.lemmas.Bool.Decides.{nat_tests}
use Rattle.trial.proofs.pairs.has_places.Goals as goal
use Rattle.trial.specs.Table.{placed}
use Rattle.std.proofs.Common.{arith}

pub returns-then-r-lt-LOCALS : goal.returns-then-r-lt-LOCALS
unfolding placed
returns-then-r-lt-LOCALS c = grind (arith, nat_tests)

pub returns-else-r-lt-LOCALS : goal.returns-else-r-lt-LOCALS
unfolding placed
returns-else-r-lt-LOCALS c = grind (arith, nat_tests)
