use Rattle.sameness.proofs.equivalence.Goals as goal
use Rattle.sameness.proofs.Theorems.{reflexive, symmetric, transitive}

pub returns : goal.returns
returns c = record { reflexive = reflexive; symmetric = symmetric; transitive = transitive }
