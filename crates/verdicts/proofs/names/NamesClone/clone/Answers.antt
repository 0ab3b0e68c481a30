use Rattle.verdicts.proofs.Cloning.{clone_indexes}
use Rattle.verdicts.proofs.names.NamesClone.clone.Goals as goal

pub invariant_of-result : goal.invariant_of-result
invariant_of-result c = clone_indexes c.self.inside.entries.now c.self.inside.places c.in_ok-places.places c.in_ok-places.ensures.cases c.self.invariant
