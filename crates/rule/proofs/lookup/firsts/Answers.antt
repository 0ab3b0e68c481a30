use Rattle.std.proofs.Common.{refl}
use Rattle.rule.specs.Format.{format}
use Rattle.rule.specs.Lookup.{placed, apart}
use Rattle.rule.proofs.lookup.firsts.Goals as goal

pub returns : goal.returns
unfolding format placed apart
returns c = record { places = refl; len = refl }
