use Rattle.std.proofs.Common.{refl}
use Rattle.rule.specs.Format.{format}
use Rattle.rule.proofs.lookup.rows.Goals as goal

pub returns : goal.returns
unfolding format
returns c = refl
