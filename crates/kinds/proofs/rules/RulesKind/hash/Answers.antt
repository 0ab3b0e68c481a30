use Rattle.kinds.proofs.Judging.{hashed-sound}
use Rattle.kinds.proofs.rules.RulesKind.hash.Goals as goal

pub returns : goal.returns
returns g c = hashed-sound _ _ _ _ c.hash_rule.ensures (λ hash is. cc)
