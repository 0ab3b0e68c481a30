use Rattle.std.specs.Prelude.{replicate}
use Rattle.kinds.proofs.Judging.{compared-sound}
use Rattle.kinds.proofs.rules.RulesKind.compare.Goals as goal

pub returns : goal.returns
returns c = compared-sound c.args.a.now c.args.b.now (replicate 2048 4294967295) c.compare_over.new.table c.compare_over.result _ c.compare_over.ensures (λ same is. cc)
