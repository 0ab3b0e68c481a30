use Rattle.std.proofs.Common.{arith}
use Rattle.rule.proofs.Laid.{take_within}
use Rattle.sameness.proofs.reducing.Reduced.kinds.Goals as goal

pub returns-clause-first : goal.returns-clause-first
returns-clause-first c = take_within c.args.self.now.kinds c.args.self.now.count _ (omega arith)
