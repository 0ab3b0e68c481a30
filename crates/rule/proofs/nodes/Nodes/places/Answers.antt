use Rattle.std.proofs.Common.{arith}
use Rattle.rule.proofs.Laid.{take_within}
use Rattle.rule.proofs.nodes.Nodes.places.Goals as goal

pub returns : goal.returns
returns c = take_within c.args.self.now.at c.args.self.now.count _ (omega arith)
