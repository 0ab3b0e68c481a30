use Rattle.std.proofs.Common.{arith}
use Rattle.rule.proofs.Laid.{node-some, read-nodes}
use Rattle.rule.proofs.nodes.Rule.root.Goals as goal

pub overflow_sub-result : goal.overflow_sub-result
overflow_sub-result c = omega (arith, node-some _ c.args.self.read.whole, read-nodes _ _ c.args.self.read)

pub returns : goal.returns
returns c = omega (arith, node-some _ c.args.self.read.whole, read-nodes _ _ c.args.self.read)
