use Rattle.std.proofs.Common.{arith}
use Rattle.rule.proofs.Laid.{read_fits}
use Rattle.rule.proofs.nodes.Rule.known_node.Goals as goal

pub bounds-self-place : goal.bounds-self-place
bounds-self-place c = omega (arith, read_fits _ _ c.args.self.read c.args.i c.requires)
