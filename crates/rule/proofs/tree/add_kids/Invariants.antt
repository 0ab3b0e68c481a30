use Rattle.std.proofs.Common.{length}
use Rattle.rule.specs.Tally.{flags}
use Rattle.rule.proofs.Adding.{Adding}
use Rattle.rule.proofs.tree.add_kids.Given as goal

abbrev pub invariant-loop-kid : goal.invariant-loop-kid
invariant-loop-kid l = Adding l.node.kids.now (length l.sizes) (flags l.initial.seen) (flags l.seen) l.sizes l.total l.kid-index
