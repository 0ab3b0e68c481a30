use Rattle.std.proofs.Common.{◌≡◌}
use Rattle.rule.specs.Tally.{flags}
use Rattle.rule.proofs.Tallying.{Tallied}
use Rattle.rule.proofs.tree.check_tree.Given as goal

abbrev pub invariant-loop-node : goal.invariant-loop-node
invariant-loop-node l = record {
  rule : l.node-iterator.rule ≡ l.rule;
  tallied : Tallied l.rule.words.now l.rule.at.now (flags l.seen) l.sizes.items l.node-iterator.next;
}
