use Rattle.std.proofs.Common.{◌≡◌, ℕ, ◌<◌}
use Rattle.rule.specs.Intake.{KidsPass}
use Rattle.rule.proofs.classes.check_classes.Given as goal

abbrev pub invariant-loop-node : goal.invariant-loop-node
invariant-loop-node l = record {
  rule : l.node-iterator.rule ≡ l.tree.rule;
  passed : (j : ℕ) → j < l.node-iterator.next → KidsPass l.tree.rule.words.now j;
}
