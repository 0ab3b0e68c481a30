use Rattle.std.proofs.Common.{replicate}
use Rattle.rule.specs.declared.scopes.Mark.TheVariants.{Unmet}
use Rattle.rule.proofs.Marking.{ends-length, unmet}
use Rattle.rule.proofs.Judged.{judged}
use Rattle.rule.proofs.scopes.check_scopes.Goals as goal

pub returns-clause-ok : goal.returns-clause-ok
returns-clause-ok c = (judged _ _ _ _ c.args.tree.rule.read c.args.tree.sized c.root-root.ensures _ _ _ (ends-length (replicate 1024 Unmet)) (unmet 1024) c.walk_scopes.ensures).0

pub returns-clause-err : goal.returns-clause-err
returns-clause-err c = (judged _ _ _ _ c.args.tree.rule.read c.args.tree.sized c.root-root.ensures _ _ _ (ends-length (replicate 1024 Unmet)) (unmet 1024) c.walk_scopes.ensures).1
