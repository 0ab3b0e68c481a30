use Rattle.std.proofs.Common.{sym, ap, ◌∙◌, below_more}
use Rattle.rule.specs.Format.{admitted}
use Rattle.rule.proofs.Fitting.{rowed, class-is}
use Rattle.rule.proofs.classes.check_kids.Goals as goal

pub unwrap-found-requires : goal.unwrap-found-requires
unwrap-found-requires c = rw c.row-in-loop-q.ensures (rowed _ _ c.args.rule.read _ _ c.known_node.ensures c.requires.worded (c.requires.kids c.loop-q.q c.loop-q-test.true))

pub loop-q-preserved : goal.loop-q-preserved
loop-q-preserved c = below_more _ _ c.loop-q.invariant (ap (admitted _) (sym (class-is _ _ c.args.rule.read _ _ c.known_node.ensures _ (sym c.row-in-loop-q.ensures ∙ c.unwrap-found.ensures))) ∙ sym c.if-not-admits.ensures)
