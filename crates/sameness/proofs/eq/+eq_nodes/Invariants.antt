use Rattle.std.proofs.Common.{◌+◌, ◌*◌, max, length}
use Rattle.sameness.proofs.Overs.{Going}
use Rattle.sameness.proofs.eq.+eq_nodes.Given as goal

abbrev pub decreases-both : goal.decreases-both
decreases-both l = 8 * max l.x0.number l.x1.number + 7

abbrev pub decreases-eq_node : goal.decreases-eq_node
decreases-eq_node l = 8 * l.x.number + 6

abbrev pub decreases-eq_binary : goal.decreases-eq_binary
decreases-eq_binary l = 8 * l.l.branch.number + 4

abbrev pub decreases-eq_reversed : goal.decreases-eq_reversed
decreases-eq_reversed l = 8 * l.l.branch.number + 3

abbrev pub decreases-over_words : goal.decreases-over_words
decreases-over_words l = 8 * l.l.branch.number + 1

abbrev pub decreases-over : goal.decreases-over
decreases-over l = 8 * l.l.branch.number

abbrev pub decreases-eq_block : goal.decreases-eq_block
decreases-eq_block l = 8 * l.l.branch.number + 5

abbrev pub decreases-eq_expr : goal.decreases-eq_expr
decreases-eq_expr l = 8 * l.l.branch.number + 5

abbrev pub decreases-eq_part : goal.decreases-eq_part
decreases-eq_part l = 8 * l.l.branch.number + 4

abbrev pub decreases-eq_pat : goal.decreases-eq_pat
decreases-eq_pat l = 8 * l.l.branch.number + 5

abbrev pub decreases-eq_qpath : goal.decreases-eq_qpath
decreases-eq_qpath l = 8 * l.l.branch.number + 5

abbrev pub decreases-eq_stmt : goal.decreases-eq_stmt
decreases-eq_stmt l = 8 * l.l.branch.number + 5

abbrev pub invariant-over-loop-x : goal.invariant-over-loop-x
invariant-over-loop-x l = Going l.l.branch.rule.words.now l.l.node l.r.branch.rule.words.now l.r.node l.initial.t l.t (length l.yielded)
