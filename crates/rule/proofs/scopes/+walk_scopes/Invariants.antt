use Rattle.std.proofs.Common.{◌+◌, get_or}
use Rattle.rule.specs.Run.{kids_at}
use Rattle.rule.specs.Marks.{ends}
use Rattle.rule.proofs.Roles.{Walking}
use Rattle.rule.proofs.scopes.+walk_scopes.Given as goal

abbrev pub decreases-walk_scopes : goal.decreases-walk_scopes
decreases-walk_scopes l = l.i

abbrev pub invariant-loop-kid : goal.invariant-loop-kid
invariant-loop-kid l =
    let ws = l.tree.rule.words.now in
    let o = get_or l.tree.rule.at.now l.i 0 in
    Walking ws l.fork l.place l.until (o + 4) (kids_at ws o) (ends l.initial.marks) (ends l.marks) l.at l.kid-index
