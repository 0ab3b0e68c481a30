use Rattle.std.proofs.Common.{◌≡◌, length}
use Rattle.sameness.proofs.Judging.{pictured-blank, judged-same, judged-differ}
use Rattle.sameness.proofs.compare.judge_rules.Goals as goal

pub returns-then-eq_node : goal.returns-then-eq_node
returns-then-eq_node c =
    let p = c.requires.first in
    let q = c.requires.second in
    judged-same _ _ _ _ c.args.x.rule.read c.args.y.rule.read p.sound q.sound _ _ p.last q.last _ _ (pictured-blank _ _ c.told-t c.clear.ensures) c.if-eq_node.ensures

pub returns : goal.returns
returns c =
    let p = c.requires.first in
    let q = c.requires.second in
    let l : length c.eq_node.new.t ≡ 2048 = c.eq_node.array_long in
    judged-differ _ _ _ _ c.args.x.rule.read c.args.y.rule.read p.sound q.sound _ _ p.last q.last _ _ _ (pictured-blank _ _ c.told-t c.clear.ensures) l c.clear-2.ensures c.if-eq_node.ensures
