use Rattle.std.proofs.Common.{◌≡◌, ◌≤◌, ◌++◌, length, drop, sym, arith}
use Rattle.sameness.proofs.Judging.{judged-front, front-long, tail-kept}
use Rattle.sameness.proofs.compare.compare.Goals as goal

pub returns : goal.returns
returns c =
    let both = c.in_ok-a.ensures in
    let judged = rw (c.root_of.ensures.words, c.root_of-2.ensures.words) at c.judge_rules.ensures in
    let h : 2048 ≤ length c.args.pairs.now = c.first_chunk_mut.ensures.variant.0 (sym c.in_ok-table.ensures.variant) in
    let e : length (c.judge_rules.new.t ++ drop 2048 c.args.pairs.now) ≡ length c.args.pairs.now = omega arith in
    let l : length c.judge_rules.new.t ≡ 2048 = front-long _ _ h e in
    (both.0.passes, both.1.passes, h, judged-front _ _ _ _ l c.judge_rules.result judged, tail-kept _ _ l h)
