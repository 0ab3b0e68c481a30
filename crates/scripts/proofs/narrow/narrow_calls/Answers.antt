use Rattle.std.proofs.Common.{rules}
use Rattle.std.proofs.iter.Yields.{fronts}
use Rattle.tables.proofs.Gathered.{gathered}
use Rattle.scripts.proofs.Copied.{IsCopy, copied-calls}
use Rattle.scripts.proofs.narrow.narrow_calls.Goals as goal

pub returns : goal.returns
returns c =
    copied-calls c.iter.result c.args.calls.now c.try_collect.result c.iter.ensures.rest
    (gathered fronts _ _ IsCopy (λ b r h k. search rules) _ c.iter.result c.map.result c.try_collect.result
    c.map.ensures.closure c.map.ensures.source c.try_collect.ensures.ran c.try_collect.ensures.err)
