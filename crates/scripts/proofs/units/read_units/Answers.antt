use Rattle.std.proofs.Common.{rules}
use Rattle.tables.proofs.Gathered.{GivesPiece, gathered}
use Rattle.scripts.proofs.Listed.{IsUnit, units-read}
use Rattle.scripts.proofs.units.read_units.Goals as goal

pub returns : goal.returns
returns c =
    let limit = c.args.limit in
    let number = c.args.line.number in
    units-read limit number c.args.pieces c.try_collect.result
    (gathered GivesPiece _ _ (IsUnit limit number) (λ p r h k. search rules) _ c.args.pieces c.map.result c.try_collect.result
    c.map.ensures.closure c.map.ensures.source c.try_collect.ensures.ran c.try_collect.ensures.err)
