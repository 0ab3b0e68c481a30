use Rattle.std.proofs.Common.{sym, arith}
use Rattle.trial.proofs.Recording.{placed-within}
use Rattle.trial.proofs.pairs.holds.Goals as goal

pub bounds-table-l : goal.bounds-table-l
bounds-table-l c =
    let w = placed-within c.args.table.now c.args.l c.args.r (sym c.if-not-has_places.ensures) in
    omega arith

pub bounds-table-r : goal.bounds-table-r
bounds-table-r c =
    let w = placed-within c.args.table.now c.args.l c.args.r (sym c.if-not-has_places.ensures) in
    omega arith
