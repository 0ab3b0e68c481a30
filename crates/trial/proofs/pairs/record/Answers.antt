use Rattle.std.proofs.lemmas.List.{length-set}
use Rattle.std.proofs.lemmas.Bool.{cond-true, cond-false}
use Rattle.trial.proofs.Recording.{placed-within}
use Rattle.trial.proofs.pairs.record.Goals as goal
use Rattle.trial.specs.Table.{placed, recorded}
use Rattle.std.proofs.Common.{sym, arith}

pub bounds-table-l : goal.bounds-table-l
bounds-table-l c =
    let w = placed-within c.args.table.now c.args.l c.args.r (sym c.if-has_places.ensures) in
    omega arith

pub bounds-table-r : goal.bounds-table-r
bounds-table-r c =
    let w = placed-within c.args.table.now c.args.l c.args.r (sym c.if-has_places.ensures) in
    omega (arith, length-set c.args.table.now c.args.l c.args.r)

pub returns-then-has_places : goal.returns-then-has_places
unfolding recorded
returns-then-has_places c =
    sym (cond-true (placed c.args.table.now c.args.l c.args.r) _ _ (sym c.if-has_places.ensures))

pub returns-else-has_places : goal.returns-else-has_places
unfolding recorded
returns-else-has_places c =
    sym (cond-false (placed c.args.table.now c.args.l c.args.r) _ _ (sym c.if-has_places.ensures))
