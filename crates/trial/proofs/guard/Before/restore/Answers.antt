use Rattle.std.proofs.Common.{ℕ, ◌+◌, ◌<◌, List, length, take, sym, ◌∙◌, subst, arith}
use Rattle.std.proofs.lemmas.List.{set-get_or}
use Rattle.trial.proofs.Restoring.{RestoredTo, restored-held, restored-more, restored-places}
use Rattle.trial.proofs.guard.Before.restore.Goals as goal
use Rattle.trial.proofs.guard.Before.restore.Goals.{then-not-held, else-not-held}
use Rattle.trial.specs.Marks.{held}

pub loop-i-preserved : goal.loop-i-preserved
loop-i-preserved c =
    let f = held c.args.self.now.bits in
    let places : List ℕ = take c.places-end.result c.args.table.now in
    let P : List ℕ → Type 0 = λ t. RestoredTo f places t (c.loop-i.i + 1) in
    elim c.if-not-held.branch [
      | then-not-held w ↦
          let l : c.loop-i.i < length c.loop-i.place-items = omega arith in
          subst P (sym w.place-items-is)
          (restored-more f places c.loop-i.place-items c.loop-i.i l (sym w.if-not-held.ensures) c.loop-i.invariant)
      | else-not-held w ↦
          subst P (sym (w.place-items-is ∙ set-get_or c.loop-i.place-items c.loop-i.i 0))
          (restored-held f places c.loop-i.place-items c.loop-i.i (sym w.if-not-held.ensures) c.loop-i.invariant)
    ]

pub returns : goal.returns
returns c =
    restored-places c.args.self.now.bits c.args.table.now c.loop-i.place-items c.places-end.result c.loop-i.i c.places-end.ensures
    c.loop-i.auto.place-items c.loop-i-test.false c.loop-i.invariant
