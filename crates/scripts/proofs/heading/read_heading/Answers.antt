use Rattle.scripts.proofs.Soles.{handed, passed}
use Rattle.scripts.proofs.Headed.{no_kind, no-slots, no-units, no-hasher, whole-heading}
use Rattle.scripts.proofs.heading.read_heading.Goals as goal

pub returns-in_err-kind : goal.returns-in_err-kind
returns-in_err-kind c =
    handed _ _ _ c.from_residual.result c.in_err-kind.field-0.0 c.from_residual.ensures.1
    (passed _ _ _ _ (no_kind c.args.text.now) (rw c.new-pieces.ensures at c.in_err-kind.ensures))

pub returns-in_err-slots : goal.returns-in_err-slots
returns-in_err-slots c =
    handed _ _ _ c.from_residual-in_err-slots.result c.in_err-slots.field-0.0 c.from_residual-in_err-slots.ensures.1
    (passed _ _ _ _ (no-slots c.args.text.now _ _ (rw c.new-pieces.ensures at c.in_ok-kind.ensures)) c.in_err-slots.ensures)

pub returns-in_err-units : goal.returns-in_err-units
returns-in_err-units c =
    handed _ _ _ c.from_residual-in_err-units.result c.in_err-units.field-0.0 c.from_residual-in_err-units.ensures.1
    (passed _ _ _ _ (no-units c.args.text.now _ _ (rw c.new-pieces.ensures at c.in_ok-kind.ensures) _ _ c.in_ok-slots.ensures) c.in_err-units.ensures)

pub returns-in_err-hasher : goal.returns-in_err-hasher
returns-in_err-hasher c =
    handed _ _ _ c.from_residual-in_err-hasher.result c.in_err-hasher.field-0.0 c.from_residual-in_err-hasher.ensures.1
    (passed _ _ _ _ (no-hasher c.args.text.now _ _ (rw c.new-pieces.ensures at c.in_ok-kind.ensures) _ _ c.in_ok-slots.ensures _ _ c.in_ok-units.ensures) c.in_err-hasher.ensures)

pub returns : goal.returns
returns c =
    whole-heading c.args.text.now _ _ (rw c.new-pieces.ensures at c.in_ok-kind.ensures) _ _ c.in_ok-slots.ensures _ _ c.in_ok-units.ensures c.in_ok-hasher.hasher c.in_ok-hasher.ensures
