use Rattle.tables.specs.Pieces.{left}
use Rattle.std.proofs.Common.{not, ap, ◌∙◌}
use Rattle.scripts.proofs.Soles.{handed, passed}
use Rattle.scripts.proofs.Headed.{hasher-none, hasher-unlabelled, hasher-reads}
use Rattle.scripts.proofs.heading.read_hasher.Goals as goal

pub returns-then-is_none : goal.returns-then-is_none
returns-then-is_none c = hasher-none (left c.args.pieces) _ _ c.next.ensures.steps (c.is_none.ensures ∙ ap not c.if-is_none.true)

pub returns-in_err-read_label : goal.returns-in_err-read_label
returns-in_err-read_label c =
    handed _ _ _ c.from_residual.result c.in_err-read_label.field-0.0 c.from_residual.ensures.1
    (passed _ _ _ _ (hasher-unlabelled (left c.args.pieces) _ _ c.next.ensures.steps (c.is_none.ensures ∙ ap not c.if-is_none.false)) c.in_err-read_label.ensures)

pub returns : goal.returns
returns c = hasher-reads c.args.line.number (left c.args.pieces) (left c.read_label.new.pieces) c.read_hasher_name.result c.in_ok-read_label.ensures c.read_hasher_name.ensures
