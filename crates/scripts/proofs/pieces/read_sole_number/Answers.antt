use Rattle.tables.specs.Pieces.{left}
use Rattle.scripts.proofs.Numbers.{alone_sole, alone-missing, alone-more}
use Rattle.scripts.proofs.Soles.{handed, passed}
use Rattle.scripts.proofs.pieces.read_sole_number.Goals as goal

pub returns-in_err-number : goal.returns-in_err-number
returns-in_err-number c =
    handed _ _ _ c.from_residual.result c.in_err-number.field-0.0 c.from_residual.ensures.1
    (passed _ _ _ _ (alone-missing (left c.args.pieces)) c.in_err-number.ensures)

pub returns-in_err-read_end : goal.returns-in_err-read_end
returns-in_err-read_end c =
    handed _ _ _ c.from_residual-in_err-read_end.result c.in_err-read_end.field-0.0 c.from_residual-in_err-read_end.ensures.1
    (passed _ _ _ _ (alone-more (left c.args.pieces) (left c.read_number.new.pieces) c.in_ok-number.number c.in_ok-number.ensures) c.in_err-read_end.ensures)

pub returns : goal.returns
returns c = alone_sole (left c.args.pieces) (left c.read_number.new.pieces) c.in_ok-number.number c.in_ok-number.ensures c.in_ok-read_end.ensures.holds
