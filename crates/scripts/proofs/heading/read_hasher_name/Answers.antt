use Rattle.tables.specs.Pieces.{left}
use Rattle.scripts.proofs.Soles.{handed, passed}
use Rattle.scripts.proofs.Headed.{named-sole, named_more}
use Rattle.scripts.proofs.heading.read_hasher_name.Goals as goal

pub returns-in_err-read_end : goal.returns-in_err-read_end
returns-in_err-read_end c =
    handed _ _ _ c.from_residual-in_err-read_end.result c.in_err-read_end.field-0.0 c.from_residual-in_err-read_end.ensures.1
    (passed _ _ _ _ (named_more (left c.args.pieces) (left c.read_named.new.pieces) c.in_ok-hasher.hasher c.in_ok-hasher.ensures) c.in_err-read_end.ensures)

pub returns : goal.returns
returns c = named-sole (left c.args.pieces) (left c.read_named.new.pieces) c.in_ok-hasher.hasher c.in_ok-hasher.ensures c.in_ok-read_end.ensures.holds
