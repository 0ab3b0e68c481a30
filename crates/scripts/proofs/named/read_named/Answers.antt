use Rattle.std.proofs.Common.{rules}
use Rattle.tables.specs.Pieces.{left}
use Rattle.scripts.proofs.Soles.{handed, passed}
use Rattle.scripts.proofs.Words.{word-missing, word-reads}
use Rattle.scripts.proofs.named.read_named.Goals as goal

pub returns-in_err-piece : goal.returns-in_err-piece
returns-in_err-piece g c =
    handed _ _ _ c.from_residual.result c.in_err-piece.field-0.0 c.from_residual.ensures.1
    (passed _ _ _ _ (word-missing g.T.Named.spelling (left c.args.pieces.now)) c.in_err-piece.ensures)

pub returns : goal.returns
returns g c =
    word-reads g.T.Named.spelling (left c.args.pieces.now) g.met.T.Named.apart c.args.line.number c.in_ok-piece.piece.now (left c.read_piece.new.pieces) c.parse.result c.map_err.result _ c.in_ok-piece.ensures.holds
    (g.met.T.Named.reads _ c.parse.result c.parse.ensures.value) (λ e f made. search rules) c.map_err.ensures.cases
