use Rattle.tables.specs.Pieces.{left}
use Rattle.std.proofs.Common.{sym, ◌∙◌}
use Rattle.std.proofs.lemmas.Bool.{both_ways}
use Rattle.std.proofs.lemmas.Slice.Eq.{bytes_eq-Decides}
use Rattle.scripts.proofs.Soles.{handed, passed, refused}
use Rattle.scripts.proofs.Words.{label-sole, label-missing, label-other}
use Rattle.scripts.proofs.label.read_label.Goals as goal

pub returns-in_err-piece : goal.returns-in_err-piece
returns-in_err-piece c =
    handed _ _ _ c.from_residual.result c.in_err-piece.field-0.0 c.from_residual.ensures.1
    (passed _ _ _ _ (label-missing c.args.label (left c.args.pieces.now)) c.in_err-piece.ensures)

pub returns-then-eq : goal.returns-then-eq
returns-then-eq c =
    label-sole c.args.label (left c.args.pieces.now) c.in_ok-piece.piece.now (left c.read_piece.new.pieces) c.in_ok-piece.ensures.holds
    ((bytes_eq-Decides _ _).0 (sym c.eq.ensures ∙ c.if-eq.true) ∙ c.word.ensures)

pub returns : goal.returns
returns c =
    refused _ _ _ c.found.ensures (label-other c.args.label (left c.args.pieces.now) c.in_ok-piece.piece.now (left c.read_piece.new.pieces) c.in_ok-piece.ensures.holds
    (λ e. both_ways _ c.if-eq.false (c.eq.ensures ∙ (bytes_eq-Decides _ _).1 (e ∙ sym c.word.ensures))))
