use Rattle.tables.specs.Pieces.{left}
use Rattle.std.proofs.Common.{rules, subst}
use Rattle.tables.specs.Numerals.{ReadAs}
use Rattle.tables.proofs.Mapped.{given-err, given-ok}
use Rattle.scripts.specs.Readings.{Faulted}
use Rattle.scripts.proofs.Numbers.{number-sole, number-missing, number-bad}
use Rattle.scripts.proofs.Soles.{handed, passed, refused}
use Rattle.scripts.proofs.pieces.read_number.Goals as goal

pub returns-in_err-piece : goal.returns-in_err-piece
returns-in_err-piece c =
    handed _ _ _ c.from_residual.result c.in_err-piece.field-0.0 c.from_residual.ensures.1
    (passed _ _ _ _ (number-missing (left c.args.pieces.now)) c.in_err-piece.ensures)

pub returns-in_err-word : goal.returns-in_err-word
returns-in_err-word c =
    let (why, is, made) = given-err c.read_word.result c.map_err.result _ c.in_err-word.field-0.0 c.map_err.ensures.cases c.in_err-word.was in
    let told : Faulted c.args.line.number c.in_err-word.field-0.0 = search rules in
    let bad = subst (ReadAs c.in_ok-piece.piece.now) is c.read_word.ensures.cases in
    handed _ _ _ c.from_residual-in_err-word.result c.in_err-word.field-0.0 c.from_residual-in_err-word.ensures.1
    (refused _ _ _ told (number-bad (left c.args.pieces.now) c.in_ok-piece.piece.now (left c.read_piece.new.pieces) why c.in_ok-piece.ensures.holds bad))

pub returns : goal.returns
returns c =
    let is = given-ok c.read_word.result c.map_err.result _ c.in_ok-word.word c.map_err.ensures.cases c.in_ok-word.was in
    let good = subst (ReadAs c.in_ok-piece.piece.now) is c.read_word.ensures.cases in
    number-sole (left c.args.pieces.now) (c.in_ok-word.word, (left c.read_piece.new.pieces)) (c.in_ok-piece.piece.now, c.in_ok-piece.ensures.holds, good.0, good.1)
