use Rattle.tables.specs.Pieces.{left}
use Rattle.scripts.specs.Headings.{LabelTo, kind_word}
use Rattle.scripts.specs.Parts.{WordTo}
use Rattle.scripts.specs.declared.label.Label.TheVariants.{Catalogue}
use Rattle.scripts.proofs.Soles.{first-none, handed, passed, then-reads}
use Rattle.scripts.proofs.heading.read_kind.Goals as goal

pub returns-in_err-read_label : goal.returns-in_err-read_label
returns-in_err-read_label c =
    handed _ _ _ c.from_residual.result c.in_err-read_label.field-0.0 c.from_residual.ensures.1
    (passed _ _ _ _ (first-none (LabelTo Catalogue (left c.args.pieces.now)) (WordTo kind_word)) c.in_err-read_label.ensures)

pub returns : goal.returns
returns c =
    then-reads (LabelTo Catalogue (left c.args.pieces.now)) (WordTo kind_word) c.args.line.number _ (left c.read_label.new.pieces) c.read_named.result c.in_ok-read_label.ensures c.read_named.ensures
