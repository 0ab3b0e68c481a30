use Rattle.tables.proofs.Sole.{no_text}
use Rattle.tables.proofs.table.read_bytes.Goals as goal

pub returns-in_err-text_of-clause-keeps : goal.returns-in_err-text_of-clause-keeps
returns-in_err-text_of-clause-keeps c = λ u. absurd (no_text c.args.bytes.now c.in_err-text_of.ensures.0 c.in_err-text_of.ensures.1 u)
