use Rattle.scripts.proofs.Words.{piece-reads}
use Rattle.scripts.proofs.pieces.read_piece.Goals as goal

pub returns : goal.returns
returns c = piece-reads _ _ _ c.next.result _ _ c.next.ensures.steps c.missing.ensures c.ok_or.ensures.value
