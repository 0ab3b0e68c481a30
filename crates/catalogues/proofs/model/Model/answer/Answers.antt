use Rattle.catalogues.proofs.Tried.{call-answered}
use Rattle.catalogues.proofs.model.Model.answer.Goals as goal

pub returns : goal.returns
returns c = rw c.unwrap_or.ensures (call-answered _ _ _ _ c.try_answer.ensures)
