use Rattle.tables.proofs.Sole.{no-piece}
use Rattle.scripts.proofs.Soles.{refused}
use Rattle.scripts.proofs.pieces.read_end.Goals as goal

pub returns-in-Some : goal.returns-in-Some
returns-in-Some c = refused _ _ _ c.found.ensures (λ u all. no-piece _ _ _ all c.in-Some.ensures.steps)
