use Rattle.std.proofs.Common.{refl}
use Rattle.catalogues.proofs.model.Model.find.Goals as goal

pub returns-in-Err : goal.returns-in-Err
returns-in-Err c = (c.in-Err.fault, c.number.ensures, ((c.in-Err.ensures.first, refl), (refl, refl)))
