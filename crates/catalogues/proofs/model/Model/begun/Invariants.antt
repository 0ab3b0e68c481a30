use Rattle.std.proofs.Common.{min}
use Rattle.catalogue.specs.Classes.{Begun}
use Rattle.catalogues.specs.Naive.{names, runs_of}
use Rattle.catalogues.proofs.model.Model.begun.Given as goal

abbrev pub invariant-loop-i : goal.invariant-loop-i
invariant-loop-i l = Begun names (runs_of l.self) (min l.i l.n) l.begun
