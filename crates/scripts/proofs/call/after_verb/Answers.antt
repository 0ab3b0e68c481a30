use Rattle.tables.specs.Pieces.{left}
use Rattle.std.proofs.Common.{true, [], ◌∷◌, rules, sym, subst}
use Rattle.tables.specs.Pieces.{Blanks, Run}
use Rattle.scripts.specs.Calls.{AfterVerb, counts, cuts, classes, hashes, runs, told}
use Rattle.scripts.specs.Readings.{Reads}
use Rattle.scripts.proofs.Soles.{end-reads, made-reads}
use Rattle.scripts.proofs.call.after_verb.Goals as goal

pub returns-in-Cut : goal.returns-in-Cut
returns-in-Cut c =
    subst (λ v. Reads c.args.line.number told (AfterVerb c.args.limit v (left c.args.pieces)) c.map-in-Cut.result) (sym c.in-Cut.is)
    (made-reads c.args.line.number told cuts (λ k. Run (left c.args.pieces) (k ∷ [])) c.read_sole_number.result c.map-in-Cut.result _ (λ k x made. search rules) c.map-in-Cut.ensures.cases c.read_sole_number.ensures)

pub returns-in-Class : goal.returns-in-Class
returns-in-Class c =
    subst (λ v. Reads c.args.line.number told (AfterVerb c.args.limit v (left c.args.pieces)) c.map-in-Class.result) (sym c.in-Class.is)
    (made-reads c.args.line.number told classes (λ k. Run (left c.args.pieces) (k ∷ [])) c.read_sole_number-in-Class.result c.map-in-Class.result _ (λ k x made. search rules) c.map-in-Class.ensures.cases c.read_sole_number-in-Class.ensures)

pub returns-in-Hash : goal.returns-in-Hash
returns-in-Hash c =
    subst (λ v. Reads c.args.line.number told (AfterVerb c.args.limit v (left c.args.pieces)) c.map-in-Hash.result) (sym c.in-Hash.is)
    (made-reads c.args.line.number told hashes (λ k. Run (left c.args.pieces) (k ∷ [])) c.read_sole_number-in-Hash.result c.map-in-Hash.result _ (λ k x made. search rules) c.map-in-Hash.ensures.cases c.read_sole_number-in-Hash.ensures)

pub returns-in-Run : goal.returns-in-Run
returns-in-Run c =
    subst (λ v. Reads c.args.line.number told (AfterVerb c.args.limit v (left c.args.pieces)) c.map-in-Run.result) (sym c.in-Run.is)
    (made-reads c.args.line.number told runs (λ k. Run (left c.args.pieces) (k ∷ [])) c.read_sole_number-in-Run.result c.map-in-Run.result _ (λ k x made. search rules) c.map-in-Run.ensures.cases c.read_sole_number-in-Run.ensures)

pub returns-in-Count : goal.returns-in-Count
returns-in-Count c =
    subst (λ v. Reads c.args.line.number told (AfterVerb c.args.limit v (left c.args.pieces)) c.map-in-Count.result) (sym c.in-Count.is)
    (end-reads counts (Blanks true (left c.args.pieces)) c.args.line.number told c.read_end.result c.map-in-Count.result _ (λ u x made. search rules) c.map-in-Count.ensures.cases c.read_end.ensures)
