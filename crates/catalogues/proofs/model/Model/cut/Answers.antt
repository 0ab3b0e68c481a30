use Rattle.std.proofs.Common.{ℕ, List, Bor, map, sym, refl, ap, ◌∙◌, arith}
use Rattle.std.proofs.lemmas.List.{take-map}
use Rattle.catalogues.proofs.Runs.{length-row}
use Rattle.catalogues.proofs.model.Model.cut.Goals as goal

pub returns : goal.returns
returns c =
    let f : Bor (List ℕ) → List ℕ = λ r. r.now in
    let items = c.args.self.now.runs.items in (
      (
        omega (arith, length-row items, c.len.ensures, c.if-keep-len.false),
        ap (map f) c.truncate.ensures.items ∙ sym (take-map f c.args.keep items),
      ),
      (refl, refl),
    )
