use Rattle.std.proofs.Common.{◌+◌, ◌∙◌, length, min, rules, tests}
use Rattle.std.proofs.lemmas.Iterator.{YieldsList-from_slice}
use Rattle.std.proofs.lemmas.Iterator.Consumers.{fold_from_yields_List}
use Rattle.catalogues.proofs.Runs.{capped-total}
use Rattle.catalogues.proofs.model.Model.used.Goals as goal

pub returns : goal.returns
returns c =
    fold_from_yields_List _ (λ u r. min (u + length r.now) 18446744073709551615) 0 c.fold.result c.fold.ensures.ran (YieldsList-from_slice c.args.self.now.runs.items (cc)) (λ a x b q k. search (rules, tests))
    ∙ capped-total _ _
