use Rattle.std.proofs.Common.{sym, ◌∙◌}
use Rattle.std.proofs.lemmas.Slice.Eq.{bytes_eq-Decides}
use Rattle.kinds.proofs.names.NamesKind.compare.Goals as goal

pub returns : goal.returns
returns c _ _ =
    let d = bytes_eq-Decides c.args.a.now c.args.b.now in
    (λ e. d.0 (sym c.eq.ensures ∙ e), λ same. c.eq.ensures ∙ d.1 same)
