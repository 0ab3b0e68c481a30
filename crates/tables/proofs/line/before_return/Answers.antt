use Rattle.std.proofs.Common.{ap, ◌∙◌, lit<}
use Rattle.std.proofs.lemmas.Str.Pattern.{strip_suffix_char}
use Rattle.tables.proofs.Endings.{stripped}
use Rattle.tables.proofs.line.before_return.Goals as goal

pub returns : goal.returns
returns c =
    ap (λ b. b.now) c.unwrap_or.ensures
    ∙ stripped c.strip_suffix.result c.args.text (strip_suffix_char 13 c.args.text.now c.strip_suffix.result c.strip_suffix.ensures.cases (lit< tt))
