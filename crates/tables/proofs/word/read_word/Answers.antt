use Rattle.std.proofs.Common.{◌≡◌, ◌∷◌, sym, ap, ◌∙◌}
use Rattle.tables.proofs.Numbers.{hexadecimal, decimal}
use Rattle.tables.proofs.word.read_word.Goals as goal

pub returns-in-Some-clause-cases : goal.returns-in-Some-clause-cases
returns-in-Some-clause-cases c =
    let cut = c.in-Some.ensures.cases in
    let digits = c.in-Some.digits.now in
    let begins : c.args.text.now ≡ 48 ∷ 120 ∷ digits = cut.1.1 ∙ ap (λ l. 48 ∷ 120 ∷ l) (sym cut.2) in
    hexadecimal _ digits c.read_digits.result begins c.read_digits.ensures

pub returns-in-None-clause-cases : goal.returns-in-None-clause-cases
returns-in-None-clause-cases c =
    decimal c.args.text.now c.read_digits-in-None.result (λ ds e. c.in-None.ensures.cases ds e) c.read_digits-in-None.ensures
