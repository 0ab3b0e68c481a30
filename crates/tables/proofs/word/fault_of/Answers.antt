use Rattle.std.proofs.Common.{rules, tests, sym, ◌∙◌, arith, false-eqb}
use Rattle.std.specs.Char.{is_digit}
use Rattle.std.proofs.lemmas.Iterator.Adapters.{YieldsList-from_bytes}
use Rattle.std.proofs.lemmas.Iterator.Search.{all_from_yields_List}
use Rattle.tables.proofs.Numbers.{no-digits, numeral}
use Rattle.tables.proofs.word.fault_of.Goals as goal

pub returns-then-all : goal.returns-then-all
returns-then-all c =
    let told = all_from_yields_List (λ b. is_digit b c.args.radix) _ _ c.all.result c.all.ensures.ran (YieldsList-from_bytes c.args.digits.now cc) (λ x b q k. search (rules, tests)) in
    let n = numeral c.args.radix c.args.digits.now (omega (arith, false-eqb _ 0 c.if-is_empty.ensures)) (sym told ∙ c.if-all.true) in
    (n, c.requires.no_word n)

pub returns-else-all : goal.returns-else-all
returns-else-all c =
    let told = all_from_yields_List (λ b. is_digit b c.args.radix) _ _ c.all.result c.all.ensures.ran (YieldsList-from_bytes c.args.digits.now cc) (λ x b q k. search (rules, tests)) in
    no-digits c.args.radix c.args.digits.now (sym told ∙ c.if-all.false)
