use Rattle.std.proofs.Common.{◌≡◌, ◌+◌, ◌-◌, arith}
use Rattle.std.proofs.lemmas.Bool.Decides.{nat_tests}
use Rattle.rule.specs.declared.scopes.Mark.TheVariants.{Unmet, UsableTo}
use Rattle.rule.specs.Marks.{at_declaration}
use Rattle.rule.proofs.Marking.{mark-is, ends-set}
use Rattle.rule.proofs.scopes.declare.Goals as goal

pub returns-in-Some-Unmet : goal.returns-in-Some-Unmet
unfolding at_declaration
returns-in-Some-Unmet c =
    let l = c.in-Some-Unmet.ensures.lookup.3 in
    let e = mark-is c.args.marks.now c.args.local _ Unmet (l.1 Unmet) c.in-Some-Unmet.field-0-is in
    let u : c.args.until - 1 + 1 ≡ c.args.until = omega (arith, c.requires) in
    rw (ends-set c.args.marks.now c.args.local (UsableTo (c.args.until - 1)), u) (grind (arith, nat_tests, l.0))
