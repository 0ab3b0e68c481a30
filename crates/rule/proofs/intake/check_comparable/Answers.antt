use Rattle.std.proofs.Common.{◌≡◌, Bool, true, false, refl, rules, tests}
use Rattle.std.proofs.lemmas.Iterator.{cases_from_any}
use Rattle.std.proofs.lemmas.Iterator.Consumers.{YieldsList-at}
use Rattle.rule.specs.Intake.{barred}
use Rattle.rule.proofs.Yielded.{Head, yields-heads, each-head, some-head}
use Rattle.rule.proofs.intake.check_comparable.Goals as goal

abbrev test : Head → Bool
test h = barred h.code

pub returns-then-any-clause-err : goal.returns-then-any-clause-err
returns-then-any-clause-err c =
    let k = cases_from_any _ _ _ (λ h. test h ≡ true) (λ h. test h ≡ false) c.any.ensures.ran (YieldsList-at c.nodes.ensures (yields-heads c.args.rule)) (λ x q k. search (rules, tests)) (λ x q k. search (rules, tests)) in
    (refl, some-head _ test true (rw c.if-any.true at k))

pub returns-clause-ok : goal.returns-clause-ok
returns-clause-ok c =
    let k = cases_from_any _ _ _ (λ h. test h ≡ true) (λ h. test h ≡ false) c.any.ensures.ran (YieldsList-at c.nodes.ensures (yields-heads c.args.rule)) (λ x q k. search (rules, tests)) (λ x q k. search (rules, tests)) in
    each-head _ test false (rw c.if-any.false at k)
