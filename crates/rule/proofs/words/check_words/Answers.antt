use Rattle.std.proofs.Common.{◌≡◌, Bool, true, false, is_some, refl, ap, rules, tests}
use Rattle.std.proofs.lemmas.Iterator.{cases_from_all}
use Rattle.std.proofs.lemmas.Iterator.Consumers.{YieldsList-at}
use Rattle.rule.specs.Lookup.{row_of}
use Rattle.rule.proofs.Fitting.{has-row}
use Rattle.rule.proofs.Yielded.{Head, yields-heads, each-head, some-head}
use Rattle.rule.proofs.words.check_words.Goals as goal

abbrev test : Head → Bool
test h = is_some (row_of h.code h.v h.w)

pub returns-then-all-clause-ok : goal.returns-then-all-clause-ok
returns-then-all-clause-ok c =
    let k = cases_from_all _ _ _ (λ h. test h ≡ true) (λ h. test h ≡ false) c.all.ensures.ran (YieldsList-at c.nodes.ensures (yields-heads c.args.rule)) (λ x q k. search (rules, tests)) (λ x q k. search (rules, tests)) in
    λ i h. has-row _ (each-head _ test true (rw c.if-all.true at k) i h)

pub returns-else-all-clause-err : goal.returns-else-all-clause-err
returns-else-all-clause-err c =
    let k = cases_from_all _ _ _ (λ h. test h ≡ true) (λ h. test h ≡ false) c.all.ensures.ran (YieldsList-at c.nodes.ensures (yields-heads c.args.rule)) (λ x q k. search (rules, tests)) (λ x q k. search (rules, tests)) in
    (refl, λ w. some-head _ test false (rw c.if-all.false at k) (λ i h. ap is_some (w i h).1))
