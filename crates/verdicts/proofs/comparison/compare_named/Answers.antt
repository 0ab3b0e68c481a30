use Rattle.std.proofs.Common.{refl, subst}
use Rattle.verdicts.specs.Names.{FoundAs}
use Rattle.verdicts.proofs.comparison.compare_named.Goals as goal

pub returns : goal.returns
returns c =
    let names = c.in_ok-names.ensures in
    let first = subst (FoundAs c.in_ok-names.names c.args.first.now) c.in_ok-one.ensures.ok_part c.get.ensures in
    let second = subst (FoundAs c.in_ok-names.names c.args.second.now) c.in_ok-other.ensures.ok_part c.get-2.ensures in
    (refl, refl, (c.in_ok-one.one.now, c.in_ok-other.other.now, rw names at first, rw names at second, rw (← c.as_slice.ensures.value, ← c.as_slice-2.ensures.value) c.compare_rules-answer.ensures))
