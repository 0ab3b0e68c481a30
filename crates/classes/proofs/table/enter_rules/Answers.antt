use Rattle.std.proofs.Common.{◌+◌, [], length, vec_items, ap, ◌∙◌, subst, arith}
use Rattle.std.proofs.lemmas.List.{take_all, length_push}
use Rattle.catalogue.specs.Promise.{Reached}
use Rattle.catalogue.specs.States.{state}
use Rattle.hashing.specs.Words.{hash_by}
use Rattle.kinds.specs.Rules.{rules}
use Rattle.classes.specs.Tables.{enterings}
use Rattle.classes.proofs.Enterings.{entered-more}
use Rattle.classes.proofs.table.enter_rules.Goals as goal

pub loop-entry-preserved : goal.loop-entry-preserved
loop-entry-preserved g c =
    let f = hash_by g.H.Hasher in
    let pushed = c.in_ok-push.ensures.items in (
      ap length pushed ∙ length_push (vec_items c.loop-entry.answers) c.enter-answer.result ∙ ap (λ n. n + 1) c.loop-entry.invariant.0,
      entered-more (rules f) c.args.entries.now c.loop-entry.entry-index c.entry-item.result c.as_slice.result.now
          (vec_items c.loop-entry.answers) (vec_items c.push.new.self) c.enter-answer.result
          (state c.loop-entry.cat c.loop-entry.slots c.loop-entry.units) (state c.enter-answer.new.cat c.enter-answer.new.slots c.enter-answer.new.units)
          c.loop-entry-test.true c.entry-item.is c.as_slice.ensures.value c.loop-entry.invariant.0 pushed c.loop-entry.invariant.1 c.enter-answer.ensures.done,
    )

pub returns : goal.returns
returns g c =
    let f = hash_by g.H.Hasher in
    let all = take_all c.loop-entry.entry-index c.args.entries.now c.loop-entry-test.false in
    record {
      all = c.loop-entry.invariant.0 ∙ omega arith;
      reached = subst (λ es. Reached (rules f) (enterings [] es (vec_items c.loop-entry.answers)) (state c.loop-entry.cat c.loop-entry.slots c.loop-entry.units)) all c.loop-entry.invariant.1;
    }
