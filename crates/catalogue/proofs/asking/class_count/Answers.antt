use Rattle.hashing.specs.Words.{hash_by}
use Rattle.catalogue.proofs.Promised.{promised}
use Rattle.catalogue.proofs.asking.class_count.Goals as goal

pub returns-clause-promise : goal.returns-clause-promise
returns-clause-promise g c =
    let m = g.K.Kind in
    let met = g.met.K.Kind in
    let v = c.args.kind.now in
    rw (← c.cat.view_is)
    (λ h past. promised m.meets m.same m.feed g.K.Fault.Numbered.number met.one_fault v
    (λ f. record { reflexive = met.reflexive v; symmetric = met.symmetric v; transitive = met.transitive v })
    (hash_by g.H.Hasher) h
    _ past)
