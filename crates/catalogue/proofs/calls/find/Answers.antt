use Rattle.std.proofs.Common.{sym, ap}
use Rattle.hashing.specs.Words.{hash_by}
use Rattle.catalogue.specs.Numbers.{Numbers}
use Rattle.catalogue.proofs.calls.find.Goals as goal

pub returns-clause-done : goal.returns-clause-done
returns-clause-done g c =
    let f = hash_by g.H.Hasher in
    let sound = c.in_ok-intake.ensures.sound in
    (sound, λ intact. c.first_same.ensures.first f c.args.cat.now (ap (λ (a : Numbers). a.standing) (sym c.cat.view_is)) intact sound (c.hash-hash.ensures sound))
