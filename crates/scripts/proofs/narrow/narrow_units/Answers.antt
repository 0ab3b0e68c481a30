use Rattle.std.proofs.Common.{◌<◌, of_calls, rules, arith}
use Rattle.std.proofs.lemmas.Iterator.{YieldsList-from_slice}
use Rattle.std.proofs.lemmas.Iterator.Adapters.{serves_from_places}
use Rattle.std.proofs.lemmas.List.{get_or_default}
use Rattle.scripts.proofs.narrow.narrow_units.Goals as goal

pub collect-requires-clause-can : goal.collect-requires-clause-can
collect-requires-clause-can c =
    let units = c.args.units.now in (
      tt,
      serves_from_places (YieldsList-from_slice units cc) (λ x q k. search (rules, of_calls)) (λ x k within is.
          let low = c.requires k within in
          let fits : x.now < 256 = omega (arith, low, is, get_or_default units k x.now 0 within) in
          search rules),
    )
