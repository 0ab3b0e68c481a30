use Rattle.std.proofs.Common.{vec_items, refl}
use Rattle.tables.specs.Rules.{lines}
use Rattle.scripts.specs.Calls.{told_all}
use Rattle.scripts.proofs.Narrowing.{narrow-enough}
use Rattle.scripts.proofs.script.read_text.Goals as goal

pub narrow_calls-requires : goal.narrow_calls-requires
narrow_calls-requires c =
    let told = c.in_ok-kind in
    narrow-enough (lines c.args.text.now) ((told.kind, told.heading), told_all (vec_items told.calls)) _ (vec_items told.calls) _
    told.ensures.holds refl c.in-Names.is c.as_slice.ensures.value
