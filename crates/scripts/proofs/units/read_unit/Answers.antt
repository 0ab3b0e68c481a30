use Rattle.std.proofs.Common.{◌<◌, arith}
use Rattle.scripts.specs.Parts.{UnitAt}
use Rattle.scripts.specs.Readings.{NoneIs}
use Rattle.scripts.proofs.Numbers.{unit-bad, unit-above}
use Rattle.scripts.proofs.Soles.{refused}
use Rattle.scripts.proofs.units.read_unit.Goals as goal
use Rattle.scripts.proofs.units.read_unit.Goals.{in_default-via-in-Ok+else-word-limit, in_default-via-in_default}

pub returns-in_default : goal.returns-in_default
returns-in_default c =
    let none : NoneIs (UnitAt c.args.limit c.args.piece.now) = elim c.in_default.branch [
      | in_default-via-in-Ok+else-word-limit w ↦
          let above : c.args.limit < w.in-Ok.word = omega (arith, w.if-word-limit.false) in
          unit-above c.args.limit c.args.piece.now w.in-Ok.word w.in-Ok.ensures.cases.0 above
      | in_default-via-in_default w ↦ unit-bad c.args.limit c.args.piece.now w.in_default.field-0 w.in_default.ensures.cases
    ] in
    refused _ _ _ c.found.ensures none
