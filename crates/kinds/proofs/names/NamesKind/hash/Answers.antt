use Rattle.std.proofs.Common.{◌≡◌, ◌+◌, get_or, drop}
use Rattle.std.proofs.lemmas.List.{at_drop_more, at_drop_all}
use Rattle.hashing.specs.Words.{fed_all}
use Rattle.kinds.proofs.names.NamesKind.hash.Goals as goal

pub loop-byte-init : goal.loop-byte-init
loop-byte-init g c = cc

pub loop-byte-preserved : goal.loop-byte-preserved
loop-byte-preserved g c =
    let m = g.H.Hasher in
    let bytes = c.args.run.now in
    let i = c.loop-byte.byte-index in
    let e : fed_all m.fed c.loop-byte.hasher (drop i bytes) ≡ fed_all m.fed (m.fed c.loop-byte.hasher (get_or bytes i 0)) (drop (i + 1) bytes) =
    at_drop_more (fed_all m.fed c.loop-byte.hasher) bytes i 0 c.loop-byte-test.true in
    cc

pub returns : goal.returns
returns g c _ =
    let m = g.H.Hasher in
    let e : fed_all m.fed c.loop-byte.hasher (drop c.loop-byte.byte-index c.args.run.now) ≡ c.loop-byte.hasher =
    at_drop_all (fed_all m.fed c.loop-byte.hasher) c.args.run.now c.loop-byte.byte-index c.loop-byte-test.false in
    cc
