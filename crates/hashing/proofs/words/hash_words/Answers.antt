use Rattle.std.proofs.Common.{◌≡◌, ◌+◌, get_or, drop}
use Rattle.std.proofs.lemmas.List.{at_drop_more, at_drop_all}
use Rattle.hashing.specs.Words.{fed_all}
use Rattle.hashing.proofs.words.hash_words.Goals as goal

pub loop-word-init : goal.loop-word-init
loop-word-init g c = cc

pub loop-word-preserved : goal.loop-word-preserved
loop-word-preserved g c =
    let m = g.H.Hasher in
    let xs = c.args.words.now in
    let i = c.loop-word.word-index in
    let e : fed_all m.fed c.loop-word.hasher (drop i xs) ≡ fed_all m.fed (m.fed c.loop-word.hasher (get_or xs i 0)) (drop (i + 1) xs) =
    at_drop_more (fed_all m.fed c.loop-word.hasher) xs i 0 c.loop-word-test.true in
    cc

pub returns : goal.returns
returns g c =
    let m = g.H.Hasher in
    let e : fed_all m.fed c.loop-word.hasher (drop c.loop-word.word-index c.args.words.now) ≡ c.loop-word.hasher =
    at_drop_all (fed_all m.fed c.loop-word.hasher) c.args.words.now c.loop-word.word-index c.loop-word-test.false in
    cc
