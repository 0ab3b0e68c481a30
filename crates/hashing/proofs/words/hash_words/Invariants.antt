use Rattle.std.proofs.Common.{◌≡◌, drop}
use Rattle.hashing.specs.Words.{fed_all}
use Rattle.hashing.proofs.words.hash_words.Given as goal

-- what is left to feed leads to the state after all
abbrev pub invariant-loop-word : goal.invariant-loop-word
invariant-loop-word g l = let m = g.H.Hasher in
    fed_all m.fed l.hasher (drop l.word-index l.words) ≡ fed_all m.fed m.begun l.words
