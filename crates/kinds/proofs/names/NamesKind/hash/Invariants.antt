use Rattle.std.proofs.Common.{◌≡◌, ◌∷◌, length, drop}
use Rattle.hashing.specs.Words.{fed_all}
use Rattle.kinds.proofs.names.NamesKind.hash.Given as goal

-- what is left to feed, from here
abbrev pub invariant-loop-byte : goal.invariant-loop-byte
invariant-loop-byte g l = let m = g.H.Hasher in
    fed_all m.fed l.hasher (drop l.byte-index l.run) ≡ fed_all m.fed m.begun (length l.run ∷ l.run)
