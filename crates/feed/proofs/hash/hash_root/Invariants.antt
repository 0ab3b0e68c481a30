use Rattle.hashing.specs.Words.{hash_by}
use Rattle.feed.proofs.Roots.{NotedSoFar}
use Rattle.feed.proofs.hash.hash_root.Given as goal

-- the hashes are noted of the nodes so far
abbrev pub invariant-loop-kind : goal.invariant-loop-kind
invariant-loop-kind g l = let m = g.H.Hasher in
    NotedSoFar (hash_by m) l.words l.kinds l.noted l.kind-index
