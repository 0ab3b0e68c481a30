use Rattle.std.proofs.Common.{◌+◌, length, reverse}
use Rattle.hashing.specs.Words.{hash_by}
use Rattle.feed.specs.Pending.{pending}
use Rattle.feed.proofs.Stacks.{Walks}
use Rattle.feed.proofs.walk.Noted.hash_node.Given as goal

abbrev pub invariant-loop-frame : goal.invariant-loop-frame
invariant-loop-frame g l = let m = g.H.Hasher in
    Walks m.fed m.begun (hash_by m) l.self.words.now l.self.kinds.now l.top (reverse l.stack.items) l.hasher

-- each turn feeds words, or takes a frame away
abbrev pub decreases-loop-frame : goal.decreases-loop-frame
decreases-loop-frame g l = let m = g.H.Hasher in
    length (pending (hash_by m) l.self.words.now l.self.kinds.now (reverse l.stack.items)) + length (reverse l.stack.items)
