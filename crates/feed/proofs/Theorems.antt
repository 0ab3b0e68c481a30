-- The theorems.
use Rattle.std.proofs.Common.{ap}
use Rattle.sameness.proofs.Trials.{trial-rules}
use Rattle.feed.specs.Feed.{hash_of}
use Rattle.feed.specs.Laws.{HashLaw, OneHash}
use Rattle.feed.proofs.Agreeing.{agree-feed}

pub hash-law : HashLaw
unfolding hash_of
hash-law f t u s = ap f (agree-feed f s.alike.agree)

pub one-hash : OneHash
one-hash f = hash-law f _ _ trial-rules.reversed
