use Rattle.feed.proofs.hash_law.Goals as goal
use Rattle.feed.proofs.Theorems.{hash-law, one-hash}

pub returns : goal.returns
returns c = record { law = hash-law; pair = one-hash }
