-- The hash of a rule as an equation: what uses it need not open the definition.
use Rattle.std.proofs.Common.{◌≡◌, ℕ, List, refl}
use Rattle.rule.specs.Trees.{Tree}
use Rattle.sameness.specs.Reduction.{reduce}
use Rattle.feed.specs.Feed.{feed, hash_of}

pub hash-rule : (f : List ℕ → ℕ) (t : Tree) → hash_of f t ≡ f (feed f (reduce t))
unfolding hash_of
hash-rule f t = refl
