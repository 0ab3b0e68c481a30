-- The laws of a kind under one hasher.
use Rattle.std.proofs.Common.{List}
use Rattle.catalogue.specs.Kinds.{Sense, Sound}

-- sameness is an equivalence of sound runs
pub record Lawful {U F : Type 0} (k : Sense U F) : Type 0 where
  pub reflexive : (a : List U) → Sound k a → k.same a a
  pub symmetric : (a b : List U) → Sound k a → Sound k b → k.same a b → k.same b a
  pub transitive : (a b c : List U) → Sound k a → Sound k b → Sound k c → k.same a b → k.same b c → k.same a c
