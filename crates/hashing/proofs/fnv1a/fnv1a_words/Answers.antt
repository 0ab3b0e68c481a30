use Rattle.std.proofs.Common.{◌∙◌}
use Rattle.hashing.specs.Fnv1a.{fnv1a_start}
use Rattle.hashing.proofs.Runs.{words-as-bytes}
use Rattle.hashing.proofs.fnv1a.fnv1a_words.Goals as goal

pub returns : goal.returns
returns c = c.hash_words.ensures ∙ words-as-bytes (record { state = fnv1a_start }) c.args.words.now
