use Rattle.std.proofs.Common.{◌≡◌, rules, tests}
use Rattle.std.proofs.lemmas.Iterator.{IsFirst-from_position, YieldsList-from_slice}
use Rattle.tables.specs.Pieces.{blank}
use Rattle.tables.proofs.Cuts.{longest_first}
use Rattle.tables.proofs.blanks.run_len.Goals as goal

pub returns : goal.returns
returns c =
    let t = c.args.blanks in
    let first = IsFirst-from_position _ _ c.position.result (λ b. blank b ≡ t → ⊥) (λ b. blank b ≡ t) c.position.ensures.ran (YieldsList-from_slice c.args.bytes.now cc)
    (λ x q k. search (rules, tests)) (λ x q k. (search (rules, tests), search (rules, tests))) in
    let told = longest_first t c.args.bytes.now c.position.result first in
    rw c.unwrap_or.ensures (record { within = told.within; alike = told.alike; ends = told.ends })
