use Rattle.std.proofs.Common.{true, IsUtf8, subst}
use Rattle.tables.proofs.Cuts.{Longest, cut_at, after-blanks}
use Rattle.tables.proofs.blanks.skip_blanks.Goals as goal
use Rattle.tables.proofs.blanks.skip_blanks.Goals.{After-run_len}

-- what `run_len` said of the bytes holds of the text
found : (c : After-run_len) → Longest true c.run_len.result c.args.text.now
found c =
    let told = c.run_len.ensures in
    subst (Longest true c.run_len.result) c.as_bytes.ensures.value (record { within = told.within; alike = told.alike; ends = told.ends })

pub split_at-requires : goal.split_at-requires
split_at-requires c = after-blanks c.args.text.now c.run_len.result (subst IsUtf8 c.as_bytes.ensures.value c.as_bytes.ensures.utf8) (found c)

pub returns : goal.returns
returns c = (c.split_at.result.0.now, cut_at true _ c.run_len.result _ _ (found (goal.at.returns c).After-run_len) c.split_at.ensures.front c.split_at.ensures.back)
