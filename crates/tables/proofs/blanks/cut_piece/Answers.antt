use Rattle.std.proofs.Common.{false, subst}
use Rattle.tables.proofs.Cuts.{Longest, cut_at}
use Rattle.tables.proofs.blanks.cut_piece.Goals as goal

pub returns : goal.returns
returns c =
    let told = c.run_len.ensures in
    let run = subst (Longest false c.run_len.result) c.as_bytes.ensures.value (record { within = told.within; alike = told.alike; ends = told.ends }) in
    cut_at false _ c.run_len.result _ _ run c.split_at.ensures.front c.split_at.ensures.back
