use Rattle.tables.proofs.Cuts.{trims}
use Rattle.tables.proofs.blanks.trim_blanks.Goals as goal

pub returns : goal.returns
returns c = trims _ _ _ _ c.skip_blanks.ensures.1 c.trim_end_matches.ensures.matches
