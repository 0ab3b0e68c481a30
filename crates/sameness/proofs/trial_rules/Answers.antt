use Rattle.sameness.proofs.trial_rules.Goals as goal
use Rattle.sameness.proofs.Trials.{trial-rules}

pub returns : goal.returns
returns c = trial-rules
