use Rattle.kinds.proofs.Promising.{rule-promise}
use Rattle.kinds.proofs.rules.class_count.Goals as goal

pub returns : goal.returns
returns g c = record { count = c.class_count.ensures.count; promise = λ h past. rule-promise _ h _ _ (c.class_count.ensures.promise h past); bounded = c.class_count.ensures.bounded }
