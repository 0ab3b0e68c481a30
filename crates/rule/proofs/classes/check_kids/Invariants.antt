use Rattle.std.proofs.Common.{◌≡◌, ℕ, ◌<◌, true, length, get_or}
use Rattle.rule.specs.Format.{admitted}
use Rattle.rule.specs.Lookup.{place_of}
use Rattle.rule.specs.Intake.{class_at}
use Rattle.rule.proofs.classes.check_kids.Given as goal

abbrev pub invariant-loop-q : goal.invariant-loop-q
invariant-loop-q l = (r : ℕ) → r < l.q → admitted (place_of l.row (length l.node.kids.now) r) (class_at l.rule.words.now (get_or l.node.kids.now r 0)) ≡ true
