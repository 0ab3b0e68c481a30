use Rattle.std.proofs.Common.{◌≡◌, ℕ, ◌<◌, length}
use Rattle.sameness.specs.Reducing.{NodeReduced, kind_in}
use Rattle.sameness.proofs.reducing.reduce_into.Given as goal

-- the nodes so far are reduced
abbrev pub invariant-loop-number : goal.invariant-loop-number
invariant-loop-number l = record { long : length l.reduced.kinds ≡ 2048; each : (j : ℕ) → j < l.number → NodeReduced l.words j (kind_in l.reduced.kinds j) }
