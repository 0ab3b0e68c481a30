use Rattle.std.proofs.Common.{◌≡◌, ◌+◌, ◌*◌, ◌≤◌, length, take}
use Rattle.rule.proofs.Laid.{Found}
use Rattle.rule.proofs.nodes.read_nodes.Given as goal

abbrev pub invariant-loop-rest : goal.invariant-loop-rest
invariant-loop-rest l = record { found : Found l.words (take l.count l.at) l.rest; few : 4 * l.count + length l.rest ≤ length l.words; long : length l.at ≡ 2048 }

abbrev pub decreases-loop-rest : goal.decreases-loop-rest
decreases-loop-rest l = length l.rest
