-- A node as a run spells it, and the nodes of a rule one after the other.
use Rattle.std.specs.Prelude.{◌≡◌, ℕ, ◌+◌, ◌<◌, ◌≤◌, Bool, cond, ◌&&◌, List, length, Some, None, Option, ◌==◌, slice_index}
use Rattle.rule.specs.declared.comparison.Comparison.{Comparison}
use Rattle.rule.specs.declared.nodes.Node.{Node}
use Rattle.rule.specs.declared.nodes.NodeIter.{NodeIter}
use Rattle.rule.specs.declared.nodes.Rule.{Rule}
use Rattle.rule.specs.Comparisons.{comparison_of}
use Rattle.rule.specs.Run.{code_at, v_at, w_at, kids_at, kid_at}

-- the node that begins at o
pub record Spelt (ws : List ℕ) (o : ℕ) (n : Node) : Type 0 where
  pub code : n.code ≡ code_at ws o
  pub v : n.v ≡ v_at ws o
  pub w : n.w ≡ w_at ws o
  pub first : n.first ≡ o + 4
  pub count : length n.kids.now ≡ kids_at ws o
  pub each : (q : ℕ) → q < kids_at ws o → slice_index n.kids.now q ≡ kid_at ws o q

-- the local that a node declares: that of a binding (41)
abbrev pub declared_by : Node → Option ℕ
declared_by n = cond (n.code == 41) (Some n.v) None

-- the local that a node uses: that of a path to a local (70 with v 0)
abbrev pub local_of : Node → Option ℕ
local_of n = cond (n.code == 70 && n.v == 0) (Some n.w) None

-- the comparison that a node makes of its operands, if it is a binary expression (14) that compares
abbrev pub comparison_in : Node → Option Comparison
comparison_in n = cond (n.code == 14) (comparison_of n.v) None

-- a block (94) that is not unsafe
abbrev pub plain_block : Node → Bool
plain_block n = n.code == 94 && n.v == 0

---- the nodes of a rule

abbrev pub from_the_first : Rule → NodeIter
from_the_first r = record { rule = r; next = 0 }

-- the node whose number is next is given, and the one behind it is next
pub record GivesNode (s : NodeIter) (n : Node) (t : NodeIter) : Type 0 where
  pub inside : s.next < length s.rule.at.now
  pub spelt : Spelt s.rule.words.now (slice_index s.rule.at.now s.next) n
  pub rule : t.rule ≡ s.rule
  pub next : t.next ≡ s.next + 1

-- nothing is given behind the last node
abbrev pub NextNode : NodeIter → Option Node → NodeIter → Type 0
NextNode s None t = (length s.rule.at.now ≤ s.next) × (t ≡ s)
NextNode s (Some n) t = GivesNode s n t
