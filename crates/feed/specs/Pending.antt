-- What is still to be fed while a node is walked with a stack.
use Rattle.std.specs.Prelude.{◌≡◌, ℕ, ◌<◌, ◌≤◌, min, max, Some, None, Option, List, length, drop, flat_map, slice_index, slice_index_or}
use Rattle.rule.specs.Trees.{tree_at}
use Rattle.rule.specs.declared.nodes.Node.{Node}
use Rattle.sameness.specs.declared.kind.Kind.{Kind}
use Rattle.sameness.specs.Reduction.{reduce}
use Rattle.feed.specs.declared.operands.Operands.{Operands}
use Rattle.feed.specs.declared.walk.Frame.{Frame}
use Rattle.feed.specs.declared.way.Way.{Way}
use Rattle.feed.specs.declared.way.Way.TheVariants.{Direct, Exchanged, ByHash}
use Rattle.feed.specs.Feed.{feed}
use Rattle.feed.specs.Nodes.{node_at}
use Rattle.feed.specs.Ways.{way_of, walked}

-- what node i feeds
unfoldable pub node_feed : (List ℕ → ℕ) → List ℕ → ℕ → List ℕ
node_feed f ws i = feed f (reduce (tree_at ws i))

-- its hash
unfoldable pub node_hash : (List ℕ → ℕ) → List ℕ → ℕ → ℕ
node_hash f ws i = f (node_feed f ws i)

-- what the children of a node feed that are left, where q are done
unfoldable pub left : (List ℕ → ℕ) → List ℕ → Node → ℕ → List ℕ
left f ws n q = flat_map (node_feed f ws) (drop q (walked n))

-- what is left under the frames of a stack, the last of them first
abbrev pub pending : (List ℕ → ℕ) → List ℕ → List Kind → List Frame → List ℕ
pending f ws ks frames = flat_map (λ frame. left f ws (node_at ws ks frame.node) frame.done) frames

-- the hashes of the two operands of a node
unfoldable pub operands_of : (List ℕ → ℕ) → List ℕ → Node → Operands
operands_of f ws n =
    let a = node_hash f ws (slice_index n.kids.now 0) in
    let b = node_hash f ws (slice_index n.kids.now 1) in
    record { smaller = min a b; larger = max a b }

-- of an Eq or a Ne these are noted, and of any other node nothing
abbrev pub noted_by : Way → Operands → Option Operands
noted_by Direct o = None
noted_by Exchanged o = None
noted_by ByHash o = Some o

abbrev pub noted_of : (List ℕ → ℕ) → List ℕ → Node → Option Operands
noted_of f ws n = noted_by (way_of n) (operands_of f ws n)

-- what is noted of node i
abbrev pub operands_in : List (Option Operands) → ℕ → Option Operands
operands_in os i = slice_index_or os i None

-- it is noted of the first nodes, as many as os has places
pub record AllNoted (f : List ℕ → ℕ) (ws : List ℕ) (ks : List Kind) (os : List (Option Operands)) : Type 0 where
  pub few : length os ≤ length ks
  pub each : (i : ℕ) → i < length os → operands_in os i ≡ noted_of f ws (node_at ws ks i)
