-- The grounds on which a run is refused, each by what a run has that does not meet it.
use Rattle.std.specs.Prelude.{◌≡◌, ℕ, ◌+◌, ◌-◌, ◌<◌, ◌≤◌, Bool, true, false, ◌||◌, List, length, take, Some, None, Option, ◌==◌, slice_index}
use Rattle.rule.specs.declared.fault.Fault.{Fault}
use Rattle.rule.specs.declared.fault.Fault.TheVariants.{TooLong, CutShort, OutsideRow, NotATree, WrongClass, BadScope, SameAsNothing}
use Rattle.rule.specs.declared.nodes.Node.{Node}
use Rattle.rule.specs.declared.nodes.Nodes.{Nodes}
use Rattle.rule.specs.declared.rows.Class.{Class}
use Rattle.rule.specs.declared.rows.Class.TheVariants.{Absent}
use Rattle.rule.specs.declared.rows.Row.{Row}
use Rattle.rule.specs.Faults.{number_of}
use Rattle.rule.specs.Format.{admitted}
use Rattle.rule.specs.Lookup.{row_of, enough, place_of, root}
use Rattle.rule.specs.Run.{lacks, offsets, code_at, v_at, w_at, kids_at, kid_at, child_of}
use Rattle.rule.specs.Trees.{tree_of}
use Rattle.rule.specs.Scopes.{SoundScopes}

-- 1: not longer than 8,192 words
abbrev pub Short : List ℕ → Type 0
Short ws = length ws ≤ 8192

-- 2: not empty, and does not end inside a node
pub record Whole (ws : List ℕ) : Type 0 where
  pub some : 0 < length ws
  pub ended : lacks 0 ws ≡ 0

-- how many nodes a run has, and where node i begins
abbrev pub nodes : List ℕ → ℕ
nodes ws = length (offsets ws)

abbrev pub offset : List ℕ → ℕ → ℕ
offset ws i = slice_index (offsets ws) i

-- the row of the node that begins at o
abbrev pub row_at : List ℕ → ℕ → Option Row
row_at ws o = row_of (code_at ws o) (v_at ws o) (w_at ws o)

-- 3: each node's code has a row, and its words are within it
abbrev pub Worded : List ℕ → Type 0
Worded ws = (i : ℕ) → i < nodes ws → (r : Row) × (row_at ws (offset ws i) ≡ Some r)

-- 4: each child number is below its node's, and each node before the last is a child exactly once
pub record Treelike (ws : List ℕ) : Type 0 where
  pub below : (i q : ℕ) → i < nodes ws → q < kids_at ws (offset ws i) → kid_at ws (offset ws i) q < i
  pub once : (i : ℕ) → i + 1 < nodes ws → child_of i ws (offsets ws) ≡ 1

-- the class of node i
abbrev pub class_in : Option Row → Class
class_in None = Absent
class_in (Some r) = r.class

abbrev pub class_at : List ℕ → ℕ → Class
class_at ws i = class_in (row_at ws (offset ws i))

-- the children of the node that begins at o are as many as its row r has places for, and each is of its place's classes
pub record KidsFit (ws : List ℕ) (o : ℕ) (r : Row) : Type 0 where
  pub count : enough r (kids_at ws o) ≡ true
  pub each : (q : ℕ) → q < kids_at ws o → admitted (place_of r (kids_at ws o) q) (class_at ws (kid_at ws o q)) ≡ true

-- the children of node i fit its row
abbrev pub KidsPass : List ℕ → ℕ → Type 0
KidsPass ws i = (r : Row) → row_at ws (offset ws i) ≡ Some r → KidsFit ws (offset ws i) r

-- the same of a node by itself: its children fit its row
pub record KidsFitRow (ws : List ℕ) (n : Node) (r : Row) : Type 0 where
  pub count : enough r (length n.kids.now) ≡ true
  pub each : (q : ℕ) → q < length n.kids.now → admitted (place_of r (length n.kids.now) q) (class_at ws (slice_index n.kids.now q)) ≡ true

abbrev pub FitsItsRow : List ℕ → Node → Type 0
FitsItsRow ws n = (r : Row) → row_of n.code n.v n.w ≡ Some r → KidsFitRow ws n r

-- 5: children and root are of the rows' classes and counts
pub record Classed (ws : List ℕ) : Type 0 where
  pub kids : (i : ℕ) → i < nodes ws → KidsPass ws i
  pub rooted : root (class_at ws (nodes ws - 1)) ≡ true

-- 6: the scopes of the rule's tree are sound
abbrev pub Scoped : List ℕ → Type 0
Scoped ws = SoundScopes (tree_of ws)

-- a closure, a become, an error, an or-pattern and the never type are the same as nothing
abbrev pub barred : ℕ → Bool
barred c = c == 19 || (c == 35 || (c == 36 || (c == 50 || c == 67)))

-- 7: no code is the same as nothing
abbrev pub Comparable : List ℕ → Type 0
Comparable ws = (i : ℕ) → i < nodes ws → barred (code_at ws (offset ws i)) ≡ false

---- the grounds by their faults

abbrev pub Passes : Fault → List ℕ → Type 0
Passes TooLong ws = Short ws
Passes CutShort ws = Whole ws
Passes OutsideRow ws = Worded ws
Passes NotATree ws = Treelike ws
Passes WrongClass ws = Classed ws
Passes BadScope ws = Scoped ws
Passes SameAsNothing ws = Comparable ws

-- the fault's ground is met, and none with a lower number
pub record Refused (ws : List ℕ) (f : Fault) : Type 0 where
  pub met : Passes f ws → ⊥
  pub before : (g : Fault) → number_of g < number_of f → Passes g ws

-- no ground up to the number `most` is met, and the nodes are found where they begin
pub record Accepted (most : ℕ) (ws : List ℕ) (n : Nodes) : Type 0 where
  pub passes : (g : Fault) → number_of g ≤ most → Passes g ws
  pub places : take n.count n.at ≡ offsets ws
  pub few : n.count ≤ 2048

---- what the parts of the intake say

-- the places of the nodes of a run that passes 1 and 2
pub record Read (ws os : List ℕ) : Type 0 where
  pub places : os ≡ offsets ws
  pub short : Short ws
  pub whole : Whole ws
  pub few : length os ≤ 2048
