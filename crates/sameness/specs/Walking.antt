-- What the comparing functions know of two rules, and what they answer.
use Rattle.std.specs.Prelude.{◌≡◌, ℕ, ◌+◌, ◌<◌, ◌≤◌, Bool, true, false, List, [], ◌∷◌, length, slice_index}
use Rattle.trial.specs.Trials.{Extends}
use Rattle.rule.specs.Trees.{Tree, Forest, node, nil, cons, tree_at}
use Rattle.rule.specs.Scopes.{role, declared, used, decls, uses_of}
use Rattle.rule.specs.declared.nodes.Node.{Node}
use Rattle.sameness.specs.Reduction.{reduce, reduce_all}
use Rattle.sameness.specs.Deciding.{Table, blank, add, Outcome, fails, holds, and_then, given, direct_test, decide, decide_all, Shows}

-- the trees of these nodes, in their order
unfoldable pub trees_at : List ℕ → List ℕ → Forest
trees_at ws [] = nil
trees_at ws (x ∷ xs) = cons (tree_at ws x) (trees_at ws xs)

-- the children of a node, and its tree, reduced
abbrev pub kids_in : List ℕ → Node → Forest
kids_in ws k = reduce_all (trees_at ws k.kids.now)

abbrev pub tree_in : List ℕ → Node → Tree
tree_in ws k = node k.code k.v k.w (kids_in ws k)

-- no local of a tree is above 1023
abbrev pub Low : Tree → Type 0
Low t = (x : ℕ) → 1023 < x → decls x t + uses_of x t ≡ 0

-- a node whose children are nodes below top, their numbers in the run, with low locals in it and below it
pub record Held (ws : List ℕ) (k : Node) (top : ℕ) : Type 0 where
  pub within : k.first + length k.kids.now ≤ length ws
  pub stands : (q : ℕ) → q < length k.kids.now → slice_index k.kids.now q ≡ slice_index ws (k.first + q)
  pub below : (q : ℕ) → q < length k.kids.now → slice_index k.kids.now q < top
  pub low : (x : ℕ) → 1023 < x → declared x (role k.code k.v k.w) + used x (role k.code k.v k.w) ≡ 0
  pub kids_low : (q : ℕ) → q < length k.kids.now → Low (tree_at ws (slice_index k.kids.now q))

-- a table of locals below 1024
abbrev pub LowTable : Table → Type 0
LowTable blank = Unit {0}
LowTable (add a b P) = (a < 1024) × (b < 1024) × LowTable P

-- such a table in memory
pub record Pictured (P : Table) (t : List ℕ) : Type 0 where
  pub shows : Shows P t
  pub low : LowTable P

-- the answer r, with the table t then, is the outcome o
abbrev pub Answers : Bool → List ℕ → Outcome → Type 0
Answers true t o = (P : Table) × (o ≡ holds P) × Pictured P t
Answers false t o = o ≡ fails

-- a walk of two trees, or of their children, from the table t to the table t': it only adds pairs, and answers what the definition says
pub record Walked (o : Table → Outcome) (t t' : List ℕ) (r : Bool) : Type 0 where
  pub grows : Extends t t'
  pub answers : (P : Table) → Pictured P t → Answers r t' (o P)

-- the walks of two nodes by their numbers, of two nodes by what they come to, of the children of these as they stand, and of two pairs of trees one after the other
abbrev pub NodesWalked : List ℕ → ℕ → List ℕ → ℕ → List ℕ → List ℕ → Bool → Type 0
NodesWalked wa i wb j t t' r = Walked (λ P. decide (reduce (tree_at wa i)) (reduce (tree_at wb j)) P) t t' r

abbrev pub KindsWalked : List ℕ → Node → List ℕ → Node → List ℕ → List ℕ → Bool → Type 0
KindsWalked wa k wb m t t' r = Walked (λ P. decide (tree_in wa k) (tree_in wb m) P) t t' r

abbrev pub KidsWalked : List ℕ → Node → List ℕ → Node → List ℕ → List ℕ → Bool → Type 0
KidsWalked wa k wb m t t' r = Walked (λ P. decide_all (kids_in wa k) (kids_in wb m) P) t t' r

abbrev pub BothWalked : Tree → Tree → Tree → Tree → List ℕ → List ℕ → Bool → Type 0
BothWalked a b u v t t' r = Walked (λ P. and_then (decide (reduce a) (reduce u) P) (λ Q. decide (reduce b) (reduce v) Q)) t t' r

-- a node of another code than c
abbrev pub Not : ℕ → Node → Type 0
Not c k = k.code ≡ c → ⊥

-- a node that is read one way and links no locals: no binary expression (14), no binding (41) and no path (70)
pub record IsPlain (k : Node) : Type 0 where
  pub not_binary : Not 14 k
  pub not_binding : Not 41 k
  pub not_path : Not 70 k

-- the reading of a binary expression as it stands fails
abbrev pub FirstFails : List ℕ → Node → List ℕ → Node → List ℕ → Type 0
FirstFails wa l wb r t = (P : Table) → Pictured P t → given (direct_test l.code l.v l.w r.code r.v r.w) (decide_all (kids_in wa l) (kids_in wb r) P) ≡ fails
