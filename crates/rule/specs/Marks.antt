-- The walk of a rule's tree as steps, and what it has met of each local, as a number: 0 before the local is met; where it is
-- declared, the place in the walk at which the innermost operand of a comparison around the declaration ends (or the whole walk);
-- 65535 where it is used and was not declared before.
use Rattle.std.specs.Prelude.{◌≡◌, ℕ, ◌+◌, Bool, true, false, cond, List, [], ◌∷◌, ◌++◌, map, Ok, Err, Result, ◌==◌, nat_lt, slice_index, slice_set}
use Rattle.rule.specs.declared.fault.Fault.{Fault}
use Rattle.rule.specs.declared.scopes.Mark.{Mark}
use Rattle.rule.specs.declared.scopes.Mark.TheVariants.{Unmet, Free, UsableTo}
use Rattle.rule.specs.declared.fault.Fault.TheVariants.{BadScope}
use Rattle.rule.specs.Trees.{Tree, Forest, node, nil, cons}
use Rattle.rule.specs.Scopes.{Role, declares, uses, plain, role, compares}

unfoldable mutual
  pub size : Tree → ℕ
  size (node c v w ts) = size_all ts + 1

  pub size_all : Forest → ℕ
  size_all nil = 0
  size_all (cons t ts) = size t + size_all ts

-- the number that stands for what the walk has met of a local
abbrev pub end : Mark → ℕ
end Unmet = 0
end Free = 65535
end (UsableTo last) = last + 1

abbrev pub ends : List Mark → List ℕ
ends = map end

-- one step of the walk: what it does, and the place at which the operand around it ends
pub record Step : Type 0 where
  pub does : Role
  pub until : ℕ

-- the end of the operand around a child that ends at the place e
abbrev pub end_of : Bool → ℕ → ℕ → ℕ
end_of true e u = e
end_of false e u = u

-- the steps of a tree whose walk begins at the place p, in an operand that ends at u
unfoldable mutual
  pub steps : ℕ → ℕ → Tree → List Step
  steps p u (node c v w ts) = steps_all (compares c v) p u ts ++ (record { does = role c v w; until = u } ∷ [])

  pub steps_all : Bool → ℕ → ℕ → Forest → List Step
  steps_all b p u nil = []
  steps_all b p u (cons t ts) = steps p (end_of b (p + size t) u) t ++ steps_all b (p + size t) u ts

-- the marks after some steps, or that the scopes are broken
pub data Marked : Type 0 where
  broken : Marked
  marked : List ℕ → Marked

unfoldable pub and_then : Marked → (List ℕ → Marked) → Marked
and_then broken k = broken
and_then (marked m) k = k m

-- a local that was met before is not declared
unfoldable pub at_declaration : ℕ → ℕ → List ℕ → Marked
at_declaration x u m = cond (nat_lt x 1024) (cond (slice_index m x == 0) (marked (slice_set m x u)) broken) broken

-- a local is used before the place that is noted of it; one that was not met before is free
unfoldable pub at_use : ℕ → ℕ → List ℕ → Marked
at_use p x m = cond (nat_lt x 1024) (cond (slice_index m x == 0) (marked (slice_set m x 65535)) (cond (nat_lt p (slice_index m x)) (marked m) broken)) broken

unfoldable pub note : ℕ → Role → ℕ → List ℕ → Marked
note p (declares x) u m = at_declaration x u m
note p (uses x) u m = at_use p x m
note p plain u m = marked m

-- the steps noted, the first of them at the place p
unfoldable pub note_all : ℕ → List Step → List ℕ → Marked
note_all p [] m = marked m
note_all p (s ∷ l) m = and_then (note p s.does s.until m) (note_all (p + 1) l)

-- what a part of the walk answers, where it leaves the marks m
abbrev pub Says : {X : Type 0} → Result X Fault → List ℕ → Marked → Type 0
Says (Ok x) m o = o ≡ marked m
Says (Err f) m o = (f ≡ BadScope) × (o ≡ broken)
