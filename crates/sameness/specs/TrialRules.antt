-- Rules that are the same, and rules that are not, written out.
use Rattle.std.specs.Prelude.{ℕ}
use Rattle.rule.specs.Trees.{Tree, Forest, node, nil, cons}
use Rattle.sameness.specs.Sameness.{one, pair, Same}

---- builders

-- what stands where a part is left out
abbrev pub left_out : Tree
left_out = node 0 0 0 nil

abbrev pub literal : ℕ → Tree
literal n = node 100 n 0 nil

abbrev pub integer : ℕ → Tree
integer n = node 25 0 0 (one (literal n))

-- a use of a local
abbrev pub local : ℕ → Tree
local x = node 29 0 0 (one (node 70 0 x (one left_out)))

-- the path to a function, of one segment
abbrev pub function_path : ℕ → Tree
function_path f = node 70 3 f (pair left_out (node 72 0 0 nil))

abbrev pub binary : ℕ → Tree → Tree → Tree
binary op a b = node 14 op 0 (pair a b)

abbrev pub minus : Tree → Tree → Tree
minus = binary 1

abbrev pub less : Tree → Tree → Tree
less = binary 13

abbrev pub greater : Tree → Tree → Tree
greater = binary 17

-- let #x = e;
abbrev pub letting : ℕ → Tree → Tree
letting x e = node 95 0 0 (cons e (cons left_out (pair left_out (node 41 x 0 (one left_out)))))

-- e;
abbrev pub semi : Tree → Tree
semi e = node 97 0 0 (one e)

abbrev pub returning : Tree → Tree
returning e = node 31 0 0 (one e)

-- the statements, and then the tail or what stands for none
abbrev pub block : Forest → Tree
block body = node 15 0 0 (one (node 94 0 0 body))

abbrev pub unsafe_block : Forest → Tree
unsafe_block body = node 15 0 0 (one (node 94 1 0 body))

abbrev pub unit : Tree
unit = node 33 0 0 nil

-- f(..)
abbrev pub call : ℕ → Forest → Tree
call f args = node 17 0 0 (cons (node 29 0 0 (one (function_path f))) args)

-- [e; c]
abbrev pub repeat : Tree → Tree → Tree
repeat e c = node 30 0 0 (pair e c)

-- a constant that is a literal, and one that is f(..)
abbrev pub constant : ℕ → Tree
constant n = node 81 0 0 (one (literal n))

abbrev pub constant_call : ℕ → Forest → Tree
constant_call f args = node 84 0 0 (cons (function_path f) args)

---- the rules

-- { let #x = #9; let #y = #x - 1; #z }
abbrev pub two_lets : ℕ → ℕ → ℕ → Tree
two_lets x y z = block (cons (letting x (local 9)) (pair (letting y (minus (local x) (integer 1))) (local z)))

-- { let #x = 1; #y }
abbrev pub let_then : ℕ → ℕ → Tree
let_then x y = block (pair (letting x (integer 1)) (local y))

pub record TrialRules : Type 0 where
  -- { let #0 = #9; let #1 = #0 - 1; #1 } and { let #1 = #9; let #0 = #1 - 1; #1 }
  pub other_value : Same (two_lets 0 1 1) (two_lets 1 0 1) → ⊥
  -- { let #0 = #9; let #1 = #0 - 1; #1 } and { let #5 = #9; let #0 = #5 - 1; #0 }
  pub renamed_locals : Same (two_lets 0 1 1) (two_lets 5 0 0)
  -- { let #3 = 1; #4 } and { let #4 = 1; #4 }
  pub free_and_declared : Same (let_then 3 4) (let_then 4 4) → ⊥
  -- #1 < #2 and #2 > #1
  pub reversed : Same (less (local 1) (local 2)) (greater (local 2) (local 1))
  -- #1 < #2 and #2 < #1
  pub not_reversed : Same (less (local 1) (local 2)) (less (local 2) (local 1)) → ⊥
  -- {} and ()
  pub empty_block : Same (block (one left_out)) unit
  -- unsafe {} and ()
  pub unsafe_empty_block : Same (unsafe_block (one left_out)) unit → ⊥
  -- { return 1; } and return 1
  pub return_statement : Same (block (pair (semi (returning (integer 1))) left_out)) (returning (integer 1))
  -- {{ return 1 }} and { return 1 }
  pub block_in_block : Same (block (one (block (one (returning (integer 1)))))) (block (one (returning (integer 1)))) → ⊥
  -- f(1) and f(1, 2)
  pub more_arguments : Same (call 7 (one (integer 1))) (call 7 (pair (integer 1) (integer 2))) → ⊥
  -- [0; f(1)] and [0; f(1, 2)]
  pub more_constant_arguments : Same (repeat (integer 0) (constant_call 7 (one (constant 1)))) (repeat (integer 0) (constant_call 7 (pair (constant 1) (constant 2)))) → ⊥
