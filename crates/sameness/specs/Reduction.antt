-- What a block expression comes to. Each block is looked at as it stands: what reduction makes of the blocks inside it
-- does not turn it into one that comes to something else.
use Rattle.std.specs.Prelude.{◌≡◌, ℕ, Bool, true, false, cond, ◌&&◌, ◌||◌, ◌==◌, refl}
use Rattle.rule.specs.Trees.{Tree, Forest, node, nil, cons}

---- parts of a tree

abbrev pub code_of : Tree → ℕ
code_of (node c v w ts) = c

abbrev pub children_of : Tree → Forest
children_of (node c v w ts) = ts

abbrev pub childless : Forest → Bool
childless nil = true
childless (cons t ts) = false

-- what stands where a part is left out
abbrev pub missing : Tree
missing = node 0 0 0 nil

abbrev pub first_of : Forest → Tree
first_of nil = missing
first_of (cons t ts) = t

-- a part that is left out
unfoldable pub is_absent : Tree → Bool
is_absent t = code_of t == 0 && childless (children_of t)

-- one tree, and it is a return (31)
unfoldable pub is_return : Forest → Bool
is_return nil = false
is_return (cons t nil) = code_of t == 31
is_return (cons t (cons t' ts)) = false

-- a statement (96 or 97) that holds a return
unfoldable pub returns : Tree → Bool
returns t = (code_of t == 96 || code_of t == 97) && is_return (children_of t)

---- shapes

-- a block with nothing in it, one with a return as its tail only, one with a return as its statement only, and any other tree
pub data Shape : Type 0 where
  empty tail statement kept : Shape

-- by the statements and the tail
unfoldable pub shape_of_body : Forest → Shape
shape_of_body nil = kept
shape_of_body (cons t nil) = cond (is_absent t) empty (cond (code_of t == 31) tail kept)
shape_of_body (cons s (cons t nil)) = cond (returns s && is_absent t) statement kept
shape_of_body (cons s (cons t (cons t' ts))) = kept

-- by the block (94), if it is a plain one
unfoldable pub shape_of_block : Tree → Shape
shape_of_block (node c v w body) = cond (c == 94 && v == 0) (shape_of_body body) kept

-- by the code and the children of a node: only a block expression (15) comes to something else
unfoldable pub shape : ℕ → Forest → Shape
shape c nil = kept
shape c (cons t nil) = cond (c == 15) (shape_of_block t) kept
shape c (cons t (cons t' ts)) = kept

---- reduction

-- what a node of a shape comes to, given its children reduced: an empty tuple (33), or the return inside it
unfoldable pub shaped : Shape → ℕ → ℕ → ℕ → Forest → Tree
shaped empty c v w ts = node 33 0 0 nil
shaped tail c v w ts = first_of (children_of (first_of ts))
shaped statement c v w ts = first_of (children_of (first_of (children_of (first_of ts))))
shaped kept c v w ts = node c v w ts

unfoldable mutual
  pub reduce : Tree → Tree
  reduce (node c v w ts) = shaped (shape c ts) c v w (reduce_all ts)

  pub reduce_all : Forest → Forest
  reduce_all nil = nil
  reduce_all (cons t ts) = cons (reduce t) (reduce_all ts)

---- examples

-- a block expression over a plain block with one statement or tail
abbrev block_of : Tree → Tree
block_of t = node 15 0 0 (cons (node 94 0 0 (cons t nil)) nil)

-- return 1
abbrev return_one : Tree
return_one = node 31 0 0 (cons (node 25 0 0 (cons (node 100 1 0 nil) nil)) nil)

-- { return 1 } comes to the return
tail-example : reduce (block_of return_one) ≡ return_one
unfolding reduce reduce_all shaped shape shape_of_block shape_of_body is_absent
tail-example = refl

-- { return 1; } does, too
statement-example : reduce (node 15 0 0 (cons (node 94 0 0 (cons (node 97 0 0 (cons return_one nil)) (cons missing nil))) nil)) ≡ return_one
unfolding reduce reduce_all shaped shape shape_of_block shape_of_body is_absent returns is_return
statement-example = refl

-- {} comes to ()
empty-example : reduce (block_of missing) ≡ node 33 0 0 nil
unfolding reduce reduce_all shaped shape shape_of_block shape_of_body is_absent
empty-example = refl

-- unsafe {} is kept
unsafe-example : reduce (node 15 0 0 (cons (node 94 1 0 (cons missing nil)) nil)) ≡ node 15 0 0 (cons (node 94 1 0 (cons missing nil)) nil)
unfolding reduce reduce_all shaped shape shape_of_block
unsafe-example = refl

-- {{ return 1 }} comes to { return 1 }, and no further
twice-example : reduce (block_of (block_of return_one)) ≡ block_of return_one
unfolding reduce reduce_all shaped shape shape_of_block shape_of_body is_absent
twice-example = refl
