-- The row of a node, and what helps to find it.
use Rattle.std.specs.Prelude.{ℕ, ◌+◌, Bool, true, false, cond, ◌&&◌, List, [], ◌∷◌, take, drop, Some, None, Option, ◌==◌, is_some, nat_le, nat_lt}
use Rattle.rule.specs.declared.rows.Class.{Class}
use Rattle.rule.specs.declared.rows.Class.TheVariants.{Expr, Pat, Ty, Block}
use Rattle.rule.specs.declared.rows.Place.{Place}
use Rattle.rule.specs.declared.rows.Front.{Front}
use Rattle.rule.specs.declared.rows.Row.{Row}
use Rattle.rule.specs.Format.{format, within, serves}

-- the row is of this code, and the words are within its spans
abbrev pub takes : Row → ℕ → ℕ → ℕ → Bool
takes r c x y = r.code == c && (within r.v x && within r.w y)

-- the first row that takes these words
unfoldable pub sought : List Row → ℕ → ℕ → ℕ → Option Row
sought [] c x y = None
sought (r ∷ rs) c x y = cond (takes r c x y) (Some r) (sought rs c x y)

unfoldable pub row_of : ℕ → ℕ → ℕ → Option Row
row_of c x y = sought format c x y

---- the place of a child

-- how many places stand behind the repeated ones
abbrev pub behind : Row → ℕ
behind r = cond (is_some r.last) 1 0

abbrev pub front_at : Front → ℕ → Option Place
front_at f q = cond (q == 0) f.a (cond (q == 1) f.b (cond (q == 2) f.c f.d))

-- a node of this row may have n children: as many as the row has places, or, where one place is repeated, no fewer than the others
abbrev pub enough : Row → ℕ → Bool
enough r n = cond (is_some r.many) (nat_le (r.count + behind r) n) (n == r.count)

-- the place of child q of n: the first ones in front, the last one behind, the repeated one between
abbrev pub place_of : Row → ℕ → ℕ → Option Place
place_of r n q = cond (nat_lt q r.count) (front_at r.front q) (cond (nat_lt (q + behind r) n) r.many r.last)

-- the root is an expression, a block, a pattern or a type
abbrev pub root : Class → Bool
root k = cond (serves Expr k) true (cond (serves Block k) true (cond (serves Pat k) true (serves Ty k)))

---- where the rows of a code stand in the list

-- no row of the list is of the code c
unfoldable pub apart : ℕ → List Row → Bool
apart c [] = true
apart c (r ∷ rs) = cond (r.code == c) false (apart c rs)

-- the rows of the codes from c on stand at these places, three at most for each
unfoldable pub placed : ℕ → List ℕ → Bool
placed c [] = true
placed c (k ∷ ks) = nat_le k 80 && (apart c (take k format) && (apart c (drop (k + 3) format) && placed (c + 1) ks))
