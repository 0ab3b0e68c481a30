-- How sameness is decided: both trees are walked at once, a node's children before it, and the pairs of declared locals
-- are noted in a table. A comparison is read as it stands first, and with exchanged operands only if that fails.
use Rattle.std.specs.Prelude.{◌≡◌, ℕ, ◌+◌, ◌<◌, Bool, true, false, cond, not, ◌&&◌, ◌||◌, List, ◌==◌, slice_index, refl}
use Rattle.rule.specs.Trees.{Tree, Forest, node, nil, cons}
use Rattle.rule.specs.Scopes.{Role, declares, uses, plain, role}
use Rattle.rule.specs.Intake.{barred}
use Rattle.sameness.specs.Sameness.{bare_v, bare_w, pair}

---- the table of pairs, the latest first

pub data Table : Type 0 where
  blank : Table
  add : ℕ → ℕ → Table → Table

pub data Found : Type 0 where
  absent : Found
  found : ℕ → Found

-- the partner of a local of the first tree, and of a local of the second
unfoldable pub ahead : Table → ℕ → Found
ahead blank x = absent
ahead (add a b P) x = cond (a == x) (found b) (ahead P x)

unfoldable pub behind : Table → ℕ → Found
behind blank y = absent
behind (add a b P) y = cond (b == y) (found a) (behind P y)

-- a used x and a used y are partners, or both have none and are the same
abbrev pub joined : Found → Found → ℕ → ℕ → Bool
joined absent absent x y = x == y
joined absent (found a) x y = false
joined (found b) absent x y = false
joined (found b) (found a) x y = b == y && a == x

unfoldable pub matched : Table → ℕ → ℕ → Bool
matched P x y = joined (ahead P x) (behind P y) x y

-- a declared x and a declared y have no partner yet
abbrev pub is_free : Found → Bool
is_free absent = true
is_free (found a) = false

unfoldable pub fresh : Table → ℕ → ℕ → Bool
fresh P x y = is_free (ahead P x) && is_free (behind P y)

---- outcomes

pub data Outcome : Type 0 where
  fails : Outcome
  holds : Table → Outcome

abbrev pub and_then : Outcome → (Table → Outcome) → Outcome
and_then fails k = fails
and_then (holds P) k = k P

abbrev pub or_else : Outcome → Outcome → Outcome
or_else fails o = o
or_else (holds P) o = holds P

abbrev pub given : Bool → Outcome → Outcome
given true o = o
given false o = fails

---- one node against another

-- they can be read as they stand: the code is not barred, and the words that are compared are the same
unfoldable pub direct_test : ℕ → ℕ → ℕ → ℕ → ℕ → ℕ → Bool
direct_test c v w c' v' w' = not (barred c) && (c == c' && (bare_v c v == bare_v c' v' && bare_w c v w == bare_w c' v' w'))

-- one comparison is the other with exchanged operands
unfoldable pub reverses_test : ℕ → ℕ → Bool
reverses_test v v' =
    (v == 12 && v' == 12) || ((v == 13 && v' == 17) || ((v == 14 && v' == 16) || ((v == 15 && v' == 15) || ((v == 16 && v' == 14) || (v == 17 && v' == 13)))))

-- they can be read with exchanged operands
unfoldable pub reversed_test : ℕ → ℕ → ℕ → ℕ → ℕ → ℕ → Bool
reversed_test c v w c' v' w' = c == 14 && (c' == 14 && (reverses_test v v' && w == w'))

-- what the nodes do with locals, after their children
unfoldable pub at_roles : Role → Role → Table → Outcome
at_roles (declares x) (declares y) P = given (fresh P x y) (holds (add x y P))
at_roles (declares x) (uses y) P = fails
at_roles (declares x) plain P = fails
at_roles (uses x) (declares y) P = fails
at_roles (uses x) (uses y) P = given (matched P x y) (holds P)
at_roles (uses x) plain P = fails
at_roles plain (declares y) P = fails
at_roles plain (uses y) P = fails
at_roles plain plain P = holds P

-- a reading of two operands exchanged
unfoldable pub exchanging : (Forest → Table → Outcome) → Forest → Table → Outcome
exchanging k nil P = fails
exchanging k (cons a nil) P = fails
exchanging k (cons a (cons b nil)) P = k (pair b a) P
exchanging k (cons a (cons b (cons t ts))) P = fails

---- the walk

unfoldable mutual
  pub decide : Tree → Tree → Table → Outcome
  decide (node c v w ts) (node c' v' w' us) P =
      or_else
      (given (direct_test c v w c' v' w') (and_then (decide_all ts us P) (at_roles (role c v w) (role c' v' w'))))
      (given (reversed_test c v w c' v' w') (exchanging (decide_all ts) us P))

  pub decide_all : Forest → Forest → Table → Outcome
  decide_all nil nil P = holds P
  decide_all nil (cons u us) P = fails
  decide_all (cons t ts) nil P = fails
  decide_all (cons t ts) (cons u us) P = and_then (decide t u P) (decide_all ts us)

---- a table as a renaming

abbrev pub or_self : Found → ℕ → ℕ
or_self absent x = x
or_self (found y) x = y

abbrev pub toward : Table → ℕ → ℕ
toward P x = or_self (ahead P x) x

abbrev pub backward : Table → ℕ → ℕ
backward P y = or_self (behind P y) y

---- a table in memory

-- the partner, or 4294967295 for none
abbrev pub entry : Found → ℕ
entry absent = 4294967295
entry (found a) = a

-- the partners of the locals 0 to 1023 of the first tree, and behind them those of the second
pub record Shows (P : Table) (t : List ℕ) : Type 0 where
  pub front : (x : ℕ) → x < 1024 → slice_index t x ≡ entry (ahead P x)
  pub back : (y : ℕ) → y < 1024 → slice_index t (1024 + y) ≡ entry (behind P y)

---- examples

abbrev get : ℕ → Tree
get x = node 70 0 x (cons (node 0 0 0 nil) nil)

abbrev bind : ℕ → Tree
bind x = node 41 x 0 (cons (node 0 0 0 nil) nil)

-- #1 < #2 and #2 > #1
reversed-example : decide (node 14 13 0 (pair (get 1) (get 2))) (node 14 17 0 (pair (get 2) (get 1))) blank ≡ holds blank
unfolding decide decide_all direct_test reversed_test reverses_test exchanging at_roles matched ahead behind bare_v bare_w role
reversed-example = refl

-- a declaration and a use, renamed
renamed-example : decide (node 33 0 0 (pair (bind 1) (get 1))) (node 33 0 0 (pair (bind 7) (get 7))) blank ≡ holds (add 1 7 blank)
unfolding decide decide_all direct_test reversed_test reverses_test exchanging at_roles matched fresh ahead behind bare_v bare_w role
renamed-example = refl

-- a local that has a partner gets no other
twice-example : decide (node 33 0 0 (pair (bind 1) (bind 1))) (node 33 0 0 (pair (bind 7) (bind 8))) blank ≡ fails
unfolding decide decide_all direct_test reversed_test reverses_test exchanging at_roles matched fresh ahead behind bare_v bare_w role
twice-example = refl
