-- When two rules are the same: some renaming of the locals that they declare makes their reduced trees agree.
use Rattle.std.specs.Prelude.{◌≡◌, ℕ, ◌<◌, Bool, true, cond, not, ◌&&◌, ◌||◌, ◌==◌}
use Rattle.rule.specs.Trees.{Tree, Forest, node, nil, cons}
use Rattle.rule.specs.Scopes.{Role, declares, uses, plain, role, decls}
use Rattle.rule.specs.Intake.{barred}
use Rattle.sameness.specs.Reduction.{reduce}

---- the words that are compared

-- v, but 0 where it is not compared: the number of a declared local (41), the label of a block (15), the dots of a
-- struct pattern (46) and the lifetime of a reference type (63)
unfoldable pub bare_v : ℕ → ℕ → ℕ
bare_v c v = cond (c == 41 || (c == 15 || (c == 46 || c == 63))) 0 v

-- w, but 0 where it is the number of a used local (70 with v 0)
unfoldable pub bare_w : ℕ → ℕ → ℕ → ℕ
bare_w c v w = cond (c == 70 && v == 0) 0 w

-- a comparison, and what it is once its operands are exchanged: Eq, Lt, Le, Ne, Ge and Gt
pub data Reverses : ℕ → ℕ → Type 0 where
  eq : Reverses 12 12
  lt : Reverses 13 17
  le : Reverses 14 16
  ne : Reverses 15 15
  ge : Reverses 16 14
  gt : Reverses 17 13

---- agreement, by a relation R between the locals of the first tree and those of the second

-- both declare a local, both use one, or neither does either
pub data Linked (R : ℕ → ℕ → Type 0) : Role → Role → Type 0 where
  declaring : {x y : ℕ} → R x y → Linked R (declares x) (declares y)
  using' : {x y : ℕ} → R x y → Linked R (uses x) (uses y)
  neither : Linked R plain plain

-- two nodes that agree as they stand
pub record Level (R : ℕ → ℕ → Type 0) (c v w c' v' w' : ℕ) : Type 0 where
  pub code : c ≡ c'
  pub vs : bare_v c v ≡ bare_v c' v'
  pub ws : bare_w c v w ≡ bare_w c' v' w'
  pub locals : Linked R (role c v w) (role c' v' w')

-- two comparisons (Binary, 14) that agree once the operands of one are exchanged
pub record Reversed (c v w c' v' w' : ℕ) : Type 0 where
  pub code : c ≡ 14
  pub code' : c' ≡ 14
  pub reverses : Reverses v v'
  pub same : w ≡ w'

abbrev pub one : Tree → Forest
one t = cons t nil

abbrev pub pair : Tree → Tree → Forest
pair a b = cons a (cons b nil)

mutual
  pub data Agree (R : ℕ → ℕ → Type 0) : Tree → Tree → Type 0 where
    direct : {c v w c' v' w' : ℕ} {ts us : Forest} → Level R c v w c' v' w' → AgreeAll R ts us → Agree R (node c v w ts) (node c' v' w' us)
    reversed : {c v w c' v' w' : ℕ} {ts : Forest} {a b : Tree} → Reversed c v w c' v' w' → AgreeAll R ts (pair b a) → Agree R (node c v w ts) (node c' v' w' (pair a b))

  pub data AgreeAll (R : ℕ → ℕ → Type 0) : Forest → Forest → Type 0 where
    none : AgreeAll R nil nil
    more : {t u : Tree} {ts us : Forest} → Agree R t u → AgreeAll R ts us → AgreeAll R (cons t ts) (cons u us)

---- renamings

-- how often a tree declares each local
abbrev pub declarations : Tree → ℕ → ℕ
declarations t x = decls x t

-- x of the first tree and y of the second: both are declared (D and E say how often), and one is renamed to the other,
-- there and back, or both are free and the same
pub data Partner (to from D E : ℕ → ℕ) : ℕ → ℕ → Type 0 where
  renamed : {x y : ℕ} → 0 < D x → 0 < E y → to x ≡ y → from y ≡ x → Partner to from D E x y
  free : {x y : ℕ} → D x ≡ 0 → E y ≡ 0 → x ≡ y → Partner to from D E x y

-- two trees that agree by some renaming
pub record Alike (t u : Tree) : Type 0 where
  pub to : ℕ → ℕ
  pub from : ℕ → ℕ
  pub agree : Agree (Partner to from (declarations t) (declarations u)) t u

---- sameness

-- no node of a tree has a code that is the same as nothing
unfoldable mutual
  pub clean : Tree → Bool
  clean (node c v w ts) = not (barred c) && clean_all ts

  pub clean_all : Forest → Bool
  clean_all nil = true
  clean_all (cons t ts) = clean t && clean_all ts

pub record Same (t u : Tree) : Type 0 where
  pub alike : Alike (reduce t) (reduce u)
  pub clean₁ : clean t ≡ true
  pub clean₂ : clean u ≡ true
