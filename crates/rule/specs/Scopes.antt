-- The scopes of a rule's locals, over its tree.
use Rattle.std.specs.Prelude.{◌≡◌, ℕ, ◌+◌, ◌<◌, ◌≤◌, Bool, true, false, cond, ◌&&◌, List, [], ◌∷◌, ◌++◌, ◌==◌, nat_le}
use Rattle.rule.specs.Trees.{Tree, Forest, node, nil, cons}

-- what a node does with a local: a binding (41) declares v, a path to a local (70 with v 0) uses w
pub data Role : Type 0 where
  declares : ℕ → Role
  uses : ℕ → Role
  plain : Role

unfoldable pub role : ℕ → ℕ → ℕ → Role
role c v w = cond (c == 41) (declares v) (cond (c == 70 && v == 0) (uses w) plain)

-- how often a role declares x, and uses it
unfoldable pub declared : ℕ → Role → ℕ
declared x (declares y) = cond (x == y) 1 0
declared x (uses y) = 0
declared x plain = 0

unfoldable pub used : ℕ → Role → ℕ
used x (declares y) = 0
used x (uses y) = cond (x == y) 1 0
used x plain = 0

-- how many nodes of a tree declare x, and use it
unfoldable mutual
  pub decls : ℕ → Tree → ℕ
  decls x (node c v w ts) = decls_all x ts + declared x (role c v w)

  pub decls_all : ℕ → Forest → ℕ
  decls_all x nil = 0
  decls_all x (cons t ts) = decls x t + decls_all x ts

unfoldable mutual
  pub uses_of : ℕ → Tree → ℕ
  uses_of x (node c v w ts) = uses_all x ts + used x (role c v w)

  pub uses_all : ℕ → Forest → ℕ
  uses_all x nil = 0
  uses_all x (cons t ts) = uses_of x t + uses_all x ts

-- the walk: the children in row order, then the node
unfoldable mutual
  pub walk : Tree → List Role
  walk (node c v w ts) = walk_all ts ++ (role c v w ∷ [])

  pub walk_all : Forest → List Role
  walk_all nil = []
  walk_all (cons t ts) = walk t ++ walk_all ts

unfoldable pub declared_in : ℕ → List Role → ℕ
declared_in x [] = 0
declared_in x (p ∷ l) = declared x p + declared_in x l

-- what comes behind a use declares nothing of what is used
unfoldable pub Behind : Role → List Role → Type 0
Behind (declares x) l = Unit {0}
Behind (uses x) l = declared_in x l ≡ 0
Behind plain l = Unit {0}

-- no local is used earlier in the walk than it is declared
unfoldable pub InOrder : List Role → Type 0
InOrder [] = Unit {0}
InOrder (p ∷ l) = Behind p l × InOrder l

-- a comparison: Binary with Eq, Lt, Le, Ne, Ge or Gt
unfoldable pub compares : ℕ → ℕ → Bool
compares c v = c == 14 && (nat_le 12 v && nat_le v 17)

-- what is declared under one of these operands is used, of all its uses U, under that operand only
unfoldable pub OwnUses : (ℕ → ℕ) → Forest → Type 0
OwnUses U nil = Unit {0}
OwnUses U (cons a ts) = ((x : ℕ) → 0 < decls x a → U x ≤ uses_of x a) × OwnUses U ts

unfoldable pub Closed : Bool → (ℕ → ℕ) → Forest → Type 0
Closed true U ts = OwnUses U ts
Closed false U ts = Unit {0}

-- the same at every comparison of a tree
unfoldable mutual
  pub Enclosed : (ℕ → ℕ) → Tree → Type 0
  Enclosed U (node c v w ts) = EnclosedAll U ts × Closed (compares c v) U ts

  pub EnclosedAll : (ℕ → ℕ) → Forest → Type 0
  EnclosedAll U nil = Unit {0}
  EnclosedAll U (cons t ts) = Enclosed U t × EnclosedAll U ts

-- sound scopes: no local is above 1023, none is declared twice, none is used earlier in the walk than declared,
-- and what is declared under one operand of a comparison is not used outside that operand
pub record SoundScopes (t : Tree) : Type 0 where
  pub low : (x : ℕ) → 1023 < x → decls x t + uses_of x t ≡ 0
  pub once : (x : ℕ) → decls x t ≤ 1
  pub ordered : InOrder (walk t)
  pub enclosed : Enclosed (λ x. uses_of x t) t
