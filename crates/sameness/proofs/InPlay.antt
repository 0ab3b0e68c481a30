-- The locals in play: those declared before, except under an operand of a comparison that has ended. In a sound rule each
-- use names a local in play or one that is declared nowhere.
use Rattle.std.proofs.Common.{◌≡◌, ℕ, ◌+◌, ◌<◌, ◌≤◌, Bool, true, false, refl, arith}
use Rattle.std.proofs.lemmas.Bool.{false≢true}
use Rattle.rule.specs.Trees.{Tree, Forest, node, nil, cons}
use Rattle.rule.specs.Scopes.{Role, declares, uses, plain, role, declared, decls, decls_all, compares}
use Rattle.sameness.specs.Sameness.{pair}

-- what is declared under an operand of a comparison does not reach behind it
abbrev pub outside : Bool → ℕ → ℕ
outside true n = 0
outside false n = n

-- how many nodes declare x under no operand of a comparison
abbrev mutual
  pub reach : ℕ → Tree → ℕ
  reach x (node c v w ts) = outside (compares c v) (reach_all x ts) + declared x (role c v w)

  pub reach_all : ℕ → Forest → ℕ
  reach_all x nil = 0
  reach_all x (cons t ts) = reach x t + reach_all x ts

-- what is in play behind a part, by what reaches out of it: behind an operand of a comparison (fork) nothing more
abbrev pub grown : Bool → (ℕ → ℕ) → (ℕ → ℕ) → ℕ → ℕ
grown true r vis = vis
grown false r vis = λ x. vis x + r x

-- D says how often each local is declared in all
abbrev pub UseSound : (ℕ → ℕ) → (ℕ → ℕ) → Role → Type 0
UseSound D vis (declares x) = Unit {0}
UseSound D vis (uses x) = 0 < D x → 0 < vis x
UseSound D vis plain = Unit {0}

abbrev mutual
  pub Scoped : (ℕ → ℕ) → (ℕ → ℕ) → Tree → Type 0
  Scoped D vis (node c v w ts) = ScopedAll D (compares c v) vis ts × UseSound D (grown (compares c v) (λ x. reach_all x ts) vis) (role c v w)

  pub ScopedAll : (ℕ → ℕ) → Bool → (ℕ → ℕ) → Forest → Type 0
  ScopedAll D fork vis nil = Unit {0}
  ScopedAll D fork vis (cons t ts) = Scoped D vis t × ScopedAll D fork (grown fork (λ x. reach x t) vis) ts

pub record Sound (t : Tree) : Type 0 where
  pub once : (x : ℕ) → decls x t ≤ 1
  pub scoped : Scoped (λ x. decls x t) (λ x. 0) t

---- what reaches out of a part is declared in it

outside-le : (b : Bool) (n m k : ℕ) → n ≤ m → outside b n + k ≤ m + k
outside-le true n m k h = omega arith
outside-le false n m k h = omega arith

mutual
  unfolding decls decls_all

  pub reach-decls : (t : Tree) (x : ℕ) → reach x t ≤ decls x t
  reach-decls (node c v w ts) x = outside-le (compares c v) (reach_all x ts) (decls_all x ts) (declared x (role c v w)) (reach_all-decls ts x)

  pub reach_all-decls : (ts : Forest) (x : ℕ) → reach_all x ts ≤ decls_all x ts
  reach_all-decls nil x = omega arith
  reach_all-decls (cons t ts) x = omega (arith, reach-decls t x, reach_all-decls ts x)

---- what is in play behind a part

pub grown-le : (fork : Bool) (r vis : ℕ → ℕ) (x n : ℕ) → vis x + r x ≤ n → grown fork r vis x ≤ n
grown-le true r vis x n h = omega arith
grown-le false r vis x n h = h

pub grown-is : (fork : Bool) (r vis : ℕ → ℕ) (x : ℕ) → grown fork r vis x ≡ vis x + outside fork (r x)
grown-is true r vis x = omega arith
grown-is false r vis x = refl

pub grown-more : (fork : Bool) (r r' vis : ℕ → ℕ) (x : ℕ) → grown fork (λ z. r z + r' z) vis x ≡ grown fork r' (grown fork r vis) x
grown-more true r r' vis x = refl
grown-more false r r' vis x = omega arith

-- the operands of a comparison do not see each other's locals
pub scoped-swap : (E vis : ℕ → ℕ) (fork : Bool) (a b : Tree) → fork ≡ true → ScopedAll E fork vis (pair a b) → ScopedAll E fork vis (pair b a)
scoped-swap E vis true a b e h = (h.1.0, (h.0, tt))
scoped-swap E vis false a b e h = absurd (false≢true e)
