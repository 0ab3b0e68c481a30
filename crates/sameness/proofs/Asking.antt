-- What is known of the locals of two nodes that are compared, and how a walk speaks of the same nodes by other names.
use Rattle.std.proofs.Common.{◌≡◌, ℕ, ◌<◌, Bool, true, List, Some, None, sym, ◌∙◌, subst, arith}
use Rattle.std.proofs.lemmas.Bool.Decides.{nat_tests}
use Rattle.rule.specs.declared.nodes.Node.{Node}
use Rattle.rule.specs.Nodes.{declared_by, local_of}
use Rattle.sameness.specs.Deciding.{direct_test}
use Rattle.sameness.specs.Walking.{Held, NodesWalked}
use Rattle.sameness.proofs.Outcomes.{direct-code, direct-path, low-declared, low-used}

---- the local that a node declares

pub declares-local : (n : Node) (x : ℕ) → declared_by n ≡ Some x → (n.code ≡ 41) × (n.v ≡ x)
declares-local n x e = grind (arith, nat_tests)

pub no-binding : (n : Node) → declared_by n ≡ None → n.code ≡ 41 → ⊥
no-binding n e k = grind (arith, nat_tests)

---- the local that a node uses

pub uses-local : (n : Node) (x : ℕ) → local_of n ≡ Some x → (n.code ≡ 70) × (n.v ≡ 0) × (n.w ≡ x)
uses-local n x e = grind (arith, nat_tests)

pub no-local : (n : Node) → local_of n ≡ None → (n.code ≡ 70) × (n.v ≡ 0) → ⊥
no-local n e k = grind (arith, nat_tests)

---- two nodes whose words that are compared are the same

module _ (l r : Node) (x : direct_test l.code l.v l.w r.code r.v r.w ≡ true) where
  -- both use a local, or neither does
  pub second-local : local_of r ≡ None → (l.code ≡ 70) × (l.v ≡ 0) → ⊥
  second-local n k =
      no-local r n (sym (direct-code l.code l.v l.w r.code r.v r.w x) ∙ k.0, sym (direct-path l.code l.v l.w r.code r.v r.w x k.0) ∙ k.1)

  -- both declare one, or neither does
  pub second-binding : declared_by r ≡ None → l.code ≡ 41 → ⊥
  second-binding n k = no-binding r n (sym (direct-code l.code l.v l.w r.code r.v r.w x) ∙ k)

-- a declared local
pub binding-low : (ws : List ℕ) (n : Node) (i x : ℕ) → Held ws n i → declared_by n ≡ Some x → x < 1024
binding-low ws n i x d e = let a = declares-local n x e in subst (λ z. z < 1024) a.1 (low-declared n.code n.v n.w a.0 d.low)

-- a used local
pub local-low : (ws : List ℕ) (n : Node) (i x : ℕ) → Held ws n i → local_of n ≡ Some x → x < 1024
local-low ws n i x d e = let a = uses-local n x e in subst (λ z. z < 1024) a.2 (low-used n.code n.v n.w a.0 a.1 d.low)

-- the same nodes, where their numbers are x and y
pub nodes-named : (wa wb : List ℕ) (i i' j j' : ℕ) (t t' : List ℕ) (r : Bool) → i ≡ i' → j ≡ j' → NodesWalked wa i wb j t t' r → NodesWalked wa i' wb j' t t' r
nodes-named wa wb i i' j j' t t' r a b w = subst (λ z. NodesWalked wa z wb j' t t' r) a (subst (λ z. NodesWalked wa i wb z t t' r) b w)
