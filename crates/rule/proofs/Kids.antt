-- What is known of a child while the walk of its node goes on.
use Rattle.std.proofs.Common.{◌≡◌, ℕ, ◌+◌, ◌<◌, ◌≤◌, Bool, true, false, List, length, get_or, sym, subst, arith}
use Rattle.rule.specs.declared.nodes.Node.{Node}
use Rattle.rule.specs.Nodes.{Spelt}
use Rattle.rule.specs.Run.{kids_at}
use Rattle.rule.specs.Trees.{tree_at}
use Rattle.rule.specs.Marks.{size, end_of}
use Rattle.rule.specs.Intake.{Read, Treelike, nodes}
use Rattle.rule.specs.Tally.{Sized}
use Rattle.rule.proofs.Fitting.{node-below}
use Rattle.rule.proofs.Grown.{tree-read}
use Rattle.rule.proofs.Laid.{read-nodes}
use Rattle.rule.proofs.Roles.{Walking, walking-size, size-node}

-- what is known of the child q of node i, whose number is k
pub record Kid (ws os sizes : List ℕ) (i q at until k : ℕ) : Type 0 where
  pub count : q < kids_at ws (get_or os i 0)
  pub place : get_or ws (get_or os i 0 + 4 + q) 0 ≡ k
  pub below : k < i
  pub size_is : get_or sizes k 0 ≡ size (tree_at ws k)
  pub ends : at + size (tree_at ws k) < until

pub kid : (ws os sizes : List ℕ) (i q at place until : ℕ) (b : Bool) (m₀ m : List ℕ) (n : Node) → Read ws os → Treelike ws → Sized ws sizes → i < length os → Spelt ws (get_or os i 0) n → q < length n.kids.now
    → place + size (tree_at ws i) ≤ until → Walking ws b place until (get_or os i 0 + 4) (kids_at ws (get_or os i 0)) m₀ m at q → Kid ws os sizes i q at until (get_or n.kids.now q 0)
kid ws os sizes i q at place until b m₀ m n d w z h s l u k =
    let e = tree-read ws os i d w h in
    let c : q < kids_at ws (get_or os i 0) = omega (arith, s.count) in
    let j : get_or ws (get_or os i 0 + 4 + q) 0 ≡ get_or n.kids.now q 0 = sym (s.each q c) in
    let g = node-below ws os d w i q n s h l in
    let a : get_or n.kids.now q 0 < nodes ws = omega (arith, read-nodes ws os d) in
    let f : at + size (tree_at ws (get_or ws (get_or os i 0 + 4 + q) 0)) < until =
    omega (arith, size-node ws i (get_or os i 0) place until m₀ e, walking-size ws b place until (get_or os i 0 + 4) (kids_at ws (get_or os i 0)) m₀ m at q c k) in
    record { count = c; place = j; below = g; size_is = z.each _ a; ends = subst (λ x. at + size (tree_at ws x) < until) j f }

-- a child ends within the operand around it
pub kid-end : (b : Bool) (at n m until within : ℕ) → n ≡ m → at + m < until → within ≡ end_of b (at + n) until → at + m ≤ within
kid-end true at n m until within e l f = omega arith
kid-end false at n m until within e l f = omega arith
