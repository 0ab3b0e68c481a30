-- The nodes of a rule as its run has them, and as they are read.
use Rattle.std.proofs.Common.{◌≡◌, ℕ, ◌<◌, ◌≤◌, Option, List, length, get_or, sym, refl, ap, ◌∙◌, subst, arith}
use Rattle.rule.specs.declared.nodes.Node.{Node}
use Rattle.rule.specs.Trees.{node, tree_at}
use Rattle.sameness.specs.declared.kind.Kind.{Kind}
use Rattle.sameness.specs.Kinds.{IsNode}
use Rattle.sameness.specs.Reducing.{NodeReduced}
use Rattle.sameness.specs.Reduction.{reduce, reduce_all}
use Rattle.sameness.specs.Walking.{tree_in}
use Rattle.sameness.proofs.KindNodes.{numbers-long, number-at, numbers-trees}
use Rattle.feed.specs.declared.operands.Operands.{Operands}
use Rattle.feed.specs.Nodes.{node_in}
use Rattle.feed.specs.Pending.{noted_of, operands_of}
use Rattle.feed.specs.Ways.{way_of, head_of}

-- a node that is node i reduced: its children are nodes below i, no more than the run has words
pub record IsReduced (ws : List ℕ) (i : ℕ) (n : Node) : Type 0 where
  pub tree : tree_in ws n ≡ reduce (tree_at ws i)
  pub within : length n.kids.now ≤ length ws
  pub below : (q : ℕ) → q < length n.kids.now → get_or n.kids.now q 0 < i

pub node-reduced : (ws : List ℕ) (i : ℕ) (k : Kind) → NodeReduced ws i k → IsReduced ws i (node_in ws k)
node-reduced ws i k r =
    let l = numbers-long ws k.first k.kids r.within in
    record {
      tree = ap (λ ts. node k.code k.v k.w (reduce_all ts)) (sym (numbers-trees ws k.first k.kids r.within)) ∙ r.tree;
      within = omega (arith, l, r.within);
      below = λ q h. let m : q < k.kids = omega (arith, l) in subst (λ z. z < i) (sym (number-at ws k.first k.kids q m)) (r.below q m);
    }

---- a node that is read

module _ (ws : List ℕ) (k : Kind) (n : Node) (e : IsNode ws k n) where
  code-is : n.code ≡ k.code
  code-is = ap (λ z. z.code) e.kind

  v-is : n.v ≡ k.v
  v-is = ap (λ z. z.v) e.kind

  w-is : n.w ≡ k.w
  w-is = ap (λ z. z.w) e.kind

  pub way-read : way_of n ≡ way_of (node_in ws k)
  unfolding way_of
  way-read = rw (code-is, v-is, e.kids) refl

  pub head-read : (o : Option Operands) → head_of n o ≡ head_of (node_in ws k) o
  unfolding head_of
  head-read o = rw (code-is, v-is, w-is, e.kids) refl

  pub noted-read : (f : List ℕ → ℕ) → noted_of f ws n ≡ noted_of f ws (node_in ws k)
  unfolding operands_of
  noted-read f = rw (way-read, e.kids) refl
