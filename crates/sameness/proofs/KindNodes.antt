-- A node and the kind that it is: their trees, and what is known of them.
use Rattle.std.proofs.Common.{◌≡◌, ℕ, ◌+◌, ◌<◌, ◌≤◌, List, length, get_or, take, drop, refl, ap, ◌∙◌, subst, arith, length-take, length-drop}
use Rattle.std.proofs.lemmas.List.{get_or-drop, get_or-take}
use Rattle.rule.specs.declared.nodes.Node.{Node}
use Rattle.rule.specs.Trees.{node, kids_of, trees_of, tree_at}
use Rattle.sameness.specs.Kinds.{kind_of}
use Rattle.sameness.specs.Reducing.{NodeReduced}
use Rattle.sameness.specs.Reduction.{reduce, reduce_all}
use Rattle.sameness.specs.Walking.{Held, trees_at, tree_in}
use Rattle.sameness.proofs.KindTrees.{kids-named}

-- a node that is node i reduced, by the place of its children's numbers
pub held-reduced : (ws : List ℕ) (i : ℕ) (n : Node) → tree_in ws n ≡ reduce (tree_at ws i) → Held ws n i → NodeReduced ws i (kind_of n)
held-reduced ws i n t h =
    record {
      tree = ap (λ ts. node n.code n.v n.w (reduce_all ts)) (kids-named ws n.kids.now n.first (length n.kids.now) refl h.stands) ∙ t;
      within = h.within;
      below = λ q m. subst (λ z. z < i) (h.stands q m) (h.below q m);
    }

-- the numbers of the children of a kind, as a list
pub numbers-long : (ws : List ℕ) (p n : ℕ) → p + n ≤ length ws → length (take n (drop p ws)) ≡ n
numbers-long ws p n h = omega (arith, length-take n (drop p ws), length-drop p ws)

pub number-at : (ws : List ℕ) (p n q : ℕ) → q < n → get_or (take n (drop p ws)) q 0 ≡ get_or ws (p + q) 0
number-at ws p n q h = get_or-take n (drop p ws) q 0 h ∙ get_or-drop p ws q 0

pub numbers-trees : (ws : List ℕ) (p n : ℕ) → p + n ≤ length ws → kids_of (trees_of ws) ws p n ≡ trees_at ws (take n (drop p ws))
numbers-trees ws p n h = kids-named ws _ p n (numbers-long ws p n h) (number-at ws p n)
