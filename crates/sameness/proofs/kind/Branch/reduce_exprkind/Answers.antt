use Rattle.std.proofs.Common.{◌≡◌, ℕ, List, get_or, Some, None, Option, sym, refl, ap, ◌∙◌, subst}
use Rattle.std.specs.Option.{unwrap_or}
use Rattle.rule.specs.declared.nodes.Node.{Node}
use Rattle.rule.specs.Trees.{Tree, tree_at}
use Rattle.sameness.specs.Blocks.{Inner, Made}
use Rattle.sameness.specs.Reduction.{kept, shape, shape_of_block, reduce}
use Rattle.sameness.specs.Walking.{tree_in}
use Rattle.sameness.proofs.KindTrees.{kids_bare, kind-node, kind-kept, kind-held, kids-one}
use Rattle.sameness.proofs.BlockShapes.{shape-code, shape-kids, shape-block}
use Rattle.sameness.proofs.kind.Branch.reduce_exprkind.Goals as goal
use Rattle.sameness.proofs.kind.Branch.reduce_exprkind.Goals.{then-node-ne-BLOCK_EXPR-via-then-node-ne-BLOCK_EXPR, then-node-ne-BLOCK_EXPR-via-else-node-ne-BLOCK_EXPR+then-node-ne1}

pub returns-then-node-ne-BLOCK_EXPR : goal.returns-then-node-ne-BLOCK_EXPR
returns-then-node-ne-BLOCK_EXPR c =
    let s = c.args.self in
    let e = c.node-node.ensures in
    let n = c.node-node.result in
    let k : shape n.code (kids_bare s.rule.words.now n) ≡ kept =
    elim c.then-node-ne-BLOCK_EXPR.branch [
      | then-node-ne-BLOCK_EXPR-via-then-node-ne-BLOCK_EXPR w ↦ shape-code _ _ w.if-node-ne-BLOCK_EXPR.true
      | then-node-ne-BLOCK_EXPR-via-else-node-ne-BLOCK_EXPR+then-node-ne1 w ↦ shape-kids _ _ _ w.if-node-ne1.true
    ] in
    record {
      tree = kind-kept _ _ s.rule.read s.treelike _ s.within _ e k;
      held = kind-held _ _ s.rule.read s.treelike _ s.within _ e s.low;
    }

pub invariant_of-side : goal.invariant_of-side
invariant_of-side c = let s = c.args.self in record { held = kind-held _ _ s.rule.read s.treelike _ s.within _ c.node-node.ensures s.low }

-- what the block comes to, if not itself, and else the node k
made : (Q : Node → Type 0) (ws : List ℕ) (block : Tree) (top : ℕ) (k : Node) (r : Option Node)
    → Made ws block top r → (shape_of_block block ≡ kept → Q k) → ((m : Node) → Inner ws block top m → Q m) → Q (unwrap_or r k)
made Q ws block top k None h a b = a h
made Q ws block top k (Some m) h a b = b m h

pub returns-clause-tree : goal.returns-clause-tree
returns-clause-tree c =
    let s = c.args.self in
    let ws = s.rule.words.now in
    let n = c.node-node.result in
    let e = c.node-node.ensures in
    let o = kids-one ws n.kids.now c.if-node-ne1.false in
    let t = kind-node _ _ s.rule.read s.treelike _ s.within _ e _ _ _ _ c.if-node-ne-BLOCK_EXPR.false refl refl o in
    let m : Made ws (tree_at ws (get_or n.kids.now 0 0)) (get_or n.kids.now 0 0) c.reduce_block.result =
    rw (c.child.ensures.words, c.child.ensures.number) at c.reduce_block.ensures in
    let Q : Node → Type 0 = λ k. tree_in ws k ≡ reduce (tree_at ws s.number) in
    subst Q (sym c.unwrap_or.ensures)
    (made Q ws _ _ n c.reduce_block.result m
    (λ k. kind-kept _ _ s.rule.read s.treelike _ s.within _ e (shape-block _ _ _ c.if-node-ne-BLOCK_EXPR.false o k))
    (λ k d. d.tree _ _ ∙ ap reduce (sym t)))
