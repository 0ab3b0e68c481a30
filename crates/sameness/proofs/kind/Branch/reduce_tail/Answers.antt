use Rattle.std.proofs.Common.{sym, refl, ◌∙◌}
use Rattle.rule.specs.Trees.{tree_at}
use Rattle.sameness.specs.Blocks.{Comes}
use Rattle.sameness.specs.Sameness.{one}
use Rattle.sameness.proofs.Inside.{inside-empty, inside-tail, return_or_none}
use Rattle.sameness.proofs.KindTrees.{kind-code, kind-absent}
use Rattle.sameness.proofs.BlockShapes.{tail-kept}
use Rattle.sameness.proofs.kind.Branch.reduce_tail.Goals as goal

pub returns-then-is_absent : goal.returns-then-is_absent
returns-then-is_absent c =
    let s = c.args.self in
    let d = c.default.ensures in
    let a = kind-absent _ _ s.rule.read s.treelike _ s.within _ c.node-tail.ensures in
    inside-empty _ _ refl d.1.0 d.1.1.0 d.1.1.1.0 d.1.1.1.1 _ _ (a ∙ sym c.if-is_absent.ensures)

pub returns : goal.returns
returns c =
    let s = c.args.self in
    let e = c.node-tail.ensures in
    let a = kind-absent _ _ s.rule.read s.treelike _ s.within _ e ∙ sym c.if-is_absent.ensures in
    let k = kind-code _ _ s.rule.read s.treelike _ s.within _ e in
    return_or_none (Comes s.rule.words.now (one (tree_at s.rule.words.now s.number)) s.number) _ c.then_some.ensures
    (λ y. inside-tail _ _ s.rule.read s.treelike _ s.within _ e y s.low a) (λ n. tail-kept _ a (λ m. n (sym k ∙ m)))
