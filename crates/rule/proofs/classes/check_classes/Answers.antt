use Rattle.std.proofs.Common.{◌≡◌, ℕ, ◌-◌, ◌<◌, sym, refl, ap, ◌∙◌, subst, arith, below_more}
use Rattle.std.proofs.lemmas.Result.{err_from_is_err_and}
use Rattle.rule.specs.Lookup.{root}
use Rattle.rule.specs.Intake.{KidsPass, nodes, class_at}
use Rattle.rule.proofs.Fitting.{rowed, class-is, kids-pass, fits-its-row}
use Rattle.rule.proofs.Laid.{read-nodes}
use Rattle.rule.proofs.Yielded.{one-given, all-given}
use Rattle.rule.proofs.classes.check_classes.Goals as goal

pub check_kids-requires-clause-row : goal.check_kids-requires-clause-row
check_kids-requires-clause-row c =
    let rule = c.args.tree.rule in
    let g = one-given rule _ _ c.loop-node.invariant.rule refl _ _ c.in-Some.ensures.steps in
    rowed _ _ rule.read _ _ g.1 c.requires g.0

pub loop-node-preserved : goal.loop-node-preserved
loop-node-preserved c =
    let rule = c.args.tree.rule in
    let g = one-given rule _ _ c.loop-node.invariant.rule refl _ _ c.in-Some.ensures.steps in
    let p = kids-pass _ _ rule.read _ _ g.1 c.in_ok-check_kids.ensures.ok in
    record { rule = g.2; passed = subst (λ n. (j : ℕ) → j < n → KidsPass rule.words.now j) (sym g.3) (below_more _ _ c.loop-node.invariant.passed p) }

pub returns-in_err-check_kids-clause-err : goal.returns-in_err-check_kids-clause-err
returns-in_err-check_kids-clause-err c =
    let rule = c.args.tree.rule in
    let g = one-given rule _ _ c.loop-node.invariant.rule refl _ _ c.in-Some.ensures.steps in
    let p = err_from_is_err_and c.from_residual.result c.from_residual.ensures.1 in
    let e = c.in_err-check_kids.ensures.err in
    let n : c.loop-node.node-iterator.next < nodes rule.words.now = omega (arith, g.0, read-nodes _ _ rule.read) in
    rw (p.1, p.2) (e.0, λ k. e.1 (fits-its-row _ _ rule.read _ _ g.1 (k.kids c.loop-node.node-iterator.next n)))

pub returns-clause-ok : goal.returns-clause-ok
returns-clause-ok c =
    let rule = c.args.tree.rule in
    let ws = rule.words.now in
    let e : c.root.result ≡ nodes ws - 1 = omega (arith, c.root.ensures, read-nodes _ _ rule.read) in
    let l = all-given rule _ _ c.loop-node.invariant.rule refl _ c.in-None.ensures.steps in
    record {
      kids = λ i h. c.loop-node.invariant.passed i (omega (arith, l, read-nodes _ _ rule.read));
      rooted = ap (λ n. root (class_at ws n)) (sym e) ∙ ap root (sym (class-is _ _ rule.read _ _ c.known_node.ensures _ (sym c.row.ensures ∙ c.unwrap-root.ensures))) ∙ sym c.if-not-can_be_root.ensures;
    }
