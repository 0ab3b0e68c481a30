use Rattle.std.proofs.Common.{◌≡◌, ℕ, ◌+◌, ◌<◌, length, List, Option, sym, ◌∙◌, subst, arith}
use Rattle.catalogue.specs.Classes.{FirstSame, Begun, entry}
use Rattle.catalogue.proofs.Stored.{begun-few}
use Rattle.catalogues.specs.Naive.{names, runs_of}
use Rattle.catalogues.proofs.Runs.{length-row, entry-row, is-number, no_number, begun-more, begun-same, begun-past}
use Rattle.catalogues.proofs.model.Model.begun.Goals as goal
use Rattle.catalogues.proofs.model.Model.begun.Goals.{then-i-n+then-eq, else-i-n, else-i-n-via-then-i-n+else-eq, else-i-n-via-else-i-n}

pub loop-i-preserved : goal.loop-i-preserved
loop-i-preserved c =
    let rs = runs_of c.args.self.now in
    let i = c.loop-i.i in
    let n = c.args.n in
    let in_row : i < length rs = omega (arith, length-row c.args.self.now.runs.items, c.deref-run-items.ensures.len) in
    let here = entry-row _ _ _ _ c.deref-run-items.ensures.value c.loop-i-test.true in
    elim c.if-i-n.branch [
      | then-i-n+then-eq w ↦ (
          let first : FirstSame names rs (entry rs i) w.first.result = subst (λ (x : List ℕ). FirstSame names rs x w.first.result) (sym here) w.first.ensures in
          let one = is-number w.first.result i (sym w.eq.ensures ∙ w.if-eq.true) in
          let next = begun-more rs i n c.loop-i.begun w.if-i-n.true (subst (λ (r : Option ℕ). FirstSame names rs (entry rs i) r) one first) c.loop-i.invariant in
          let few = begun-few names rs _ _ c.loop-i.invariant in
          let e : c.loop-i.begun + 1 ≡ c.if-i-n.begun = omega (arith, w.begun-is, w.saturating_add-begun.ensures, few, c.deref-run-items.type_inv.0) in
          subst (Begun names rs _) e next)
      | else-i-n w ↦ subst (Begun names rs _) (sym w.begun-is) (elim w.else-i-n.branch [
        | else-i-n-via-then-i-n+else-eq v ↦ (
            let first : FirstSame names rs (entry rs i) v.first.result = subst (λ (x : List ℕ). FirstSame names rs x v.first.result) (sym here) v.first.ensures in
            begun-same rs i n c.loop-i.begun v.first.result v.if-i-n.true in_row first (no_number v.first.result i (sym v.eq.ensures ∙ v.if-eq.false)) c.loop-i.invariant)
        | else-i-n-via-else-i-n v ↦ begun-past rs i n c.loop-i.begun v.if-i-n.false c.loop-i.invariant
      ])
    ]
