use Rattle.std.proofs.Common.{◌≡◌, ℕ, rules, tests, false, arith}
use Rattle.std.proofs.lemmas.Iterator.{IsFirst-from_position, YieldsList-from_slice}
use Rattle.std.proofs.lemmas.Slice.Eq.{bytes_eq-Decides}
use Rattle.std.specs.Str.{bytes_eq}
use Rattle.catalogues.proofs.Runs.{first-row}
use Rattle.catalogues.proofs.model.Model.first.Goals as goal

pub returns : goal.returns
returns c =
    let run = c.args.run.now in
    first-row _ run _
    (IsFirst-from_position _ _ c.position.result (λ b. b.now ≡ run) (λ b. b.now ≡ run → ⊥) c.position.ensures.ran (YieldsList-from_slice c.args.self.now.runs.items (cc))
    (λ x q k. (bytes_eq-Decides x.now.now run).0 (search (rules, tests)))
    (λ x q k. (search (rules, tests), λ e. absurd (let t : bytes_eq x.now.now run ≡ false = search (rules, tests) in let u = (bytes_eq-Decides x.now.now run).1 e in let z : ◌≡◌ {A = ℕ} 0 1 = cc in omega arith))))
