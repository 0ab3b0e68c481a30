-- Of two standing rules, "the same" is that they are renamable.
use Rattle.std.proofs.Common.{ℕ, ◌<◌, List, length, sym, subst₂, arith}
use Rattle.kinds.specs.declared.rules.RuleFault.{RuleFault}
use Rattle.catalogue.specs.Kinds.{SoundBy}
use Rattle.catalogue.specs.Model.{Event}
use Rattle.catalogue.specs.Promise.{Promise}
use Rattle.catalogue.specs.States.{State}
use Rattle.kinds.specs.Rules.{Renamable, RulePromise, meets_rule, rules, same_rule}
use Rattle.kinds.specs.Cleaned.{clean-rule}

same-renamable : (ws us : List ℕ) → same_rule ws us → Renamable ws us
same-renamable ws us s = record { to = s.alike.to; from = s.alike.from; agree = s.alike.agree }

renamable-same : (ws us : List ℕ) → SoundBy meets_rule ws → SoundBy meets_rule us → Renamable ws us → same_rule ws us
renamable-same ws us a b r = record { alike = record { to = r.to; from = r.from; agree = r.agree }; clean₁ = clean-rule ws a; clean₂ = clean-rule us b }

pub rule-promise : (f : List ℕ → ℕ) (h : List (Event ℕ RuleFault)) (s : State ℕ) (n : ℕ) → Promise rules f h s n → RulePromise f h s n
rule-promise f h s n p =
    let in_row : (i : ℕ) → i < s.numbers.standing → i < length p.runs = λ i lt. omega (arith, p.held.standing) in
    record {
      promise = p;
      one_class = λ i j li lj r. p.one_class i j (in_row i li) (in_row j lj)
          (renamable-same _ _ (p.held.sound i (in_row i li)) (p.held.sound j (in_row j lj)) (subst₂ Renamable (p.held.runs i (in_row i li)) (p.held.runs j (in_row j lj)) r));
      one_renaming = λ i j li lj e.
          subst₂ Renamable (sym (p.held.runs i (in_row i li))) (sym (p.held.runs j (in_row j lj)))
          (same-renamable _ _ (p.one_same i j (in_row i li) (in_row j lj) e));
    }
