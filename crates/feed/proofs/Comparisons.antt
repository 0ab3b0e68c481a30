-- A fact of each number, by the comparison that it stands for.
use Rattle.std.proofs.Common.{◌≡◌, ℕ, Some, None, Option, sym, ◌∙◌, subst, ⊎_elim}
use Rattle.std.proofs.lemmas.Bool.{cases_eq, ne_eqb, cond-false}
use Rattle.rule.specs.declared.comparison.Comparison.{Comparison}
use Rattle.rule.specs.declared.comparison.Comparison.TheVariants.{Eq, Lt, Le, Ne, Ge, Gt}
use Rattle.rule.specs.Comparisons.{comparison_number, comparison_of}

-- a number that stands for none
abbrev pub Other : ℕ → Type 0
Other v = (k : Comparison) → v ≡ comparison_number k → ⊥

other_of : (v : ℕ) → Other v → comparison_of v ≡ None
other_of v n =
    cond-false _ _ _ (ne_eqb v 12 (n Eq)) ∙ cond-false _ _ _ (ne_eqb v 13 (n Lt)) ∙ cond-false _ _ _ (ne_eqb v 14 (n Le))
    ∙ cond-false _ _ _ (ne_eqb v 15 (n Ne)) ∙ cond-false _ _ _ (ne_eqb v 16 (n Ge)) ∙ cond-false _ _ _ (ne_eqb v 17 (n Gt))

module _ (P : ℕ → Option Comparison → Type 0) (yes : (k : Comparison) → P (comparison_number k) (Some k)) (no : (v : ℕ) → Other v → P v None) (v : ℕ) where
  at : (m : ℕ) → P m (comparison_of m) → ((v ≡ m → ⊥) → P v (comparison_of v)) → P v (comparison_of v)
  at m h n = ⊎_elim (λ (e : v ≡ m). subst (λ z. P z (comparison_of z)) (sym e) h) n (cases_eq v m)

  pub by_comparison : P v (comparison_of v)
  by_comparison =
      at 12 (yes Eq) (λ n₁. at 13 (yes Lt) (λ n₂. at 14 (yes Le) (λ n₃. at 15 (yes Ne) (λ n₄. at 16 (yes Ge) (λ n₅. at 17 (yes Gt) (λ n₆.
      let n : Other v = λ k. elim k as (λ j. v ≡ comparison_number j → ⊥) [ Eq ↦ n₁ | Lt ↦ n₂ | Le ↦ n₃ | Ne ↦ n₄ | Ge ↦ n₅ | Gt ↦ n₆ ] in
      subst (P v) (sym (other_of v n)) (no v n)))))))
