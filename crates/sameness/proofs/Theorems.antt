-- The theorems.
use Rattle.std.proofs.Common.{sym, ◌∙◌}
use Rattle.rule.specs.Trees.{Tree}
use Rattle.rule.specs.Scopes.{SoundScopes}
use Rattle.sameness.specs.Reduction.{reduce}
use Rattle.sameness.specs.Deciding.{blank, toward, backward}
use Rattle.sameness.specs.Claims.{Reflexive, Symmetric, Transitive, Decided, TableRenames}
use Rattle.sameness.proofs.Agreeing.{alike_refl, alike-sym, alike-trans}
use Rattle.sameness.proofs.InPlay.{Sound}
use Rattle.sameness.proofs.Scoping.{sound-scopes}
use Rattle.sameness.proofs.Reduced.{reduce-sound, reduce-clean}
use Rattle.sameness.proofs.Correct.{decide-agrees, decide-clean}
use Rattle.sameness.proofs.Complete.{agree_decides}

pub reflexive : Reflexive
reflexive t c = record { alike = alike_refl (reduce t); clean₁ = c; clean₂ = c }

pub symmetric : Symmetric
symmetric t u a = record { alike = alike-sym a.alike; clean₁ = a.clean₂; clean₂ = a.clean₁ }

pub transitive : Transitive
transitive t u o a b = record { alike = alike-trans a.alike b.alike; clean₁ = a.clean₁; clean₂ = b.clean₂ }

-- what a rule with sound scopes reduces to
pub reduced-sound : (t : Tree) → SoundScopes t → Sound (reduce t)
reduced-sound t s = reduce-sound t (sound-scopes t s)

pub table-renames : TableRenames
table-renames t u P s s' e = decide-agrees (reduce t) (reduce u) (reduced-sound t s) (reduced-sound u s') P e

pub decided : Decided
decided t u s s' = (
  λ k.
      let n = decide-clean (reduce t) (reduce u) blank k.0 k.1 in
      record {
        alike = record { to = toward k.0; from = backward k.0; agree = table-renames t u k.0 s s' k.1 };
        clean₁ = sym (reduce-clean t) ∙ n.0;
        clean₂ = sym (reduce-clean u) ∙ n.1;
      },
  λ a. agree_decides (reduce t) (reduce u) a.alike.to a.alike.from (reduced-sound t s) (reduced-sound u s') (reduce-clean t ∙ a.clean₁) a.alike.agree,
)
