-- How many outcomes are of each kind. Assumes nothing.
use Rattle.std.proofs.Common.{◌≡◌, ◌+◌, cond, List, [], ◌∷◌, length, refl, arith}
use Rattle.std.proofs.lemmas.List.Sums.{sum_by-cons}
use Rattle.verdicts.specs.declared.outcome.Kind.{Kind}
use Rattle.verdicts.specs.declared.outcome.Outcome.{Outcome}
use Rattle.verdicts.specs.declared.outcome.Outcome.TheVariants.{Keep, Convert, Gone, Added, Refused}
use Rattle.verdicts.specs.Outcomes.{counted, is_kind, kind_of}
use Rattle.verdicts.specs.Censuses.{NoneRefused}

-- one outcome more at the front
counted-cons : (k : Kind) (o : Outcome) (os : List Outcome) → counted k (o ∷ os) ≡ cond (is_kind (kind_of o) k) 1 0 + counted k os
counted-cons k o os = sum_by-cons (λ x. cond (is_kind (kind_of x) k) 1 0) o os

-- each outcome is of one kind
pub whole : (os : List Outcome) → counted Kind.Keep os + counted Kind.Convert os + counted Kind.Gone os + counted Kind.Added os + counted Kind.Refused os ≡ length os
whole [] = omega arith
whole (o ∷ os) =
    let one : cond (is_kind (kind_of o) Kind.Keep) 1 0 + cond (is_kind (kind_of o) Kind.Convert) 1 0 + cond (is_kind (kind_of o) Kind.Gone) 1 0 + cond (is_kind (kind_of o) Kind.Added) 1 0 + cond (is_kind (kind_of o) Kind.Refused) 1 0 ≡ 1 = elim o as (λ o. cond (is_kind (kind_of o) Kind.Keep) 1 0 + cond (is_kind (kind_of o) Kind.Convert) 1 0 + cond (is_kind (kind_of o) Kind.Gone) 1 0 + cond (is_kind (kind_of o) Kind.Added) 1 0 + cond (is_kind (kind_of o) Kind.Refused) 1 0 ≡ 1) [ Keep ↦ refl | Convert ↦ refl | Gone ↦ refl | Added ↦ refl | Refused s f ↦ refl ] in
    omega (arith, whole os, counted-cons Kind.Keep o os, counted-cons Kind.Convert o os, counted-cons Kind.Gone o os, counted-cons Kind.Added o os, counted-cons Kind.Refused o os)

pub none_refused : (os : List Outcome) → counted Kind.Refused os ≡ 0 → NoneRefused os
none_refused [] e = tt
none_refused (Keep ∷ os) e = (tt, none_refused os (omega (arith, counted-cons Kind.Refused Keep os)))
none_refused (Convert ∷ os) e = (tt, none_refused os (omega (arith, counted-cons Kind.Refused Convert os)))
none_refused (Gone ∷ os) e = (tt, none_refused os (omega (arith, counted-cons Kind.Refused Gone os)))
none_refused (Added ∷ os) e = (tt, none_refused os (omega (arith, counted-cons Kind.Refused Added os)))
none_refused (Refused side fault ∷ os) e = absurd (omega (arith, counted-cons Kind.Refused (Refused side fault) os))

pub refused_none : (os : List Outcome) → NoneRefused os → counted Kind.Refused os ≡ 0
refused_none [] h = refl
refused_none (Keep ∷ os) h = omega (arith, counted-cons, refused_none os h.1)
refused_none (Convert ∷ os) h = omega (arith, counted-cons, refused_none os h.1)
refused_none (Gone ∷ os) h = omega (arith, counted-cons, refused_none os h.1)
refused_none (Added ∷ os) h = omega (arith, counted-cons, refused_none os h.1)
refused_none (Refused side fault ∷ os) h = absurd h.0
