-- How many rules have each outcome. Assumes nothing.
use Rattle.std.specs.Prelude.{◌≡◌, ◌+◌, List, [], ◌∷◌, length, map}
use Rattle.verdicts.specs.declared.census.Census.{Census}
use Rattle.verdicts.specs.declared.outcome.Kind.{Kind}
use Rattle.verdicts.specs.declared.outcome.Outcome.{Outcome}
use Rattle.verdicts.specs.declared.outcome.Outcome.TheVariants.{Keep, Convert, Gone, Added, Refused}
use Rattle.verdicts.specs.declared.survey.Line.{Line}
use Rattle.verdicts.specs.Outcomes.{counted}

-- the outcomes of the lines, in their order
abbrev pub outcomes_of : List Line → List Outcome
outcomes_of ls = map (λ l. l.outcome) ls

abbrev pub Stands : Outcome → Type 0
Stands Keep = Unit {0}
Stands Convert = Unit {0}
Stands Gone = Unit {0}
Stands Added = Unit {0}
Stands (Refused side fault) = ⊥

-- no rule is refused
abbrev pub NoneRefused : List Outcome → Type 0
NoneRefused [] = Unit {0}
NoneRefused (o ∷ os) = Stands o × NoneRefused os

-- the counts of the outcomes; the count of the refused is 0, which is called certified, exactly when no rule is refused
pub record CensusOf (os : List Outcome) (c : Census) : Type 0 where
  pub keep : c.keep ≡ counted Kind.Keep os
  pub convert : c.convert ≡ counted Kind.Convert os
  pub gone : c.gone ≡ counted Kind.Gone os
  pub added : c.added ≡ counted Kind.Added os
  pub refused : c.refused ≡ counted Kind.Refused os
  pub whole : c.keep + c.convert + c.gone + c.added + c.refused ≡ length os
  pub certified : c.refused ≡ 0 → NoneRefused os
  pub certifies : NoneRefused os → c.refused ≡ 0
