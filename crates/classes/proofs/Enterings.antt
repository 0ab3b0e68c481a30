-- One rule of a table more.
use Rattle.std.proofs.Common.{◌≡◌, ℕ, ◌+◌, ◌<◌, List, [], ◌∷◌, ◌++◌, length, get_or, take, vec_items, Result, sym, refl, ap, ◌∙◌, subst, arith, length-take-le}
use Rattle.catalogue.specs.declared.fault.Fault.{Fault}
use Rattle.catalogue.specs.declared.record.Entered.{Entered}
use Rattle.catalogue.specs.Calls.{EnterDone}
use Rattle.catalogue.specs.Kinds.{Sense}
use Rattle.catalogue.specs.Model.{Event, entering}
use Rattle.catalogue.specs.Promise.{Reached}
use Rattle.catalogue.specs.States.{State}
use Rattle.tables.proofs.Taken.{take-item}
use Rattle.kinds.specs.declared.rules.RuleFault.{RuleFault}
use Rattle.tables.specs.declared.line.Entry.{Entry}
use Rattle.classes.specs.Tables.{enterings}

last-entering : (h : List (Event ℕ RuleFault)) (es : List Entry) (e : Entry) (ls : List (Result Entered (Fault RuleFault))) (a : Result Entered (Fault RuleFault)) → length ls ≡ length es
    → enterings h (es ++ (e ∷ [])) (ls ++ (a ∷ [])) ≡ entering (vec_items e.words) a ∷ enterings h es ls
last-entering h [] e [] a q = refl
last-entering h [] e (l ∷ ls) a q = absurd (omega (arith, q))
last-entering h (f ∷ es) e [] a q = absurd (omega (arith, q))
last-entering h (f ∷ es) e (l ∷ ls) a q = last-entering (entering (vec_items f.words) l ∷ h) es e ls a (omega (arith, q))

pub entered-more : (k : Sense ℕ RuleFault) (es : List Entry) (i : ℕ) (e : Entry) (words : List ℕ) (ls ms : List (Result Entered (Fault RuleFault))) (a : Result Entered (Fault RuleFault)) (s t : State ℕ)
    → i < length es → e ≡ get_or es i e → words ≡ vec_items e.words → length ls ≡ i → ms ≡ ls ++ (a ∷ [])
    → Reached k (enterings [] (take i es) ls) s → EnterDone k s words a t
    → Reached k (enterings [] (take (i + 1) es) ms) t
entered-more k es i e words ls ms a s t lt at w q is past step =
    let long : length ls ≡ length (take i es) = q ∙ sym (length-take-le i es (omega arith)) in
    let calls : enterings [] (take (i + 1) es) ms ≡ entering (vec_items e.words) a ∷ enterings [] (take i es) ls =
    ap (λ x. enterings [] x ms) (take-item es i e lt at) ∙ ap (enterings [] (take i es ++ (e ∷ []))) is ∙ last-entering [] (take i es) e ls a long in
    subst (λ h. Reached k h t) (sym calls) (s, past, subst (λ ws. EnterDone k s ws a t) w step)
