-- The lines of a survey, one rule more. Assumes nothing.
use Rattle.std.proofs.Common.{◌≡◌, ℕ, ◌+◌, ◌<◌, true, false, suc, List, [], ◌∷◌, ◌++◌, length, get_or, take, is_some, Some, None, Option, Ok, Err, Result, IfOk, sym, refl, ap, ◌∙◌, subst, inl, inr, ⊎_elim, true≢false, append_assoc, Bor, Vec, arith}
use Rattle.tables.proofs.Taken.{take-item}
use Rattle.tables.specs.declared.line.Entry.{Entry}
use Rattle.tables.specs.Rules.{name_of}
use Rattle.verdicts.specs.declared.survey.Line.{Line}
use Rattle.verdicts.specs.Names.{Named, Lacks, FoundAs}
use Rattle.verdicts.specs.Surveys.{OldLine, OldLines, NewLine, NewLines, WithNew}

-- a rule whose name the old table has
pub new-known : (old es : List Entry) (ls : List Line) (e : Entry) → NewLines old es ls → (o : Entry) → Named old (name_of e) o → NewLines old (es ++ (e ∷ [])) ls
new-known old [] ls e h o named = inl ((o, named), h)
new-known old (f ∷ es) ls e h o named =
    ⊎_elim
    (λ k. inl (k.0, new-known old es ls e k.1 o named))
    (λ k. inr (k.0, (k.1.0, k.1.1, k.1.2, k.1.3, new-known old es k.1.1 e k.1.4 o named)))
    h

-- a rule whose name it lacks
pub new-more : (old es : List Entry) (ls : List Line) (e : Entry) (l : Line) → NewLines old es ls → Lacks old (name_of e) → NewLine e l → NewLines old (es ++ (e ∷ [])) (ls ++ (l ∷ []))
new-more old [] ls e l h lacks line = inr (lacks, (l, [], ap (λ m. m ++ (l ∷ [])) h, line, refl))
new-more old (f ∷ es) ls e l h lacks line =
    ⊎_elim
    (λ k. inl (k.0, new-more old es ls e l k.1 lacks line))
    (λ k. inr (k.0, (k.1.0, k.1.1 ++ (l ∷ []), ap (λ m. m ++ (l ∷ [])) k.1.2, k.1.3, new-more old es k.1.1 e l k.1.4 lacks line)))
    h

-- a rule that is found in the old table has no line
pub found-step : (old es : List Entry) (i : ℕ) (ls ms : List Line) (e : Entry) (r : Option (Bor Entry)) → i < length es → e ≡ get_or es i e → WithNew old (take i es) ls ms → FoundAs old (name_of e) r → is_some r ≡ true → WithNew old (take (i + 1) es) ls ms
found-step old es i ls ms e None lt at h found some = absurd (true≢false (sym some))
found-step old es i ls ms e (Some o) lt at h found some =
    (h.0, h.1, subst (λ xs. NewLines old xs h.0) (sym (take-item es i e lt at)) (new-known old (take i es) h.0 e h.2 o.now found))

-- and one that is not has one
pub new-step : (old es : List Entry) (i : ℕ) (ls ms ns : List Line) (e : Entry) (l : Line) (r : Option (Bor Entry)) → i < length es → e ≡ get_or es i e → WithNew old (take i es) ls ms → FoundAs old (name_of e) r → is_some r ≡ false → NewLine e l → ns ≡ ms ++ (l ∷ []) → WithNew old (take (i + 1) es) ls ns
new-step old es i ls ms ns e l None lt at h found none line is = (
  h.0 ++ (l ∷ []),
  is ∙ ap (λ m. m ++ (l ∷ [])) h.1 ∙ append_assoc ls h.0 (l ∷ []),
  subst (λ xs. NewLines old xs (h.0 ++ (l ∷ []))) (sym (take-item es i e lt at)) (new-more old (take i es) h.0 e l h.2 found line),
)
new-step old es i ls ms ns e l (Some o) lt at h found none line is = absurd (true≢false none)

-- a line for each rule of the old table, place by place
old-each : (new es : List Entry) (ls : List Line) → length ls ≡ length es → ((k : ℕ) (e : Entry) (l : Line) → k < length es → OldLine new (get_or es k e) (get_or ls k l)) → OldLines new es ls
old-each new [] [] n h = tt
old-each new [] (l ∷ ls) n h = absurd (omega arith)
old-each new (e ∷ es) [] n h = absurd (omega arith)
old-each new (e ∷ es) (l ∷ ls) n h = (h 0 e l (omega arith), old-each new es ls (omega arith) (λ k a b g. h (suc k) a b (omega arith)))

pub lined : {E A : Type 0} (new es : List Entry) (r : Result (Vec Line A) E) → IfOk r (λ ls. length ls.items ≡ length es)
    → IfOk r (λ ls. (k : ℕ) (e : Entry) (l : Line) → k < length es → OldLine new (get_or es k e) (get_or ls.items k l)) → IfOk r (λ ls. OldLines new es ls.items)
lined new es (Ok ls) n h = old-each new es ls.items n h
lined new es (Err e) n h = tt
