-- A line, with or without a carriage return at its end. Assumes nothing.
use Rattle.std.proofs.Common.{◌≡◌, ◌≢◌, ℕ, eqb, List, [], ◌∷◌, ◌++◌, Option, Some, None, MatchOption, Bor, sym, refl, ap, ◌∙◌, ⊎_elim}
use Rattle.std.specs.Option.{unwrap_or}
use Rattle.std.proofs.lemmas.Bool.{eqb-true, cases_Bool, cond-false}
use Rattle.tables.specs.Lines.{content}

pub content-cut : (bs : List ℕ) → content (bs ++ (13 ∷ [])) ≡ bs
content-cut [] = refl
content-cut (b ∷ []) = refl
content-cut (b ∷ c ∷ bs) = ap (λ l. b ∷ l) (content-cut (c ∷ bs))

pub content-same : (bs : List ℕ) → ((front : List ℕ) → bs ≡ front ++ (13 ∷ []) → ⊥) → content bs ≡ bs
content-same [] h = refl
content-same (b ∷ []) h =
    cond-false (eqb b 13) [] (b ∷ []) (⊎_elim (λ e. absurd (h [] (ap (λ x. x ∷ []) (eqb-true b 13 e)))) (λ e. e) (cases_Bool (eqb b 13)))
content-same (b ∷ c ∷ bs) h = ap (λ l. b ∷ l) (content-same (c ∷ bs) (λ front e. h (b ∷ front) (ap (λ l. b ∷ l) e)))

-- what `strip_suffix` leaves of the text, or the text
pub stripped : (o : Option (Bor (List ℕ))) (text : Bor (List ℕ)) → MatchOption o ((front : List ℕ) → text.now ≢ front ++ (13 ∷ [])) (λ x. text.now ≡ x.now ++ (13 ∷ [])) → (unwrap_or o text).now ≡ content text.now
stripped None text none = sym (content-same text.now none)
stripped (Some x) text cut = sym (ap content cut ∙ content-cut x.now)
