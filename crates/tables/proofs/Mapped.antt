-- What `map_err` and `ok_or` were given, from what they gave. Assumes nothing.
use Rattle.std.proofs.Common.{◌≡◌, IsErrAnd, MatchResult, None, Ok, Err, Option, Result, refl, ap, ◌∙◌, subst}
use Rattle.std.specs.Option.{ok_or}

pub given-ok : {T E D : Type 0} (r : Result T E) (s : Result T D) (P : E → D → Type 0) (x : T) → MatchResult r (λ v. s ≡ Ok v) (λ e. IsErrAnd s (P e)) → s ≡ Ok x → r ≡ Ok x
given-ok (Ok v) s P x h q = let same : v ≡ x = cc in ap Ok same
given-ok {T} {E} {D} (Err e) s P x h q = absurd (subst (λ t. IsErrAnd t (P e)) q h)

pub given-err : {T E D : Type 0} (r : Result T E) (s : Result T D) (P : E → D → Type 0) (f : D) → MatchResult r (λ v. s ≡ Ok v) (λ e. IsErrAnd s (P e)) → s ≡ Err f → (e : E) × (r ≡ Err e) × P e f
given-err (Ok v) s P f h q = cc
given-err (Err e) s P f h q = (e, refl, subst (λ t. IsErrAnd t (P e)) q h)

pub given-error : {T E : Type 0} (o : Option T) (f e : E) → o ≡ None → ◌≡◌ {A = Result T E} (Err f) (ok_or o e) → f ≡ e
given-error {T} {E} o f e none is = let same : ◌≡◌ {A = Result T E} (Err f) (Err e) = is ∙ ap (λ p. ok_or p e) none in cc
