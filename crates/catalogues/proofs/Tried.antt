-- A call that may fail answers, where it does not, as the one that answers `Other` in place of a failure.
use Rattle.std.proofs.Common.{ℕ, List, Ok, Err, Result}
use Rattle.std.specs.Result.{result_unwrap_or}
use Rattle.std.specs.declared.alloc.AllocError.{AllocError}
use Rattle.catalogues.specs.declared.model.Model.{Model}
use Rattle.catalogues.specs.declared.words.Answer.{Answer}
use Rattle.catalogues.specs.declared.words.Answer.TheVariants.{Entered, Found, Cut, Counts, Class, Other, Told, Refused}
use Rattle.catalogues.specs.declared.words.Call.{Call}
use Rattle.catalogues.specs.declared.words.Call.TheVariants.{Enter, Find, Cut as ToCut, Counts as ToCount, Entry, Told as ToTell}
use Rattle.catalogues.specs.Naive.{EnterAnswered, EnterTried, CallAnswered, CallTried}

enter-answered : (m : Model) (run : List ℕ) (r : Result Answer AllocError) (t : Model) → EnterTried m run r t → EnterAnswered m run (result_unwrap_or r Other) t
enter-answered m run (Ok (Entered n c)) t h = h
enter-answered m run (Ok (Found o)) t h = h
enter-answered m run (Ok Cut) t h = h
enter-answered m run (Ok (Counts n c)) t h = h
enter-answered m run (Ok (Class c)) t h = h
enter-answered m run (Ok Other) t h = absurd h
enter-answered m run (Ok (Told a b c)) t h = h
enter-answered m run (Ok (Refused n)) t h = h
enter-answered m run (Err e) t h = h

pub call-answered : (m : Model) (call : Call) (r : Result Answer AllocError) (t : Model) → CallTried m call r t → CallAnswered m call (result_unwrap_or r Other) t
call-answered m (Enter run) r t h = λ modest. enter-answered m run.now r t (h modest)
call-answered m (Find run) (Ok a) t h = h
call-answered m (ToCut keep) (Ok a) t h = h
call-answered m ToCount (Ok a) t h = h
call-answered m (Entry n run) (Ok a) t h = h
call-answered m (ToTell s u n) (Ok a) t h = h
call-answered m (Find run) (Err e) t h = absurd h
call-answered m (ToCut keep) (Err e) t h = absurd h
call-answered m ToCount (Err e) t h = absurd h
call-answered m (Entry n run) (Err e) t h = absurd h
call-answered m (ToTell s u n) (Err e) t h = absurd h
