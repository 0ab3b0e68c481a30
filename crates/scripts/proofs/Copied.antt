-- The calls of a script, copied one by one. Assumes nothing.
use Rattle.std.proofs.Common.{◌≡◌, ℕ, Bor, List, [], ◌∷◌, Ok, Err, None, Result, Vec, vec_items, Iter, refl, sym, ap, ap₂, ◌∙◌, subst, ⊎_elim}
use Rattle.std.proofs.iter.Yields.{fronts}
use Rattle.std.proofs.lemmas.Iterator.{YieldsList-from_slice}
use Rattle.std.specs.Iterator.{AlwaysYields}
use Rattle.std.specs.Slice.Iter.{iter_rest}
use Rattle.std.specs.declared.alloc.AllocError.{AllocError}
use Rattle.tables.proofs.Gathered.{Gathered, ReadsTo}
use Rattle.scripts.specs.Calls.{told, told_all}
use Rattle.scripts.specs.Readings.{Kept}
use Rattle.scripts.specs.declared.call.Call.{Call}
use Rattle.scripts.specs.declared.fault.ScriptFault.{ScriptFault}
use Rattle.scripts.specs.declared.fault.ScriptFault.TheVariants.{Memory}

abbrev pub IsCopy : Bor (Call ℕ) → Result (Call ℕ) ScriptFault → Type 0
IsCopy b = Kept told (told b.now)

all-copied : (s t u : Iter (Call ℕ)) (cs ds : List (Call ℕ)) → AlwaysYields fronts (λ b. b.now) s cs → ReadsTo fronts (λ b d. IsCopy b (Ok d)) s ds t → fronts t None u → told_all ds ≡ told_all cs
all-copied s t u [] [] yields copied end = refl
all-copied s t u (c ∷ cs) [] yields copied end = absurd (yields.0 u (subst (λ i. fronts i None u) (sym copied) end))
all-copied s t u [] (d ∷ ds) yields copied end = let (b, j, step, same, on) = copied in absurd (yields b j step)
all-copied s t u (c ∷ cs) (d ∷ ds) yields copied end =
    let (b, j, step, same, on) = copied in
    let (is, rest) = yields.1 b j step in
    ap₂ ◌∷◌ (same ∙ ap told is) (all-copied j t u cs ds rest on end)

pub copied-calls : {Z : Type 0} (s : Iter (Call ℕ)) (cs : List (Call ℕ)) (r : Result (Vec (Call ℕ) Z) ScriptFault) → iter_rest s ≡ cs → Gathered fronts IsCopy (λ f. AllocError × (f ≡ Memory)) s r → Kept (λ v. told_all (vec_items v)) (told_all cs) r
copied-calls s cs (Ok v) whole h = all-copied s h.0 h.1 cs (vec_items v) (YieldsList-from_slice cs whole).runs h.2 h.3
copied-calls s cs (Err f) whole h = ⊎_elim (λ lack. lack.1) (λ bad. let (xs, t, a, u, on, last, why) = bad in why) h
