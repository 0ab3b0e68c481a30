-- What `try_collect` gathers of a source whose items a closure reads. Assumes nothing.
use Rattle.std.proofs.Common.{◌≡◌, ℕ, zero, suc, ◌+◌, ◌<◌, ◌≤◌, ◌⊎◌, List, [], ◌∷◌, ◌++◌, length, Option, Some, None, Ok, Err, Result, Vec, Bor, vec_items, vec_len, vec_capacity, IfOk, IfErr, sym, refl, ap, ◌∙◌, subst, inl, inr, ⊎_elim, append_assoc, append-nil, arith}
use Rattle.std.specs.Fn.{Called}
use Rattle.std.specs.Iterator.{Drains, TryCollects, Yields}
use Rattle.std.specs.Iterator.Adapters.{map_callee, map_source, map_steps}
use Rattle.std.specs.Iterator.Runs.{EndsAtFirstErr, SomeRun, YieldsRun}
use Rattle.std.specs.List.{FoldsTo, slice_get}
use Rattle.std.specs.Option.{IsSomeAnd}
use Rattle.std.specs.declared.iter.Map.{Map}
use Rattle.tables.specs.Pieces.{NextPiece, left}
use Rattle.tables.specs.declared.pieces.Pieces.{Pieces}
use denote.Param.Members.{Mut}

-- what `Pieces` gives next
abbrev pub GivesPiece : Pieces → Option (Bor (List ℕ)) → Pieces → Type 0
GivesPiece s r t = NextPiece (left s) r (left t)

module _ {S A : Type 0} (steps : S → Option A → S → Type 0) where
  -- what comes from s up to t is read as the items xs, one by one, as R says
  abbrev pub ReadsTo : {X : Type 0} → (A → X → Type 0) → S → List X → S → Type 0
  ReadsTo R s [] t = s ≡ t
  ReadsTo R s (x ∷ xs) t = (a : A) × (j : S) × steps s (Some a) j × R a x × ReadsTo R j xs t

  -- all that comes from s is read, as P says; or the error is want of memory, or that of the first that is refused
  abbrev pub Gathered : {X E Z : Type 0} → (A → Result X E → Type 0) → (E → Type 0) → S → Result (Vec X Z) E → Type 0
  Gathered P Lack s (Ok v) = (t : S) × (u : S) × ReadsTo (λ a x. P a (Ok x)) s (vec_items v) t × steps t None u
  Gathered {X} P Lack s (Err e) = Lack e ⊎ ((xs : List X) × (t : S) × (a : A) × (u : S) × ReadsTo (λ b x. P b (Ok x)) s xs t × steps t (Some a) u × P a (Err e))

-- each call of the closure f leaves it as it was, and P holds of the item and the answer
module _ {S A X E F : Type 0} (steps : S → Option A → S → Type 0) (g : Mut F (A × Unit {0}) (Result X E)) (f : F) (P : A → Result X E → Type 0) (calls : (a : A) (r : Result X E) (h : F) → Called g f (a, tt) r h → (h ≡ f) × P a r) where
  abbrev Answers : Map S F → Option (Result X E) → Map S F → Type 0
  Answers = map_steps steps g

  called : (k h : F) (a : A) (r : Result X E) → k ≡ f → Called g k (a, tt) r h → (h ≡ f) × P a r
  called k h a r same call = calls a r h (subst (λ j. Called g j (a, tt) r h) same call)

  -- the answers rs come, and the one at the place i is the first error
  to-error : (s t : Map S F) (rs : List (Result X E)) (i : ℕ) (e : E) → map_callee s ≡ f → Yields Answers s rs t → IsSomeAnd (slice_get rs i) (λ r. Err e ≡ r) → ((k : ℕ) → k < i → IsSomeAnd (slice_get rs k) (λ r. (x : X) × (Ok x ≡ r))) → (xs : List X) × (j : S) × (a : A) × (u : S) × ReadsTo steps (λ b x. P b (Ok x)) (map_source s) xs j × steps j (Some a) u × P a (Err e)
  to-error s t [] i e same run bad good = absurd bad
  to-error s t (r ∷ rs) zero e same run bad good =
      let (a, step, call) = run.1 in
      ([], map_source s, a, map_source run.0, refl, step, subst (P a) (sym bad) (called (map_callee s) (map_callee run.0) a r same call).1)
  to-error s t (r ∷ rs) (suc i) e same run bad good =
      let (a, step, call) = run.1 in
      let (kept, read) = called (map_callee s) (map_callee run.0) a r same call in
      let (x, is) = good zero (omega arith) in
      let (xs, j, b, u, on, last, why) = to-error run.0 t rs i e kept run.2 bad (λ k l. good (suc k) (omega arith)) in
      (x ∷ xs, j, b, u, (a, map_source run.0, step, subst (P a) (sym is) read, on), last, why)

  module _ {Z : Type 0} where
    abbrev Collects : List X → Vec X Z → Type 0
    Collects xs v = (vec_items v ≡ xs) × (vec_len v ≡ length xs)

    abbrev Extends : Vec X Z → List X → Vec X Z → Type 0
    Extends v xs w = (vec_items w ≡ vec_items v ++ xs) × (vec_len w ≡ vec_len v + length xs) × (vec_capacity v ≤ vec_capacity w)

    abbrev Pushes : Vec X Z → Result X E → Vec X Z → Type 0
    Pushes v r w = (x : X) × (Ok x ≡ r) × Extends v (x ∷ []) w

    -- the answers rs come, all of them items, and then no more
    to-end : (s : Map S F) (rs : List (Result X E)) (v w : Vec X Z) → map_callee s ≡ f → Drains Answers s rs → FoldsTo Pushes v rs w → (xs : List X) × (vec_items w ≡ vec_items v ++ xs) × ((t : S) × (u : S) × ReadsTo steps (λ a x. P a (Ok x)) (map_source s) xs t × steps t None u)
    to-end s [] v w same (u, (t, at, end)) fold =
        ([], ap vec_items (sym fold) ∙ sym (append-nil (vec_items v)), (map_source t, map_source u, ap map_source at, end.0))
    to-end s (r ∷ rs) v w same (u, (t, (j, answer, run), end)) fold =
        let (a, step, call) = answer in
        let (kept, read) = called (map_callee s) (map_callee j) a r same call in
        let (x, is, pushed) = fold.1 in
        let (xs, items, on) = to-end j rs fold.0 w kept (u, (t, run, end)) fold.2 in (
          x ∷ xs,
          items ∙ ap (λ l. l ++ xs) pushed.0 ∙ append_assoc (vec_items v) (x ∷ []) xs,
          (on.0, on.1, (a, map_source j, step, subst (P a) (sym is) read, on.2), on.3),
        )

    -- what `try_collect` answers, over `map` with this closure
    pub gathered : (Lack : E → Type 0) (i : S) (s : Map S F) (r : Result (Vec X Z) E) → map_callee s ≡ f → map_source s ≡ i → IfOk r (TryCollects Answers (λ x y. y ≡ x) Collects Extends s) → IfErr r (λ e. Lack e ⊎ SomeRun Answers s (λ p. EndsAtFirstErr p (λ x y. y ≡ x) e)) → Gathered steps P Lack i r
    unfolding YieldsRun
    gathered Lack i s (Ok v) same source all none =
        let (xs, items, (t, u, on, end)) = to-end s all.0 all.1 v same all.2 all.4 in
        let whole = items ∙ ap (λ l. l ++ xs) all.3.0 in
        (t, u, subst (λ j. ReadsTo steps (λ a x. P a (Ok x)) j (vec_items v) t) source (subst (λ l. ReadsTo steps (λ a x. P a (Ok x)) (map_source s) l t) (sym whole) on), end)
    gathered Lack i s (Err e) same source none bad =
        ⊎_elim
        (λ lack. inl lack)
        (λ run.
        let (p, from, (n, long, at, before)) = run in
        let (xs, t, a, u, on, last, why) = to-error p.from p.gave.0.0 p.items n e (ap map_callee from ∙ same) p.gave.0.1
        (subst (λ o. IsSomeAnd o (λ r. Err e ≡ r)) (p.gave.1 n) at)
        (λ k l. subst (λ o. IsSomeAnd o (λ r. (x : X) × (Ok x ≡ r))) (p.gave.1 k) (before k l)) in
        inr (xs, t, a, u, subst (λ j. ReadsTo steps (λ b x. P b (Ok x)) j xs t) (ap map_source from ∙ source) on, last, why)) bad
