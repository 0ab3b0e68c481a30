-- The lines of a script, one more of them. Assumes nothing.
use Rattle.std.proofs.Common.{◌≡◌, ℕ, ◌+◌, true, false, ◌⊎◌, List, [], ◌∷◌, ◌++◌, length, IsErrAnd, Some, None, Ok, Err, Option, Result, sym, refl, ap, ◌∙◌, subst, inl, inr, ⊎_elim, append_assoc, arith}
use Rattle.std.proofs.lemmas.Bool.{MatchBool-at_true, MatchBool-at_false}
use Rattle.std.proofs.lemmas.List.{map_push, length_push}
use Rattle.tables.specs.Lines.{content, skipped}
use Rattle.tables.specs.Rules.{lines}
use Rattle.tables.proofs.Reading.{when_true, when_false}
use Rattle.scripts.specs.Calls.{Told, told, told_all, CallAs}
use Rattle.scripts.specs.Headings.{HeadingAs}
use Rattle.scripts.specs.Readings.{line_of, Sole, NoneIs}
use Rattle.scripts.specs.Scripts.{limit_of, Whole, CallsIn, ScriptIn, FaultOf, LinesAs}
use Rattle.scripts.specs.declared.call.Call.{Call}
use Rattle.scripts.specs.declared.fault.ScriptFault.{ScriptFault}
use Rattle.scripts.specs.declared.fault.ScriptFault.TheVariants.{Memory}
use Rattle.scripts.specs.declared.heading.Heading.{Heading}
use Rattle.scripts.specs.declared.heading.Kind.{Kind}

pub told_push : (ms ns : List (Call ℕ)) (x : Call ℕ) → ms ≡ ns ++ (x ∷ []) → told_all ms ≡ told_all ns ++ (told x ∷ [])
told_push ms ns x e = ap told_all e ∙ map_push told ns x

-- what the lines that are left have to be, given the heading and the calls so far
abbrev pub Left : Option (Kind × Heading) → List Told → List (List ℕ) → Whole → Type 0
Left None ts ls s = ScriptIn ls s
Left (Some v) ts ls s = (s.0 ≡ v) × ((us : List Told) × (s.1 ≡ ts ++ us) × CallsIn (limit_of v.0) ls us)

abbrev pub Fresh : Option (Kind × Heading) → List Told → Type 0
Fresh None ts = ts ≡ []
Fresh (Some v) ts = Unit {0}

-- the invariant: the lines before `left` hold the heading and the calls so far
pub record Sofar (text : List ℕ) (left : List (List ℕ)) (line : ℕ) (h : Option (Kind × Heading)) (ts : List Told) : Type 0 where
  pub done : List (List ℕ)
  pub whole : lines text ≡ done ++ left
  pub count : line ≡ length done
  pub fresh : Fresh h ts
  pub on : (more : List (List ℕ)) (s : Whole) → Left h ts more s → ScriptIn (done ++ more) s
  pub back : (more : List (List ℕ)) (s : Whole) → ScriptIn (done ++ more) s → Left h ts more s

-- the first line that counts, and a line after it
abbrev Head : List ℕ → List (List ℕ) → Whole → Type 0
Head l ls s = HeadingAs (content l) s.0 × CallsIn (limit_of s.0.0) ls s.1

abbrev Next : ℕ → List ℕ → List (List ℕ) → List Told → Type 0
Next limit l ls ts = (t : Told) × (more : List Told) × (ts ≡ t ∷ more) × CallAs limit (content l) t × CallsIn limit ls more

-- a line that is skipped changes nothing
skip-on : (h : Option (Kind × Heading)) (ts : List Told) (l : List ℕ) (ls : List (List ℕ)) (s : Whole) → skipped (content l) ≡ true → Left h ts ls s → Left h ts (l ∷ ls) s
skip-on None ts l ls s e x = when_true (skipped (content l)) (ScriptIn ls s) (Head l ls s) e x
skip-on (Some v) ts l ls s e x =
    (x.0, (x.1.0, x.1.1, when_true (skipped (content l)) (CallsIn (limit_of v.0) ls x.1.0) (Next (limit_of v.0) l ls x.1.0) e x.1.2))

skip-back : (h : Option (Kind × Heading)) (ts : List Told) (l : List ℕ) (ls : List (List ℕ)) (s : Whole) → skipped (content l) ≡ true → Left h ts (l ∷ ls) s → Left h ts ls s
skip-back None ts l ls s e x = MatchBool-at_true (ScriptIn ls s) (Head l ls s) e x
skip-back (Some v) ts l ls s e x =
    (x.0, (x.1.0, x.1.1, MatchBool-at_true (CallsIn (limit_of v.0) ls x.1.0) (Next (limit_of v.0) l ls x.1.0) e x.1.2))

-- a heading
head-on : (v : Kind × Heading) (ts : List Told) (l : List ℕ) (ls : List (List ℕ)) (s : Whole) → skipped (content l) ≡ false → ts ≡ [] → HeadingAs (content l) v → Left (Some v) ts ls s → ScriptIn (l ∷ ls) s
head-on v ts l ls s plain none head x =
    when_false (skipped (content l)) (ScriptIn ls s) (Head l ls s) plain (
      subst (HeadingAs (content l)) (sym x.0) head,
      subst (CallsIn (limit_of s.0.0) ls) (sym (x.1.1 ∙ ap (λ xs. xs ++ x.1.0) none)) (subst (λ w. CallsIn (limit_of w.0) ls x.1.0) (sym x.0) x.1.2),
    )

head-back : (v : Kind × Heading) (ts : List Told) (l : List ℕ) (ls : List (List ℕ)) (s : Whole) → skipped (content l) ≡ false → ts ≡ [] → Sole (HeadingAs (content l)) v → ScriptIn (l ∷ ls) s → Left (Some v) ts ls s
head-back v ts l ls s plain none one x =
    let here = MatchBool-at_false (ScriptIn ls s) (Head l ls s) plain x in
    let same = one.only s.0 here.0 in
    (same, (s.1, sym (ap (λ xs. xs ++ s.1) none), subst (λ w. CallsIn (limit_of w.0) ls s.1) same here.1))

-- a call
call-on : (v : Kind × Heading) (ts : List Told) (t : Told) (l : List ℕ) (ls : List (List ℕ)) (s : Whole) → skipped (content l) ≡ false → CallAs (limit_of v.0) (content l) t → Left (Some v) (ts ++ (t ∷ [])) ls s → Left (Some v) ts (l ∷ ls) s
call-on v ts t l ls s plain call x =
    (x.0, (t ∷ x.1.0, x.1.1 ∙ append_assoc ts (t ∷ []) x.1.0, when_false (skipped (content l)) (CallsIn (limit_of v.0) ls (t ∷ x.1.0)) (Next (limit_of v.0) l ls (t ∷ x.1.0)) plain (t, x.1.0, refl, call, x.1.2)))

call-here : (v : Kind × Heading) (ts : List Told) (l : List ℕ) (ls : List (List ℕ)) (s : Whole) → skipped (content l) ≡ false → (x : Left (Some v) ts (l ∷ ls) s) → Next (limit_of v.0) l ls x.1.0
call-here v ts l ls s plain x = MatchBool-at_false (CallsIn (limit_of v.0) ls x.1.0) (Next (limit_of v.0) l ls x.1.0) plain x.1.2

call_back : (v : Kind × Heading) (ts : List Told) (t : Told) (l : List ℕ) (ls : List (List ℕ)) (s : Whole) → skipped (content l) ≡ false → Sole (CallAs (limit_of v.0) (content l)) t → Left (Some v) ts (l ∷ ls) s → Left (Some v) (ts ++ (t ∷ [])) ls s
call_back v ts t l ls s plain one x =
    let here = call-here v ts l ls s plain x in
    let same = one.only here.0 here.3 in
    (x.0, (here.1, x.1.1 ∙ ap (λ us. ts ++ us) (here.2 ∙ ap (λ u. u ∷ here.1) same) ∙ sym (append_assoc ts (t ∷ []) here.1), here.4))

module _ (text l : List ℕ) (left : List (List ℕ)) (line : ℕ) (h : Option (Kind × Heading)) (ts : List Told) (old : Sofar text (l ∷ left) line h ts) where
  regroup : (more : List (List ℕ)) → (old.done ++ (l ∷ [])) ++ more ≡ old.done ++ (l ∷ more)
  regroup more = append_assoc old.done (l ∷ []) more

  -- one line more
  advance : (g : Option (Kind × Heading)) (us : List Told) → Fresh g us → ((more : List (List ℕ)) (s : Whole) → Left g us more s → Left h ts (l ∷ more) s) → ((more : List (List ℕ)) (s : Whole) → Left h ts (l ∷ more) s → Left g us more s) → Sofar text left (line + 1) g us
  advance g us fresh to from = record {
    done = old.done ++ (l ∷ []);
    whole = old.whole ∙ sym (regroup left);
    count = omega (arith, old.count, length_push old.done l);
    fresh = fresh;
    on = λ more s x. subst (λ ls. ScriptIn ls s) (sym (regroup more)) (old.on (l ∷ more) s (to more s x));
    back = λ more s x. from more s (old.back (l ∷ more) s (subst (λ ls. ScriptIn ls s) (regroup more) x));
  }

  pub skip-line : skipped (content l) ≡ true → Sofar text left (line + 1) h ts
  skip-line skip = advance h ts old.fresh (λ more s x. skip-on h ts l more s skip x) (λ more s x. skip-back h ts l more s skip x)

  stops : (f : ScriptFault) → line_of f ≡ Some (line + 1) → ((more : List (List ℕ)) (s : Whole) → Left h ts (l ∷ more) s → ⊥) → FaultOf (lines text) f
  stops f at none = inr (inr (record {
    before = old.done;
    line = l;
    after = left;
    whole = old.whole;
    place = at ∙ ap (λ n. Some (n + 1)) old.count;
    wrong = λ more s x. none more s (old.back (l ∷ more) s x);
  }))

  pub line-stops : {V : Type 0} (P : V → Type 0) (f : ScriptFault) → (NoneIs P → (more : List (List ℕ)) (s : Whole) → Left h ts (l ∷ more) s → ⊥) → (f ≡ Memory) ⊎ ((line_of f ≡ Some (line + 1)) × NoneIs P) → FaultOf (lines text) f
  line-stops P f none bad = ⊎_elim (λ e. inl e) (λ e. stops f e.0 (none e.1)) bad

module _ (text l : List ℕ) (left : List (List ℕ)) (line : ℕ) (ts : List Told) (old : Sofar text (l ∷ left) line None ts) (plain : skipped (content l) ≡ false) where
  pub heading-line : (v : Kind × Heading) → Sole (HeadingAs (content l)) v → Sofar text left (line + 1) (Some v) ts
  heading-line v one =
      advance text l left line None ts old (Some v) ts tt
      (λ more s x. head-on v ts l more s plain old.fresh one.holds x) (λ more s x. head-back v ts l more s plain old.fresh one x)

  pub heading-stops : (f : ScriptFault) → (f ≡ Memory) ⊎ ((line_of f ≡ Some (line + 1)) × NoneIs (HeadingAs (content l))) → FaultOf (lines text) f
  heading-stops f bad =
      line-stops text l left line None ts old (HeadingAs (content l)) f
      (λ none more s x. none s.0 (MatchBool-at_false (ScriptIn more s) (Head l more s) plain x).0) bad

module _ (text l : List ℕ) (left : List (List ℕ)) (line : ℕ) (v : Kind × Heading) (ts : List Told) (old : Sofar text (l ∷ left) line (Some v) ts) (plain : skipped (content l) ≡ false) where
  pub call_line : (t : Told) → Sole (CallAs (limit_of v.0) (content l)) t → Sofar text left (line + 1) (Some v) (ts ++ (t ∷ []))
  call_line t one =
      advance text l left line (Some v) ts old (Some v) (ts ++ (t ∷ [])) tt
      (λ more s x. call-on v ts t l more s plain one.holds x) (λ more s x. call_back v ts t l more s plain one x)

  pub call-stops : (f : ScriptFault) → (f ≡ Memory) ⊎ ((line_of f ≡ Some (line + 1)) × NoneIs (CallAs (limit_of v.0) (content l))) → FaultOf (lines text) f
  call-stops f bad =
      line-stops text l left line (Some v) ts old (CallAs (limit_of v.0) (content l)) f
      (λ none more s x. let here = call-here v ts l more s plain x in none here.0 here.3) bad

-- one call more, as the list of calls has it
pub again-told : (text l : List ℕ) (left : List (List ℕ)) (line : ℕ) (h : Option (Kind × Heading)) (v : Kind × Heading) (ns ms : List (Call ℕ)) → Sofar text (l ∷ left) line (Some v) (told_all ns) → skipped (content l) ≡ false → (x : Call ℕ) → Sole (CallAs (limit_of v.0) (content l)) (told x) → h ≡ Some v → ms ≡ ns ++ (x ∷ []) → Sofar text left (line + 1) h (told_all ms)
again-told text l left line h v ns ms old plain x one is pushed =
    subst (λ g. Sofar text left (line + 1) g (told_all ms)) (sym is)
    (subst (Sofar text left (line + 1) (Some v)) (sym (told_push ms ns x pushed)) (call_line text l left line v (told_all ns) old plain (told x) one))

-- what a `?` returns
pub lines-handed : {T : Type 0} (view : T → Whole) (ls : List (List ℕ)) (r : Result T ScriptFault) (f : ScriptFault) → IsErrAnd r (λ y. y ≡ f) → FaultOf ls f → LinesAs view ls r
lines-handed view ls (Ok x) f h g = absurd h
lines-handed view ls (Err y) f h g = subst (FaultOf ls) (sym h) g
