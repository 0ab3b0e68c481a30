-- What is read, and what is refused. Assumes nothing.
use Rattle.std.proofs.Common.{◌≡◌, ℕ, ◌⊎◌, IsErrAnd, IsOkAnd, MatchResult, Some, Ok, Err, Result, sym, refl, ap, ◌∙◌, subst, inl, inr, ⊎_elim}
use Rattle.scripts.specs.declared.fault.ScriptFault.{ScriptFault}
use Rattle.scripts.specs.declared.fault.ScriptFault.TheVariants.{Memory}
use Rattle.scripts.specs.Readings.{line_of, Faulted, Sole, NoneIs, Reads}

-- a fault of line n, where nothing is written
pub refused : {V : Type 0} (P : V → Type 0) (n : ℕ) (f : ScriptFault) → Faulted n f → NoneIs P → (f ≡ Memory) ⊎ ((line_of f ≡ Some n) × NoneIs P)
refused P n f h none = ⊎_elim (λ e. inl e) (λ e. inr (e, none)) h

-- the fault of a part is one of the whole
pub passed : {V W : Type 0} (P : V → Type 0) (Q : W → Type 0) (n : ℕ) (f : ScriptFault) → (NoneIs P → NoneIs Q) → (f ≡ Memory) ⊎ ((line_of f ≡ Some n) × NoneIs P) → (f ≡ Memory) ⊎ ((line_of f ≡ Some n) × NoneIs Q)
passed P Q n f on h = ⊎_elim (λ e. inl e) (λ e. inr (e.0, on e.1)) h

-- what a `?` returns
pub handed : {T W : Type 0} (n : ℕ) (view : T → W) (Q : W → Type 0) (r : Result T ScriptFault) (f : ScriptFault) → IsErrAnd r (λ y. y ≡ f) → (f ≡ Memory) ⊎ ((line_of f ≡ Some n) × NoneIs Q) → Reads n view Q r
handed n view Q (Ok x) f h g = absurd h
handed n view Q (Err y) f h g = subst (λ e. (e ≡ Memory) ⊎ ((line_of e ≡ Some n) × NoneIs Q)) (sym h) g

-- a part and what follows it
module _ {V W : Type 0} (P : V → Type 0) (Q : V → W → Type 0) where
  pub then-sole : (v : V) (w : W) → Sole P v → Sole (Q v) w → Sole (λ x. (u : V) × P u × Q u x) w
  then-sole v w one two = record {
    holds = (v, one.holds, two.holds);
    only = λ x h. two.only x (subst (λ u. Q u x) (one.only h.0 h.1) h.2);
  }

  pub first-none : NoneIs P → NoneIs (λ x. (u : V) × P u × Q u x)
  first-none none = λ x h. none h.0 h.1

  pub then-none : (v : V) → Sole P v → NoneIs (Q v) → NoneIs (λ x. (u : V) × P u × Q u x)
  then-none v one none = λ x h. none x (subst (λ u. Q u x) (one.only h.0 h.1) h.2)

  pub then-reads : {T : Type 0} (n : ℕ) (view : T → W) (v : V) (r : Result T ScriptFault) → Sole P v → Reads n view (Q v) r → Reads n view (λ x. (u : V) × P u × Q u x) r
  then-reads n view v (Ok x) one h = then-sole v (view x) one h
  then-reads n view v (Err f) one h = passed (Q v) (λ x. (u : V) × P u × Q u x) n f (then-none v one) h

-- what is made of a part, by `map`
module _ {T V W : Type 0} (n : ℕ) (view : T → W) (make : V → W) (P : V → Type 0) where
  abbrev Made : W → Type 0
  Made w = (v : V) × (w ≡ make v) × P v

  pub made-reads : (r : Result V ScriptFault) (s : Result T ScriptFault) (M : V → T → Type 0) → ((v : V) (x : T) → M v x → view x ≡ make v) → MatchResult r (λ v. IsOkAnd s (M v)) (λ e. s ≡ Err e) → Reads n (λ v. v) P r → Reads n view Made s
  made-reads (Ok v) (Ok x) M shows made one = record {
    holds = (v, shows v x made, one.holds);
    only = λ w h. h.1 ∙ ap make (one.only h.0 h.2) ∙ sym (shows v x made);
  }
  made-reads (Ok v) (Err f) M shows made one = absurd made
  made-reads (Err e) s M shows is bad = subst (Reads n view Made) (sym is) (passed P Made n e (λ none w h. none h.0 h.2) bad)

-- nothing but the end
module _ {W : Type 0} (w : W) (End : Type 0) where
  abbrev Ended : W → Type 0
  Ended x = (x ≡ w) × End

  pub end_sole : End → Sole Ended w
  end_sole end = record { holds = (refl, end); only = λ x h. h.0 }

  pub end_none : NoneIs (λ (_ : Unit {0}). End) → NoneIs Ended
  end_none none = λ x h. none tt h.1

  -- what `map` makes of the end
  pub end-reads : {T U : Type 0} (n : ℕ) (view : T → W) (r : Result U ScriptFault) (s : Result T ScriptFault) (M : U → T → Type 0) → ((u : U) (x : T) → M u x → view x ≡ w) → MatchResult r (λ u. IsOkAnd s (M u)) (λ e. s ≡ Err e) → Reads n (λ _. tt) (λ (_ : Unit {0}). End) r → Reads n view Ended s
  end-reads n view (Ok u) (Ok x) M shows made one = subst (Sole Ended) (sym (shows u x made)) (end_sole one.holds)
  end-reads n view (Ok u) (Err f) M shows made one = absurd made
  end-reads n view (Err e) s M shows is bad = subst (Reads n view Ended) (sym is) (passed (λ (_ : Unit {0}). End) Ended n e end_none bad)

pub same-sole : {W : Type 0} (w : W) → Sole (λ x. x ≡ w) w
same-sole w = record { holds = refl; only = λ x h. h }
