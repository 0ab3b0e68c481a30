-- Of every state that calls reach: what stands by the calls is stored in it, and each call has answered as it should.
use Rattle.std.proofs.Common.{◌≡◌, ℕ, List, [], ◌∷◌, ◌++◌, length, take, Ok, Err, sym, refl, ap, ◌∙◌, subst, subst₂, arith}
use Rattle.catalogue.specs.declared.record.Slot.{Slot}
use Rattle.catalogue.specs.Calls.{EnterRefused}
use Rattle.catalogue.specs.Kinds.{Sense}
use Rattle.catalogue.specs.Model.{Event, entering, finding, cutting, Answers, Stands}
use Rattle.catalogue.specs.Promise.{Step, Reached}
use Rattle.catalogue.specs.States.{State, state}
use Rattle.catalogue.specs.Numbers.{Numbers}
use Rattle.catalogue.proofs.Cutting.{cut-stored}
use Rattle.catalogue.proofs.Entering.{entered-answers, entered-stored, slots-long, units-long}
use Rattle.catalogue.proofs.Lawful.{Lawful}
use Rattle.catalogue.proofs.Stored.{Stored, intact, first-same}

same-state : {U : Type 0} (s t : State U) → s.numbers ≡ t.numbers → s.slots ≡ t.slots → s.units ≡ t.units → s ≡ t
same-state s t a b c =
    ap (λ (x : Numbers). state x s.slots s.units) a ∙ ap (λ (x : List Slot). state t.numbers x s.units) b
    ∙ ap (λ (x : List _). state t.numbers t.slots x) c

-- what stands after a call, with the right answer
pub record After {U F : Type 0} (k : Sense U F) (s : State U) (rs : List (List U)) (e : Event U F) (t : State U) : Type 0 where
  pub runs : List (List U)
  pub answers : Answers k (length s.slots) (length s.units) rs e runs
  pub stored : Stored k t runs
  pub slots : length t.slots ≡ length s.slots
  pub units : length t.units ≡ length s.units

module _ {U F : Type 0} (k : Sense U F) (l : Lawful k) where
  -- a call that leaves the state as it is
  unmoved : (s t : State U) (rs : List (List U)) (e : Event U F) → Stored k s rs → t ≡ s → Answers k (length s.slots) (length s.units) rs e rs → After k s rs e t
  unmoved s t rs e st q a = record {
    runs = rs;
    answers = a;
    stored = subst (λ (x : State U). Stored k x rs) (sym q) st;
    slots = ap (λ (x : State U). length x.slots) q;
    units = ap (λ (x : State U). length x.units) q;
  }

  after : (s t : State U) (rs : List (List U)) (e : Event U F) → Stored k s rs → Step k s e t → After k s rs e t
  after s t rs (entering run (Ok e)) st step = record {
    runs = rs ++ (run ∷ []);
    answers = entered-answers k l s t rs run e st step.0 step.1;
    stored = entered-stored k l s t rs run e st step.0 step.1;
    slots = slots-long k l s t rs run e st step.0 step.1;
    units = units-long k l s t rs run e st step.0 step.1;
  }
  after s t rs (entering run (Err f)) st step =
      unmoved s t rs (entering run (Err f)) st step.1
      (subst₂ (λ (n u : ℕ). EnterRefused k (length s.slots) (length s.units) n u run f) st.held.standing st.used step.0, refl)
  after s t rs (finding run (Ok r)) st step =
      unmoved s t rs (finding run (Ok r)) st step.1 (step.0.0, first-same k s rs st run r (step.0.1 (intact k s rs st)), refl)
  after s t rs (finding run (Err f)) st step = unmoved s t rs (finding run (Err f)) st step.1 (step.0, refl)
  after s t rs (cutting n (Ok u)) st step = record {
    runs = take n rs;
    answers = (omega (arith, step.0.few, st.held.standing), refl);
    stored = cut-stored k s t rs n st step.0 step.1 step.2;
    slots = ap length step.1;
    units = ap length step.2;
  }
  after s t rs (cutting n (Err f)) st step =
      unmoved s t rs (cutting n (Err f)) st (same-state t s step.0.1 step.1 step.2) (omega (arith, step.0.0, st.held.standing), refl)

  -- nothing stands at first
  empty : (t : State U) → Reached k [] t → Stored k t []
  empty t z =
      let standing = ap (λ (x : Numbers). x.standing) z in
      let used = ap (λ (x : Numbers). x.used) z in
      record {
        held = record { standing = standing; runs = λ i lt. absurd (omega arith); sound = λ i lt. absurd (omega arith); hash = λ i lt. absurd (omega arith); class = λ i lt. absurd (omega arith); classes = ap (λ (x : Numbers). x.classes) z };
        used = used;
        slots = omega arith;
        units = omega arith;
        each = λ i lt. absurd (omega arith);
      }

  pub reached-stored : (h : List (Event U F)) (t : State U) → Reached k h t → (rs : List (List U)) × Stands k (length t.slots) (length t.units) h rs × Stored k t rs
  reached-stored [] t z = ([], refl, empty t z)
  reached-stored (e ∷ h) t (s, past, step) =
      let before = reached-stored h s past in
      let now = after s t before.0 e before.2 step in (
        now.runs,
        subst₂ (λ (n m : ℕ). Stands k n m (e ∷ h) now.runs) (sym now.slots) (sym now.units) (before.0, before.1, now.answers),
        now.stored,
      )
