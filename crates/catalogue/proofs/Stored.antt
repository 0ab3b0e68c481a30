-- The record and the memory of a state hold the runs of a row, and what the calls do to them.
use Rattle.std.proofs.Common.{◌≡◌, ℕ, zero, suc, ◌+◌, ◌<◌, ◌≤◌, List, [], ◌∷◌, ◌++◌, length, take, Some, None, Option, sym, ap, ◌∙◌, subst, inl, inr, arith}
use Rattle.catalogue.specs.declared.record.Slot.{Slot}
use Rattle.catalogue.specs.Calls.{Classed}
use Rattle.catalogue.specs.Classes.{entry, FirstSame, Begun, ClassOf}
use Rattle.catalogue.specs.Kinds.{Sense, Sound}
use Rattle.catalogue.specs.Model.{total}
use Rattle.catalogue.specs.Promise.{Holds}
use Rattle.catalogue.specs.States.{State, Intact, FirstAt, slot_at, class_at}
use Rattle.catalogue.proofs.Lawful.{Lawful}
use Rattle.catalogue.proofs.Numbering.{new-class, old-class}

---- rows

pub total-last : {U : Type 0} (rs : List (List U)) (run : List U) → total (rs ++ (run ∷ [])) ≡ total rs + length run
total-last [] run = omega arith
total-last (r ∷ rs) run = let e = total-last rs run in omega arith

pub total-take : {U : Type 0} (rs : List (List U)) (i : ℕ) → i < length rs → total (take i rs) + length (entry rs i) ≤ total rs
total-take [] i lt = absurd (omega arith)
total-take (r ∷ rs) zero lt = omega arith
total-take (r ∷ rs) (suc i) lt = let e = total-take rs i (omega arith) in omega arith

pub begun-few : {U F : Type 0} (k : Sense U F) (rs : List (List U)) (n m : ℕ) → Begun k rs n m → m ≤ n
begun-few k rs zero m b = omega (arith, b)
begun-few k rs (suc n) m (inl (_, (l, e, b))) = omega (arith, e, begun-few k rs n l b)
begun-few k rs (suc n) m (inr (_, b)) = omega (arith, begun-few k rs n m b)

---- what is stored

-- what the slot of entry i says
pub record Says {U F : Type 0} (k : Sense U F) (rs : List (List U)) (i : ℕ) (slot : Slot) : Type 0 where
  pub start : slot.start ≡ total (take i rs)
  pub len : slot.len ≡ length (entry rs i)
  pub begun : Begun k rs i slot.begun

pub record Stored {U F : Type 0} (k : Sense U F) (s : State U) (rs : List (List U)) : Type 0 where
  pub held : Holds k s rs
  pub used : s.numbers.used ≡ total rs
  pub slots : length rs ≤ length s.slots
  pub units : total rs ≤ length s.units
  pub each : (i : ℕ) → i < length rs → Says k rs i (slot_at s.slots i)

module _ {U F : Type 0} (k : Sense U F) (s : State U) (rs : List (List U)) (st : Stored k s rs) where
  pub intact : Intact k s
  intact = record {
    standing = omega (arith, st.held.standing, st.slots);
    used = omega (arith, st.used, st.units);
    each = λ i lt. (
        let lt' : i < length rs = omega (arith, st.held.standing) in
        let says = st.each i lt' in
        record {
          within = omega (arith, says.start, says.len, total-take rs i lt', st.used);
          sound = subst (Sound k) (sym (st.held.runs i lt')) (st.held.sound i lt');
          hash = st.held.hash i lt' ∙ ap k.hashed (sym (st.held.runs i lt'));
        });
  }

  -- the first entry in memory that is the same is the first in the row
  pub first-same : (run : List U) (r : Option ℕ) → FirstAt k s run r → FirstSame k rs run r
  first-same run None a = λ j lt h. a j (omega (arith, st.held.standing)) (subst (λ (x : List U). k.same x run) (sym (st.held.runs j lt)) h)
  first-same run (Some i) a =
      let lt : i < length rs = omega (arith, a.0, st.held.standing) in (
        lt,
        subst (λ (x : List U). k.same x run) (st.held.runs i lt) a.1,
        λ j lj h. a.2 j lj (subst (λ (x : List U). k.same x run) (sym (st.held.runs j (omega arith))) h),
      )

  -- the class of a run that is put last
  pub class-last : Lawful k → (run : List U) → Sound k run → (r : Option ℕ) (c n : ℕ) → FirstSame k rs run r → Classed s r c n
      → ClassOf k (rs ++ (run ∷ [])) (length rs) c × Begun k (rs ++ (run ∷ [])) (length rs + 1) n
  class-last l run ok None c n f cl =
      let new = new-class k l rs run st.held.sound ok f s.numbers.classes st.held.classes in
      (subst (ClassOf k (rs ++ (run ∷ [])) (length rs)) (sym cl.0) new.0, subst (Begun k (rs ++ (run ∷ [])) (length rs + 1)) (sym cl.1) new.1)
  class-last l run ok (Some i) c n f cl =
      let old = old-class k l rs run st.held.sound ok i f (class_at s i) s.numbers.classes (st.held.class i f.0) st.held.classes in
      (subst (ClassOf k (rs ++ (run ∷ [])) (length rs)) (sym cl.0) old.0, subst (Begun k (rs ++ (run ∷ [])) (length rs + 1)) (sym cl.1) old.1)
