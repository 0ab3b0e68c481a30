-- A run that is entered is stored last, and what was stored before it stays.
use Rattle.std.proofs.Common.{◌≡◌, ℕ, ◌+◌, ◌<◌, ◌≤◌, ◌≢◌, List, [], ◌∷◌, ◌++◌, length, sym, refl, ap, ◌∙◌, subst, arith, length-set, take_all, get_or-set_other, get_or-set_same, below_more}
use lib.Seq.{length-paste, take-append-le}
use Rattle.std.proofs.lemmas.List.{length-append, get_or_append_left, get_or-append-add}
use Rattle.catalogue.specs.declared.record.Slot.{Slot}
use Rattle.catalogue.specs.declared.record.Entered.{Entered}
use Rattle.catalogue.specs.Calls.{EnterGranted, Placed}
use Rattle.catalogue.specs.Classes.{entry, Begun, ClassOf}
use Rattle.catalogue.specs.Kinds.{Sense, Sound}
use Rattle.catalogue.specs.Model.{total, Enters}
use Rattle.catalogue.specs.States.{State, slot_at, no_slot, run_of, run_at, class_at}
use Rattle.catalogue.proofs.Lawful.{Lawful}
use Rattle.catalogue.proofs.Numbering.{begun-like, class-like}
use Rattle.catalogue.proofs.Pasted.{earlier-kept, pasted-there}
use Rattle.catalogue.proofs.Stored.{Says, Stored, intact, first-same, class-last, total-last, total-take}

module _ {U F : Type 0} (k : Sense U F) (l : Lawful k) (s t : State U) (rs : List (List U)) (run : List U) (e : Entered)
    (st : Stored k s rs)
    (granted : EnterGranted k (length s.slots) (length s.units) s.numbers.standing s.numbers.used run)
    (placed : Placed k s run e.number e.class t) where
  abbrev longer : List (List U)
  longer = rs ++ (run ∷ [])

  abbrev last : Slot
  last = record { start = s.numbers.used; len = length run; hash = k.hashed run; class = e.class; begun = s.numbers.classes }

  count : s.numbers.standing ≡ length rs
  count = st.held.standing

  length-longer : length longer ≡ length rs + 1
  length-longer = length-append rs (run ∷ [])

  ---- the row

  entry_kept : (i : ℕ) → i < length rs → entry rs i ≡ entry longer i
  entry_kept i lt = sym (get_or_append_left rs (run ∷ []) [] i lt)

  entry-last : entry longer (length rs) ≡ run
  entry-last = let z : length rs ≡ length rs + 0 = omega arith in ap (entry longer) z ∙ get_or-append-add rs (run ∷ []) 0 []

  ---- the memory

  slot_kept : (i : ℕ) → i < length rs → slot_at t.slots i ≡ slot_at s.slots i
  slot_kept i lt =
      let ne : i ≢ s.numbers.standing = omega (arith, count) in
      ap (λ (x : List Slot). slot_at x i) placed.slots ∙ get_or-set_other s.slots s.numbers.standing i last no_slot ne

  slot-last : slot_at t.slots (length rs) ≡ last
  slot-last =
      ap (λ (n : ℕ). slot_at t.slots n) (sym count)
      ∙ ap (λ (x : List Slot). slot_at x s.numbers.standing) placed.slots
      ∙ get_or-set_same s.slots s.numbers.standing last no_slot granted.slot.0

  room : s.numbers.used ≤ length s.units
  room = omega (arith, granted.room)

  run-kept : (i : ℕ) → i < length rs → run_at t i ≡ run_at s i
  run-kept i lt =
      let says = st.each i lt in
      let within : (slot_at s.slots i).start + (slot_at s.slots i).len ≤ s.numbers.used = omega (arith, says.start, says.len, total-take rs i lt, st.used) in
      ap (run_of t.units) (slot_kept i lt) ∙ ap (λ (u : List U). run_of u (slot_at s.slots i)) placed.units
      ∙ earlier-kept s.units s.numbers.used run (length run) (slot_at s.slots i).start (slot_at s.slots i).len within room

  run-last : run_at t (length rs) ≡ run
  run-last = ap (run_of t.units) slot-last ∙ ap (λ (u : List U). run_of u last) placed.units ∙ pasted-there s.units s.numbers.used run room

  pub slots-long : length t.slots ≡ length s.slots
  slots-long = ap length placed.slots ∙ length-set _ _ _

  pub units-long : length t.units ≡ length s.units
  units-long = ap length placed.units ∙ length-paste s.units s.numbers.used run (length run) granted.room (omega arith)

  ---- both

  class : ClassOf k longer (length rs) e.class × Begun k longer (length rs + 1) t.numbers.classes
  class =
      let first = placed.class (intact k s rs st) in
      class-last k s rs st l run granted.sound first.0 e.class t.numbers.classes (first-same k s rs st run first.0 first.1) first.2

  each : (P : ℕ → Type 0) → ((i : ℕ) → i < length rs → P i) → P (length rs) → (i : ℕ) → i < length longer → P i
  each P a b i lt = let lt' : i < length rs + 1 = omega (arith, length-longer) in below_more P (length rs) a b i lt'

  says-kept : (i : ℕ) → i < length rs → Says k longer i (slot_at t.slots i)
  says-kept i lt =
      let says = st.each i lt in
      subst (Says k longer i) (sym (slot_kept i lt)) (record {
        start = says.start ∙ ap total (sym (take-append-le i rs (run ∷ []) (omega arith)));
        len = says.len ∙ ap length (entry_kept i lt);
        begun = begun-like k rs longer i _ (λ j lj. entry_kept j (omega arith)) says.begun;
      })

  says_last : Says k longer (length rs) (slot_at t.slots (length rs))
  says_last =
      let whole : length rs ≤ length rs = omega arith in
      subst (Says k longer (length rs)) (sym slot-last) (record {
        start = st.used ∙ ap total (sym (take-append-le (length rs) rs (run ∷ []) whole ∙ take_all (length rs) rs whole));
        len = ap length (sym entry-last);
        begun = begun-like k rs longer (length rs) _ (λ j lj. entry_kept j lj) st.held.classes;
      })

  pub entered-stored : Stored k t longer
  entered-stored = record {
    held = record {
      standing = omega (arith, placed.standing, count, length-longer);
      runs = each (λ i. run_at t i ≡ entry longer i) (λ i lt. run-kept i lt ∙ st.held.runs i lt ∙ entry_kept i lt) (run-last ∙ sym entry-last);
      hash = each (λ i. (slot_at t.slots i).hash ≡ k.hashed (entry longer i))
          (λ i lt. ap (λ (x : Slot). x.hash) (slot_kept i lt) ∙ st.held.hash i lt ∙ ap k.hashed (entry_kept i lt))
          (ap (λ (x : Slot). x.hash) slot-last ∙ ap k.hashed (sym entry-last));
      sound = each (λ i. Sound k (entry longer i)) (λ i lt. subst (Sound k) (entry_kept i lt) (st.held.sound i lt)) (subst (Sound k) (sym entry-last) granted.sound);
      class = each (λ i. ClassOf k longer i (class_at t i))
          (λ i lt. subst (ClassOf k longer i) (ap (λ (x : Slot). x.class) (sym (slot_kept i lt))) (class-like k rs longer i _ (λ j lj. entry_kept j (omega arith)) (st.held.class i lt)))
          (subst (ClassOf k longer (length rs)) (ap (λ (x : Slot). x.class) (sym slot-last)) class.0);
      classes = subst (λ (n : ℕ). Begun k longer n t.numbers.classes) (sym length-longer) class.1;
    };
    used = omega (arith, placed.used, st.used, total-last rs run);
    slots = omega (arith, length-longer, slots-long, granted.slot.0, count);
    units = omega (arith, total-last rs run, units-long, granted.room, st.used);
    each = each (λ i. Says k longer i (slot_at t.slots i)) says-kept says_last;
  }

  pub entered-answers : Enters k (length s.slots) (length s.units) rs run e longer
  entered-answers = record {
    granted = record {
      sound = granted.sound;
      slot = (omega (arith, granted.slot.0, count), omega (arith, granted.slot.1, count));
      room = omega (arith, granted.room, st.used);
    };
    number = placed.number ∙ count;
    last = refl;
    class = class.0;
  }
