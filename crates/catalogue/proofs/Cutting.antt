-- After a cut the first entries are stored as they were.
use Rattle.std.proofs.Common.{◌≡◌, ℕ, ◌<◌, ◌≤◌, Bool, cond, ltb, List, [], length, take, sym, ap, ◌∙◌, subst, inl, inr, arith, length-take-le, take_all, get_or-take, take-take, le-ltb, lt-ltb}
use Rattle.std.proofs.lemmas.Bool.{cases_lt}
use Rattle.catalogue.specs.declared.record.Slot.{Slot}
use Rattle.catalogue.specs.Calls.{CutTo}
use Rattle.catalogue.specs.Classes.{entry, Begun, ClassOf}
use Rattle.catalogue.specs.Kinds.{Sense, Sound}
use Rattle.catalogue.specs.Model.{total}
use Rattle.catalogue.specs.States.{State, slot_at, run_of, run_at}
use Rattle.catalogue.proofs.Numbering.{begun-like, class-like}
use Rattle.catalogue.proofs.Stored.{Says, Stored, begun-few, total-take}

cond_yes : (a b x y : ℕ) → a < b → cond (ltb a b) x y ≡ x
cond_yes a b x y h = ap (λ (t : Bool). cond t x y) (lt-ltb a b h)

cond_no : (a b x y : ℕ) → b ≤ a → cond (ltb a b) x y ≡ y
cond_no a b x y h = ap (λ (t : Bool). cond t x y) (le-ltb a b h)

module _ {U F : Type 0} (k : Sense U F) (s t : State U) (rs : List (List U)) (n : ℕ) (st : Stored k s rs)
    (cut : CutTo s.numbers s.slots n t.numbers) (slots : t.slots ≡ s.slots) (units : t.units ≡ s.units) where
  abbrev front : List (List U)
  front = take n rs

  few : n ≤ length rs
  few = omega (arith, cut.few, st.held.standing)

  length_front : length front ≡ n
  length_front = length-take-le n rs few

  entry-front : (i : ℕ) → i < n → entry rs i ≡ entry front i
  entry-front i lt = sym (get_or-take n rs i [] lt)

  slot_kept : (i : ℕ) → slot_at t.slots i ≡ slot_at s.slots i
  slot_kept i = ap (λ (x : List Slot). slot_at x i) slots

  run-kept : (i : ℕ) → run_at t i ≡ run_at s i
  run-kept i = ap (run_of t.units) (slot_kept i) ∙ ap (λ (u : List U). run_of u (slot_at s.slots i)) units

  -- the units of the entries that are kept, and their classes
  numbers : (t.numbers.used ≡ total front) × (total front ≤ total rs) × Begun k rs n t.numbers.classes
  numbers = elim (cases_lt n s.numbers.standing) [
    | inl lt ↦ (
        let lt' : n < length rs = omega (arith, st.held.standing) in
        let says = st.each n lt' in
        let le = begun-few k rs n _ says.begun in (
          cut.used ∙ cond_yes n s.numbers.standing _ _ lt ∙ says.start,
          omega (arith, total-take rs n lt'),
          subst (Begun k rs n) (sym (cut.classes ∙ cond_yes n s.numbers.standing _ _ lt ∙ omega arith)) says.begun,
        ))
    | inr ge ↦ (
        let all : length rs ≡ n = omega (arith, st.held.standing, few) in
        let whole : front ≡ rs = take_all n rs (omega arith) in (
          cut.used ∙ cond_no n s.numbers.standing _ _ ge ∙ st.used ∙ ap total (sym whole),
          omega (arith, ap total whole),
          subst (λ (m : ℕ). Begun k rs m t.numbers.classes) all (subst (Begun k rs (length rs)) (sym (cut.classes ∙ cond_no n s.numbers.standing _ _ ge)) st.held.classes),
        ))
  ]

  pub cut-stored : Stored k t front
  cut-stored = record {
    held = record {
      standing = cut.standing ∙ sym length_front;
      runs = λ i lt. (let in-n : i < n = omega (arith, length_front) in run-kept i ∙ st.held.runs i (omega (arith, few)) ∙ entry-front i in-n);
      hash = λ i lt. (
          let in-n : i < n = omega (arith, length_front) in
          ap (λ (x : Slot). x.hash) (slot_kept i) ∙ st.held.hash i (omega (arith, few)) ∙ ap k.hashed (entry-front i in-n));
      sound = λ i lt. (let in-n : i < n = omega (arith, length_front) in subst (Sound k) (entry-front i in-n) (st.held.sound i (omega (arith, few))));
      class = λ i lt. (
          let in-n : i < n = omega (arith, length_front) in
          subst (ClassOf k front i) (ap (λ (x : Slot). x.class) (sym (slot_kept i)))
          (class-like k rs front i _ (λ j lj. entry-front j (omega arith)) (st.held.class i (omega (arith, few)))));
      classes = subst (λ (m : ℕ). Begun k front m t.numbers.classes) (sym length_front) (begun-like k rs front n _ entry-front numbers.2);
    };
    used = numbers.0;
    slots = omega (arith, length_front, few, st.slots, ap length slots);
    units = omega (arith, numbers.1, st.units, ap length units);
    each = λ i lt. (
        let in-n : i < n = omega (arith, length_front) in
        let says = st.each i (omega (arith, few)) in
        subst (Says k front i) (sym (slot_kept i)) (record {
          start = says.start ∙ ap total (sym (take-take i n rs (omega arith)));
          len = says.len ∙ ap length (entry-front i in-n);
          begun = begun-like k rs front i _ (λ j lj. entry-front j (omega arith)) says.begun;
        }));
  }
