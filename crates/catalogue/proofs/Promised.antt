-- The promise, for a kind whose sameness is an equivalence of its sound runs.
use Rattle.std.proofs.Common.{◌≡◌, ℕ, ◌<◌, List, length, sym, ◌∙◌, subst, subst₂, arith}
use Rattle.catalogue.specs.Kinds.{Sense, sense}
use Rattle.catalogue.specs.Classes.{Begun, ClassOf}
use Rattle.catalogue.specs.Model.{Event, calls, Stands}
use Rattle.catalogue.specs.Promise.{Reached, Alike, Promise}
use Rattle.catalogue.specs.States.{State, class_at}
use Rattle.catalogue.proofs.Choosing.{some-choice, most-choice}
use Rattle.catalogue.proofs.Lawful.{Lawful}
use Rattle.catalogue.proofs.Numbering.{begun-one, class-one, same_class, class_same}
use Rattle.catalogue.proofs.Reaching.{reached-stored}
use Rattle.catalogue.proofs.Telling.{stand-one}

module _ {X U F : Type 0} (meets : X → ℕ → List U → Type 0) (same : X → List U → List U → Type 0) (feed : X → (List ℕ → ℕ) → List U → List ℕ)
    (number : F → ℕ) (one_fault : (e e' : F) → number e ≡ number e' → e ≡ e') (k : X)
    (lawful : (f : List ℕ → ℕ) → Lawful (sense meets same feed number k f)) where
  abbrev kind : (List ℕ → ℕ) → Sense U F
  kind = sense meets same feed number k

  -- a second catalogue
  alike : (f g : List ℕ → ℕ) (h j : List (Event U F)) (s t : State U) → Reached (kind f) h s → Reached (kind g) j t → calls h ≡ calls j
      → length s.slots ≡ length t.slots → length s.units ≡ length t.units → Alike h s j t
  alike f g h j s t past past' q slots units =
      let one = reached-stored (kind f) (lawful f) h s past in
      let other = reached-stored (kind g) (lawful g) j t past' in
      let stand : Stands (kind g) (length s.slots) (length s.units) j other.0 =
      subst₂ (λ (n m : ℕ). Stands (kind g) n m j other.0) (sym slots) (sym units) other.1 in
      let both = stand-one (meets k) (same k) number one_fault (λ run. f (feed k f run)) (λ run. g (feed k g run)) _ _ h j one.0 other.0 one.1 stand q in
      let a = one.2.held in
      let b = other.2.held in
      record {
        answers = both.0;
        standing = a.standing ∙ sym (subst (λ (rs : List (List U)). t.numbers.standing ≡ length rs) (sym both.1) b.standing);
        classes = begun-one (kind f) one.0 (length one.0) _ _ a.classes
            (subst (λ (rs : List (List U)). Begun (kind f) rs (length rs) t.numbers.classes) (sym both.1) b.classes);
        class = λ i lt. (
            let here : i < length one.0 = omega (arith, a.standing) in
            let there : i < length other.0 = subst (λ (rs : List (List U)). i < length rs) both.1 here in
            class-one (kind f) one.0 i _ _ (a.class i here)
            (subst (λ (rs : List (List U)). ClassOf (kind f) rs i (class_at t i)) (sym both.1) (b.class i there)));
      }

  pub promised : (f : List ℕ → ℕ) (h : List (Event U F)) (s : State U) → Reached (kind f) h s → Promise kind f h s s.numbers.classes
  promised f h s past =
      let l = lawful f in
      let all = reached-stored (kind f) l h s past in
      let rs = all.0 in
      let st = all.2 in
      record {
        runs = rs;
        stand = all.1;
        held = st.held;
        told = λ j qs stand q. stand-one (meets k) (same k) number one_fault (λ run. f (feed k f run)) (λ run. f (feed k f run)) _ _ h j rs qs all.1 stand q;
        some = some-choice (kind f) l rs st.held.sound s.numbers.classes st.held.classes;
        most = most-choice (kind f) l rs st.held.sound (λ i lt. (class_at s i, st.held.class i lt)) s.numbers.classes st.held.classes;
        one_class = λ i j li lj. same_class (kind f) l rs st.held.sound i j _ _ li lj (st.held.class i li) (st.held.class j lj);
        one_same = λ i j li lj. class_same (kind f) l rs st.held.sound i j _ _ li lj (st.held.class i li) (st.held.class j lj);
        alike = λ g j t past'. alike f g h j s t past past';
      }
