-- The calls, the number of slots and the number of units tell what is answered and what stands, whatever the hasher.
use Rattle.std.proofs.Common.{◌≡◌, ℕ, ◌+◌, ◌<◌, ◌≤◌, List, [], ◌∷◌, length, Some, None, Ok, Err, Option, Result, sym, refl, ap, ◌∙◌, subst, inl, inr, arith}
use Rattle.std.proofs.lemmas.Bool.{cases_lt}
use Rattle.catalogue.specs.declared.fault.Fault.{Fault}
use Rattle.catalogue.specs.declared.fault.Fault.TheVariants.{Input, NoSlot, NoUnits}
use Rattle.catalogue.specs.declared.fault.NotStanding.{NotStanding}
use Rattle.catalogue.specs.declared.record.Entered.{Entered}
use Rattle.catalogue.specs.Calls.{SlotFree, EnterRefused, FindRefused}
use Rattle.catalogue.specs.Classes.{First, ClassOf}
use Rattle.catalogue.specs.Kinds.{Sense, Sound}
use Rattle.catalogue.specs.Model.{Event, entering, finding, cutting, call, calls, total, Answers, Stands}
use Rattle.catalogue.proofs.Numbering.{class-one}

-- there is one first number
pub least-one : (P : ℕ → Type 0) (a b : ℕ) → P a → P b → ((j : ℕ) → j < a → P j → ⊥) → ((j : ℕ) → j < b → P j → ⊥) → a ≡ b
least-one P a b p q np nq = elim (cases_lt a b) [
  | inl lt ↦ absurd (nq a lt p)
  | inr ge ↦ elim (cases_lt b a) [ inl lt ↦ absurd (np b lt q) | inr le ↦ omega arith ]
]

pub first_one : (P : ℕ → Type 0) (n : ℕ) (r q : Option ℕ) → First P n r → First P n q → r ≡ q
first_one P n None None a b = refl
first_one P n None (Some i) a b = absurd (a i b.0 b.1)
first_one P n (Some i) None a b = absurd (b i a.0 a.1)
first_one P n (Some i) (Some j) a b = ap Some (least-one P i j a.1 b.1 a.2 b.2)

no_way : {A : Type 0} → ◌≡◌ {A = ℕ} 0 1 → A
no_way z = absurd (omega (arith, z))

-- a kind under two hashers
module _ {U F : Type 0} (meets : ℕ → List U → Type 0) (same : List U → List U → Type 0) (number : F → ℕ)
    (one_fault : (e e' : F) → number e ≡ number e' → e ≡ e') (h₁ h₂ : List U → ℕ) where
  abbrev pub k₁ : Sense U F
  k₁ = record { meets = meets; same = same; hashed = h₁; number = number }

  abbrev pub k₂ : Sense U F
  k₂ = record { meets = meets; same = same; hashed = h₂; number = number }

  -- what refuses a run
  found-one : (run : List U) (e e' : F) → FindRefused k₁ run e → FindRefused k₂ run e' → e ≡ e'
  found-one run e e' a b = one_fault e e' (least-one (λ n. meets n run) (number e) (number e') a.0 b.0 a.1 b.1)

  refused-one : (slots units n u : ℕ) (run : List U) (f g : Fault F) → EnterRefused k₁ slots units n u run f → EnterRefused k₂ slots units n u run g → f ≡ g
  refused-one slots units n u run (Input e) (Input e') a b = ap Input (found-one run e e' a b)
  refused-one slots units n u run (Input e) NoSlot a b = absurd (b.0 (number e) a.0)
  refused-one slots units n u run (Input e) NoUnits a b = absurd (b.0 (number e) a.0)
  refused-one slots units n u run NoSlot (Input e) a b = absurd (a.0 (number e) b.0)
  refused-one slots units n u run NoSlot NoSlot a b = refl
  refused-one slots units n u run NoSlot NoUnits a b = absurd (a.1 b.1)
  refused-one slots units n u run NoUnits (Input e) a b = absurd (a.0 (number e) b.0)
  refused-one slots units n u run NoUnits NoSlot a b = absurd (b.1 a.1)
  refused-one slots units n u run NoUnits NoUnits a b = refl

  -- a run that is entered is not refused
  granted-not : (k : Sense U F) (slots units n u : ℕ) (run : List U) (f : Fault F) → Sound k run → SlotFree slots n → u + length run ≤ units → EnterRefused k slots units n u run f → ⊥
  granted-not k slots units n u run (Input e) sound slot room b = sound (k.number e) b.0
  granted-not k slots units n u run NoSlot sound slot room b = b.1 slot
  granted-not k slots units n u run NoUnits sound slot room b = omega (arith, room, b.2)

  entered-one : (e e' : Entered) → e.number ≡ e'.number → e.class ≡ e'.class → e ≡ e'
  entered-one e e' a b =
      let F : ℕ → ℕ → Entered = λ n c. record { number = n; class = c } in
      ap (λ (n : ℕ). F n e.class) a ∙ ap (λ (c : ℕ). F e'.number c) b

  enter_one : (slots units : ℕ) (rs : List (List U)) (run : List U) (r r' : Result Entered (Fault F)) (x y : List (List U))
      → Answers k₁ slots units rs (entering run r) x → Answers k₂ slots units rs (entering run r') y → (r ≡ r') × (x ≡ y)
  enter_one slots units rs run (Ok e) (Ok e') x y a b =
      let xy : x ≡ y = a.last ∙ sym b.last in
      let class : ClassOf k₁ x (length rs) e'.class = subst (λ (z : List (List U)). ClassOf k₁ z (length rs) e'.class) (sym xy) b.class in
      (ap Ok (entered-one e e' (a.number ∙ sym b.number) (class-one k₁ x (length rs) e.class e'.class a.class class)), xy)
  enter_one slots units rs run (Ok e) (Err f) x y a b =
      absurd (granted-not k₂ slots units (length rs) (total rs) run f a.granted.sound a.granted.slot a.granted.room b.0)
  enter_one slots units rs run (Err f) (Ok e) x y a b =
      absurd (granted-not k₁ slots units (length rs) (total rs) run f b.granted.sound b.granted.slot b.granted.room a.0)
  enter_one slots units rs run (Err f) (Err g) x y a b = (ap Err (refused-one slots units (length rs) (total rs) run f g a.0 b.0), a.1 ∙ sym b.1)

  find-one : (slots units : ℕ) (rs : List (List U)) (run : List U) (r r' : Result (Option ℕ) F) (x y : List (List U))
      → Answers k₁ slots units rs (finding run r) x → Answers k₂ slots units rs (finding run r') y → (r ≡ r') × (x ≡ y)
  find-one slots units rs run (Ok o) (Ok o') x y a b = (ap Ok (first_one _ (length rs) o o' a.1 b.1), a.2 ∙ sym b.2)
  find-one slots units rs run (Ok o) (Err f) x y a b = absurd (a.0 (number f) b.0.0)
  find-one slots units rs run (Err f) (Ok o) x y a b = absurd (b.0 (number f) a.0.0)
  find-one slots units rs run (Err f) (Err g) x y a b = (ap Err (found-one run f g a.0 b.0), a.1 ∙ sym b.1)

  cut-one : (slots units : ℕ) (rs : List (List U)) (n : ℕ) (r r' : Result (Unit {0}) NotStanding) (x y : List (List U))
      → Answers k₁ slots units rs (cutting n r) x → Answers k₂ slots units rs (cutting n r') y → (r ≡ r') × (x ≡ y)
  cut-one slots units rs n (Ok u) (Ok u') x y a b = (refl, a.1 ∙ sym b.1)
  cut-one slots units rs n (Ok u) (Err f) x y a b = absurd (omega (arith, a.0, b.0))
  cut-one slots units rs n (Err f) (Ok u) x y a b = absurd (omega (arith, a.0, b.0))
  cut-one slots units rs n (Err f) (Err g) x y a b = (refl, a.1 ∙ sym b.1)

  answer-one : (slots units : ℕ) (rs : List (List U)) (e e' : Event U F) (x y : List (List U))
      → Answers k₁ slots units rs e x → Answers k₂ slots units rs e' y → call e ≡ call e' → (e ≡ e') × (x ≡ y)
  answer-one slots units rs (entering run r) (entering run' r') x y a b q =
      let same-run : run ≡ run' = cc in
      let one = enter_one slots units rs run r r' x y a (subst (λ (u : List U). Answers k₂ slots units rs (entering u r') y) (sym same-run) b) in
      (ap (λ (u : List U). entering u r) same-run ∙ ap (entering run') one.0, one.1)
  answer-one slots units rs (entering run r) (finding run' r') x y a b q = no_way (cc)
  answer-one slots units rs (entering run r) (cutting n r') x y a b q = no_way (cc)
  answer-one slots units rs (finding run r) (entering run' r') x y a b q = no_way (cc)
  answer-one slots units rs (finding run r) (finding run' r') x y a b q =
      let same-run : run ≡ run' = cc in
      let one = find-one slots units rs run r r' x y a (subst (λ (u : List U). Answers k₂ slots units rs (finding u r') y) (sym same-run) b) in
      (ap (λ (u : List U). finding u r) same-run ∙ ap (finding run') one.0, one.1)
  answer-one slots units rs (finding run r) (cutting n r') x y a b q = no_way (cc)
  answer-one slots units rs (cutting n r) (entering run' r') x y a b q = no_way (cc)
  answer-one slots units rs (cutting n r) (finding run' r') x y a b q = no_way (cc)
  answer-one slots units rs (cutting n r) (cutting m r') x y a b q =
      let same-cut : n ≡ m = cc in
      let one = cut-one slots units rs n r r' x y a (subst (λ (u : ℕ). Answers k₂ slots units rs (cutting u r') y) (sym same-cut) b) in
      (ap (λ (u : ℕ). cutting u r) same-cut ∙ ap (cutting m) one.0, one.1)

  pub stand-one : (slots units : ℕ) (h j : List (Event U F)) (x y : List (List U)) → Stands k₁ slots units h x → Stands k₂ slots units j y → calls h ≡ calls j → (h ≡ j) × (x ≡ y)
  stand-one slots units [] [] x y a b q = (refl, a ∙ sym b)
  stand-one slots units [] (e ∷ j) x y a b q = no_way (cc)
  stand-one slots units (e ∷ h) [] x y a b q = no_way (cc)
  stand-one slots units (e ∷ h) (e' ∷ j) x y (rs, past, a) (rs', past', b) q =
      let first : call e ≡ call e' = cc in
      let rest : calls h ≡ calls j = cc in
      let before = stand-one slots units h j rs rs' past past' rest in
      let one = answer-one slots units rs e e' x y a (subst (λ (z : List (List U)). Answers k₂ slots units z e' y) (sym before.1) b) first in
      (ap (λ (z : Event U F). z ∷ h) one.0 ∙ ap (λ (z : List (Event U F)). e' ∷ z) before.0, one.1)
