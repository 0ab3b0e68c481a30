-- The heading, part by part. Assumes nothing.
use Rattle.std.proofs.Common.{◌≡◌, ℕ, true, false, Bor, List, Option, Some, None, Ok, Err, Result, is_some, refl, inl, inr, ⊎_elim}
use Rattle.std.proofs.lemmas.Bool.{both_ways}
use Rattle.hashing.specs.Named.{spelling}
use Rattle.hashing.specs.declared.named.HasherName.{HasherName}
use Rattle.hashing.specs.declared.named.HasherName.TheVariants.{Rotating}
use Rattle.tables.specs.Pieces.{Blanks, NextPiece}
use Rattle.tables.proofs.Sole.{no-piece}
use Rattle.scripts.specs.Headings.{label_word, LabelTo, KindTo, LabelledTo, HasherNamed, HasherAs, AfterUnits, AfterSlots, AfterKind, HeadingAs}
use Rattle.scripts.specs.Parts.{WordTo}
use Rattle.scripts.specs.Readings.{Sole, NoneIs, Reads}
use Rattle.scripts.specs.declared.fault.ScriptFault.{ScriptFault}
use Rattle.scripts.specs.declared.heading.Heading.{Heading}
use Rattle.scripts.specs.declared.heading.Kind.{Kind}
use Rattle.scripts.specs.declared.label.Label.TheVariants as labels
use Rattle.scripts.proofs.Soles.{passed, then-sole, first-none, then-none, end_sole, end_none, same-sole}

-- what follows the name of a hasher
abbrev Ends : HasherName × List ℕ → HasherName → Type 0
Ends q h = (h ≡ q.0) × Blanks true q.1

pub named-sole : (bs rest : List ℕ) (h : HasherName) → Sole (WordTo spelling bs) (h, rest) → Blanks true rest → Sole (HasherNamed bs) h
named-sole bs rest h one all = then-sole (WordTo spelling bs) Ends (h, rest) h one (end_sole h (Blanks true rest) all)

pub named_more : (bs rest : List ℕ) (h : HasherName) → Sole (WordTo spelling bs) (h, rest) → NoneIs (λ (_ : Unit {0}). Blanks true rest) → NoneIs (HasherNamed bs)
named_more bs rest h one none = then-none (WordTo spelling bs) Ends (h, rest) one (end_none h (Blanks true rest) none)

-- a hasher that is left out, or named
pub hasher-none : (bs rest : List ℕ) (o : Option (Bor (List ℕ))) → NextPiece bs o rest → is_some o ≡ false → Sole (HasherAs bs) Rotating
hasher-none bs rest None all e = record {
  holds = inl (refl, all.0);
  only = λ h s. ⊎_elim (λ e. e.0) (λ said. absurd (no-piece bs (label_word labels.Hasher) said.0 all.0 said.1)) s;
}
hasher-none bs rest (Some p) first e = absurd (both_ways true e refl)

pub hasher-unlabelled : (bs rest : List ℕ) (o : Option (Bor (List ℕ))) → NextPiece bs o rest → is_some o ≡ true → NoneIs (LabelTo labels.Hasher bs) → NoneIs (HasherAs bs)
hasher-unlabelled bs rest None all e none = absurd (both_ways false refl e)
hasher-unlabelled bs rest (Some p) first e none = λ h s. ⊎_elim (λ end. no-piece bs p.now rest end.1 first) (λ said. none said.0 said.1) s

hasher-said : (bs mid : List ℕ) (h : HasherName) → Sole (LabelTo labels.Hasher bs) mid → Sole (HasherNamed mid) h → Sole (HasherAs bs) h
hasher-said bs mid h one two =
    let both = then-sole (LabelTo labels.Hasher bs) HasherNamed mid h one two in
    record {
      holds = inr both.holds;
      only = λ g s. ⊎_elim (λ e. absurd (no-piece bs (label_word labels.Hasher) mid e.1 one.holds)) (λ said. both.only g said) s;
    }

hasher-unnamed : (bs mid : List ℕ) → Sole (LabelTo labels.Hasher bs) mid → NoneIs (HasherNamed mid) → NoneIs (HasherAs bs)
hasher-unnamed bs mid one none = λ h s.
    ⊎_elim (λ e. no-piece bs (label_word labels.Hasher) mid e.1 one.holds) (λ said. then-none (LabelTo labels.Hasher bs) HasherNamed mid one none h said) s

pub hasher-reads : (n : ℕ) (bs mid : List ℕ) (r : Result HasherName ScriptFault) → Sole (LabelTo labels.Hasher bs) mid → Reads n (λ h. h) (HasherNamed mid) r → Reads n (λ h. h) (HasherAs bs) r
hasher-reads n bs mid (Ok h) one two = hasher-said bs mid h one two
hasher-reads n bs mid (Err f) one two = passed (HasherNamed mid) (HasherAs bs) n f (hasher-unnamed bs mid one) two

-- the whole heading
abbrev KindsRest : Kind × List ℕ → Kind × Heading → Type 0
KindsRest k v = AfterKind k.0 k.1 v

abbrev SlotsRest : Kind → ℕ × List ℕ → Kind × Heading → Type 0
SlotsRest kind s v = AfterSlots kind s.0 s.1 v

abbrev UnitsRest : Kind → ℕ → ℕ × List ℕ → Kind × Heading → Type 0
UnitsRest kind slots u v = AfterUnits kind slots u.0 u.1 v

abbrev headed : Kind → ℕ → ℕ → HasherName → Kind × Heading
headed kind slots units h = (kind, record { slots = slots; units = units; hasher = h })

module _ (bs : List ℕ) where
  pub no_kind : NoneIs (KindTo bs) → NoneIs (HeadingAs bs)
  no_kind none = first-none (KindTo bs) KindsRest none

  module _ (kind : Kind) (a : List ℕ) (one : Sole (KindTo bs) (kind, a)) where
    after-kind : NoneIs (AfterKind kind a) → NoneIs (HeadingAs bs)
    after-kind none = then-none (KindTo bs) KindsRest (kind, a) one none

    pub no-slots : NoneIs (LabelledTo labels.Slots a) → NoneIs (HeadingAs bs)
    no-slots none = after-kind (first-none (LabelledTo labels.Slots a) (SlotsRest kind) none)

    module _ (slots : ℕ) (b : List ℕ) (two : Sole (LabelledTo labels.Slots a) (slots, b)) where
      after-slots : NoneIs (AfterSlots kind slots b) → NoneIs (HeadingAs bs)
      after-slots none = after-kind (then-none (LabelledTo labels.Slots a) (SlotsRest kind) (slots, b) two none)

      pub no-units : NoneIs (LabelledTo labels.Units b) → NoneIs (HeadingAs bs)
      no-units none = after-slots (first-none (LabelledTo labels.Units b) (UnitsRest kind slots) none)

      module _ (units : ℕ) (d : List ℕ) (three : Sole (LabelledTo labels.Units b) (units, d)) where
        pub no-hasher : NoneIs (HasherAs d) → NoneIs (HeadingAs bs)
        no-hasher none =
            after-slots (then-none (LabelledTo labels.Units b) (UnitsRest kind slots) (units, d) three
            (first-none (HasherAs d) (λ h v. v ≡ headed kind slots units h) none))

        pub whole-heading : (h : HasherName) → Sole (HasherAs d) h → Sole (HeadingAs bs) (headed kind slots units h)
        whole-heading h four =
            let v = headed kind slots units h in
            then-sole (KindTo bs) KindsRest (kind, a) v one
            (then-sole (LabelledTo labels.Slots a) (SlotsRest kind) (slots, b) v two
            (then-sole (LabelledTo labels.Units b) (UnitsRest kind slots) (units, d) v three
            (then-sole (HasherAs d) (λ g x. x ≡ headed kind slots units g) h v four (same-sole v))))
