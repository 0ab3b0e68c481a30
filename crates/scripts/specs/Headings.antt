-- The heading of a script. Assumes nothing.
use Rattle.std.specs.Prelude.{◌≡◌, ℕ, true, ◌⊎◌, List, codes}
use Rattle.hashing.specs.Named.{spelling}
use Rattle.hashing.specs.declared.named.HasherName.{HasherName}
use Rattle.hashing.specs.declared.named.HasherName.TheVariants.{Rotating}
use Rattle.tables.specs.Pieces.{Blanks, First}
use Rattle.scripts.specs.Parts.{NumberTo, WordTo}
use Rattle.scripts.specs.declared.heading.Heading.{Heading}
use Rattle.scripts.specs.declared.heading.Kind.{Kind}
use Rattle.scripts.specs.declared.heading.Kind.TheVariants.{Rules, Names}
use Rattle.scripts.specs.declared.label.Label.{Label}
use Rattle.scripts.specs.declared.label.Label.TheVariants as labels

abbrev pub kind_word : Kind → List ℕ
kind_word Rules = codes "rules"
kind_word Names = codes "names"

abbrev pub label_word : Label → List ℕ
label_word labels.Catalogue = codes "catalogue"
label_word labels.Slots = codes "slots"
label_word labels.Units = codes "units"
label_word labels.Hasher = codes "hasher"

-- bs begins with the label, and what follows it
abbrev pub LabelTo : Label → List ℕ → List ℕ → Type 0
LabelTo l bs rest = First bs (label_word l) rest

-- bs begins with `catalogue` and the kind of its entries
abbrev pub KindTo : List ℕ → Kind × List ℕ → Type 0
KindTo bs q = (mid : List ℕ) × LabelTo labels.Catalogue bs mid × WordTo kind_word mid q

-- bs begins with the label and a number
abbrev pub LabelledTo : Label → List ℕ → ℕ × List ℕ → Type 0
LabelledTo l bs q = (mid : List ℕ) × LabelTo l bs mid × NumberTo mid q

-- bs is the name of a hasher
abbrev pub HasherNamed : List ℕ → HasherName → Type 0
HasherNamed bs h = (q : HasherName × List ℕ) × WordTo spelling bs q × ((h ≡ q.0) × Blanks true q.1)

-- bs is `hasher` and its name, or nothing, which stands for the rotating one
abbrev pub HasherAs : List ℕ → HasherName → Type 0
HasherAs bs h = ((h ≡ Rotating) × Blanks true bs) ⊎ ((mid : List ℕ) × LabelTo labels.Hasher bs mid × HasherNamed mid h)

-- what follows the number of units, of slots, and the kind
abbrev pub AfterUnits : Kind → ℕ → ℕ → List ℕ → Kind × Heading → Type 0
AfterUnits kind slots units bs v = (h : HasherName) × HasherAs bs h × (v ≡ (kind, record { slots = slots; units = units; hasher = h }))

abbrev pub AfterSlots : Kind → ℕ → List ℕ → Kind × Heading → Type 0
AfterSlots kind slots bs v = (u : ℕ × List ℕ) × LabelledTo labels.Units bs u × AfterUnits kind slots u.0 u.1 v

abbrev pub AfterKind : Kind → List ℕ → Kind × Heading → Type 0
AfterKind kind bs v = (s : ℕ × List ℕ) × LabelledTo labels.Slots bs s × AfterSlots kind s.0 s.1 v

-- the line bs is the heading v
abbrev pub HeadingAs : List ℕ → Kind × Heading → Type 0
HeadingAs bs v = (k : Kind × List ℕ) × KindTo bs k × AfterKind k.0 k.1 v
