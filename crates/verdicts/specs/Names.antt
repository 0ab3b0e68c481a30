-- The rules of a table by their names. Assumes nothing.
use Rattle.std.specs.Prelude.{◌≡◌, ℕ, ◌<◌, List, length, Some, None, vec_items, Option, String, ◌≢◌, slice_index_or}
use Rattle.std.specs.Borrow.{Bor}
use Rattle.std.specs.BTreeMap.{get_by_text, IsOrdered}
use Rattle.std.specs.String.{string_cmp}
use Rattle.std.specs.BTreeMap.{BTreeMap}
use Rattle.tables.specs.declared.line.Entry.{Entry}
use Rattle.tables.specs.Rules.{name_of}

-- the place below n of a rule with this name, or none where no such rule has it
abbrev pub PlaceBelow : List Entry → ℕ → List ℕ → Option ℕ → Type 0
PlaceBelow es n name None = (i : ℕ) (d : Entry) → i < n → name_of (slice_index_or es i d) ≢ name
PlaceBelow es n name (Some i) = (i < n) × ((d : Entry) → name_of (slice_index_or es i d) ≡ name)

-- the map has at each name the place of a rule with that name among the first n
abbrev pub IndexesBelow : {Y : Type 0} → List Entry → ℕ → BTreeMap (String Y) ℕ → Type 0
IndexesBelow es n m = IsOrdered string_cmp m × ((name : List ℕ) → PlaceBelow es n name (get_by_text m name))

-- and among all of them
abbrev pub Indexes : {Y : Type 0} → List Entry → BTreeMap (String Y) ℕ → Type 0
Indexes es m = IndexesBelow es (length es) m

abbrev pub words_of : Entry → List ℕ
words_of e = vec_items e.words

-- e is a rule of the table, and has this name
abbrev pub Named : List Entry → List ℕ → Entry → Type 0
Named es name e = (i : ℕ) × (i < length es) × ((d : Entry) → e ≡ slice_index_or es i d) × (name_of e ≡ name)

-- no rule of the table has this name
abbrev pub Lacks : List Entry → List ℕ → Type 0
Lacks es name = (i : ℕ) (d : Entry) → i < length es → name_of (slice_index_or es i d) ≢ name

-- a rule with this name, or none where no rule has it
abbrev pub FoundAs : List Entry → List ℕ → Option (Bor Entry) → Type 0
FoundAs es name None = Lacks es name
FoundAs es name (Some e) = Named es name e.now
