-- The calls that lines write. Assumes nothing.
use Rattle.std.specs.Prelude.{◌≡◌, ℕ, ◌<◌, true, List, [], ◌∷◌, map, length, vec_items, codes, slice_index_or}
use Rattle.tables.specs.Pieces.{Blanks, Run}
use Rattle.scripts.specs.Parts.{Units, UnitsUnder, WordTo}
use Rattle.scripts.specs.declared.call.Call.{Call}
use Rattle.scripts.specs.declared.call.Call.TheVariants as calls
use Rattle.scripts.specs.declared.verb.Verb.{Verb}
use Rattle.scripts.specs.declared.verb.Verb.TheVariants as verbs

-- a call, whatever memory holds its units
pub data Told : Type 0 where
  enters : List ℕ → Told
  finds : List ℕ → Told
  cuts : ℕ → Told
  counts : Told
  classes : ℕ → Told
  hashes : ℕ → Told
  runs : ℕ → Told

abbrev pub told : Call ℕ → Told
told (calls.Enter v) = enters (vec_items v)
told (calls.Find v) = finds (vec_items v)
told (calls.Cut k) = cuts k
told calls.Count = counts
told (calls.Class k) = classes k
told (calls.Hash k) = hashes k
told (calls.Run k) = runs k

abbrev pub verb_word : Verb → List ℕ
verb_word verbs.Enter = codes "enter"
verb_word verbs.Find = codes "find"
verb_word verbs.Cut = codes "cut"
verb_word verbs.Count = codes "count"
verb_word verbs.Class = codes "class"
verb_word verbs.Hash = codes "hash"
verb_word verbs.Run = codes "run"

-- what follows the verb
abbrev pub AfterVerb : ℕ → Verb → List ℕ → Told → Type 0
AfterVerb limit verbs.Enter rest t = (us : List ℕ) × (t ≡ enters us) × Units limit rest us
AfterVerb limit verbs.Find rest t = (us : List ℕ) × (t ≡ finds us) × Units limit rest us
AfterVerb limit verbs.Cut rest t = (k : ℕ) × (t ≡ cuts k) × Run rest (k ∷ [])
AfterVerb limit verbs.Count rest t = (t ≡ counts) × Blanks true rest
AfterVerb limit verbs.Class rest t = (k : ℕ) × (t ≡ classes k) × Run rest (k ∷ [])
AfterVerb limit verbs.Hash rest t = (k : ℕ) × (t ≡ hashes k) × Run rest (k ∷ [])
AfterVerb limit verbs.Run rest t = (k : ℕ) × (t ≡ runs k) × Run rest (k ∷ [])

-- the line bs writes the call t, with no unit above the limit
abbrev pub CallAs : ℕ → List ℕ → Told → Type 0
CallAs limit bs t = (q : Verb × List ℕ) × WordTo verb_word bs q × AfterVerb limit q.0 q.1 t

-- no unit of the call is above the limit
abbrev pub Under : ℕ → Told → Type 0
Under limit (enters us) = UnitsUnder limit us
Under limit (finds us) = UnitsUnder limit us
Under limit (cuts k) = Unit {0}
Under limit counts = Unit {0}
Under limit (classes k) = Unit {0}
Under limit (hashes k) = Unit {0}
Under limit (runs k) = Unit {0}

abbrev pub AllUnder : ℕ → List (Call ℕ) → Type 0
AllUnder limit cs = (i : ℕ) (d : Call ℕ) → i < length cs → Under limit (told (slice_index_or cs i d))

abbrev pub told_all : List (Call ℕ) → List Told
told_all cs = map told cs
