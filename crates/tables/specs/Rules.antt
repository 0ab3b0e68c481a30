-- The rules that a whole table holds. Assumes nothing.
use Rattle.std.specs.Prelude.{◌≡◌, ℕ, ◌+◌, ◌<◌, false, cond, ◌⊎◌, List, [], ◌∷◌, ◌++◌, length, get_or, take, IfErr, Option, Some, None, Ok, Err, vec_items, string_bytes, IsUtf8, MatchBool, Result, Vec, String, ◌==◌, ◌≢◌, slice_index_or}
use Rattle.std.specs.Borrow.{Bor}
use Rattle.std.specs.BTreeMap.{get_by_text}
use Rattle.std.specs.Str.{IsValidUpTo, bytes_eq}
use Rattle.std.specs.BTreeMap.{BTreeMap}
use Rattle.tables.specs.declared.fault.BadUtf8.{BadUtf8}
use Rattle.tables.specs.declared.fault.TableFault.{TableFault}
use Rattle.tables.specs.declared.fault.TableFault.TheVariants.{NoColon, NoName, NameTwice, NotAWord, NotUtf8, Memory}
use Rattle.tables.specs.declared.line.Entry.{Entry}
use Rattle.tables.specs.Lines.{content, skipped, RuleAt, Shown, LineFault}

abbrev pub grown : ℕ → List (List ℕ) → List (List ℕ)
grown b [] = (b ∷ []) ∷ []
grown b (l ∷ ls) = (b ∷ l) ∷ ls

-- the lines of a text, which line feeds part
abbrev pub lines : List ℕ → List (List ℕ)
lines [] = [] ∷ []
lines (b ∷ bs) = cond (b == 10) ([] ∷ lines bs) (grown b (lines bs))

abbrev pub name_of : Entry → List ℕ
name_of e = string_bytes e.name

-- the lines from the n-th on hold the rules es, in this order, and else only what is skipped
abbrev pub Holds : ℕ → List (List ℕ) → List Entry → Type 0
Holds n [] es = es ≡ []
Holds n (l ∷ ls) es =
    MatchBool (skipped (content l)) (Holds (n + 1) ls es) ((e : Entry) × (more : List Entry) × (es ≡ e ∷ more) × RuleAt n (content l) e × Holds (n + 1) ls more)

-- no two rules have one name
abbrev pub Apart : List Entry → Type 0
Apart es = (i j : ℕ) (d : Entry) → i < j → j < length es → name_of (slice_index_or es i d) ≢ name_of (slice_index_or es j d)

-- one of the rules es has this name, and stands at this line
abbrev pub Stands : List Entry → List ℕ → ℕ → Type 0
Stands es name line = (i : ℕ) × (i < length es) × ((d : Entry) → (name_of (slice_index_or es i d) ≡ name) × ((get_or es i d).line ≡ line))

-- what is wrong with bs, which is line n, after the rules es
abbrev pub FaultAfter : List Entry → ℕ → List ℕ → TableFault → Type 0
FaultAfter es n bs (NoColon k) = LineFault n bs (NoColon k)
FaultAfter es n bs (NoName k) = LineFault n bs (NoName k)
FaultAfter es n bs (NotAWord k found why) = LineFault n bs (NotAWord k found why)
FaultAfter es n bs (NameTwice k name before) = (k ≡ n) × ((e : Entry) × RuleAt n bs e × Shown (name_of e) (string_bytes name) × Stands es (name_of e) before)
FaultAfter es n bs (NotUtf8 k) = ⊥
FaultAfter es n bs Memory = ⊥

-- the first line of text that is no good, and what is wrong with it
pub record FaultIn (text : List ℕ) (f : TableFault) : Type 0 where
  pub before : List (List ℕ)
  pub line : List ℕ
  pub after : List (List ℕ)
  pub rules : List Entry
  pub whole : lines text ≡ before ++ (line ∷ after)
  pub held : Holds 1 before rules
  pub apart : Apart rules
  pub kept : skipped (content line) ≡ false
  pub fault : FaultAfter rules (length before + 1) (content line) f

-- what a text is read as
abbrev pub TableAs : {Z : Type 0} → List ℕ → Result (Vec Entry Z) TableFault → Type 0
TableAs text (Ok v) = Holds 1 (lines text) (vec_items v) × Apart (vec_items v)
TableAs text (Err f) = (f ≡ Memory) ⊎ FaultIn text f

-- a text whose lines hold rules with names of their own is read, but for want of memory
abbrev pub KeepsTables : {Z : Type 0} → List ℕ → Result (Vec Entry Z) TableFault → Type 0
KeepsTables text r = (es : List Entry) → Holds 1 (lines text) es → Apart es → IfErr r (λ f. f ≡ Memory)

-- the text that bytes are, or the line of the first byte that is none
abbrev pub TextAs : List ℕ → Result (Bor (List ℕ)) BadUtf8 → Type 0
TextAs bytes (Ok text) = IsUtf8 bytes × (text.now ≡ bytes)
TextAs bytes (Err e) = (at : ℕ) × IsValidUpTo bytes at × (e.line ≡ length (lines (take at bytes)))

-- what bytes are read as: a text, or the line of the first byte that is none
abbrev pub BytesAs : {Z : Type 0} → List ℕ → Result (Vec Entry Z) TableFault → Type 0
BytesAs bytes r = (IsUtf8 bytes × TableAs bytes r) ⊎ ((at : ℕ) × IsValidUpTo bytes at × (r ≡ Err (NotUtf8 (length (lines (take at bytes))))))

module _ {Y : Type 0} where
  -- why the rule e is not noted in m
  abbrev pub NameFault : BTreeMap (String Y) ℕ → Entry → TableFault → Type 0
  NameFault m e (NoColon k) = ⊥
  NameFault m e (NoName k) = ⊥
  NameFault m e (NotAWord k found why) = ⊥
  NameFault m e (NameTwice k name before) = (k ≡ e.line) × (get_by_text m (name_of e) ≡ Some before) × Shown (name_of e) (string_bytes name)
  NameFault m e (NotUtf8 k) = ⊥
  NameFault m e Memory = Unit {0}

  -- n has w at the name bs, and at each other name what m has
  abbrev pub SetsText : BTreeMap (String Y) ℕ → BTreeMap (String Y) ℕ → List ℕ → Option ℕ → Type 0
  SetsText m n bs w = (v : List ℕ) → get_by_text n v ≡ cond (bytes_eq v bs) w (get_by_text m v)

  -- what it answers to note the line of e at its name in m, which is n then
  abbrev pub NotedAs : {U : Type 0} → BTreeMap (String Y) ℕ → BTreeMap (String Y) ℕ → Entry → Result U TableFault → Type 0
  NotedAs m n e (Ok u) = (get_by_text m (name_of e) ≡ None) × SetsText m n (name_of e) (Some e.line)
  NotedAs m n e (Err f) = NameFault m e f
