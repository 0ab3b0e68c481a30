-- The lines of a table, and what a line holds. Assumes nothing.
use Rattle.std.specs.Prelude.{◌≡◌, ℕ, ◌^◌, ◌<◌, ◌≤◌, Bool, true, false, cond, ◌⊎◌, List, [], ◌∷◌, ◌++◌, length, take, Some, None, Ok, Err, vec_items, string_bytes, codes, Option, Result, Vec, ◌==◌}
use Rattle.std.specs.Str.Iter.{LacksByte}
use Rattle.tables.specs.declared.fault.TableFault.{TableFault}
use Rattle.tables.specs.declared.fault.TableFault.TheVariants.{NoColon, NoName, NameTwice, NotAWord, NotUtf8, Memory}
use Rattle.tables.specs.declared.line.Entry.{Entry}
use Rattle.tables.specs.declared.word.WordFault.{WordFault}
use Rattle.tables.specs.Numerals.{Writes, ReadAs}
use Rattle.tables.specs.Pieces.{blank, Blanks, Trimmed, Run, RunTo}

-- a line without the carriage return that may end it
abbrev pub content : List ℕ → List ℕ
content [] = []
content (b ∷ []) = cond (b == 13) [] (b ∷ [])
content (b ∷ c ∷ bs) = b ∷ content (c ∷ bs)

-- nothing but blanks, or a # as the first byte that is none
abbrev pub skipped : List ℕ → Bool
skipped [] = true
skipped (b ∷ bs) = cond (blank b) (skipped bs) (b == 35)

-- bs is front, the first colon, and run
pub record Parted (bs front run : List ℕ) : Type 0 where
  pub whole : bs ≡ front ++ (58 ∷ run)
  pub first : LacksByte 58 front

-- bs is the rule e, at line n: its name, a colon, and the words of its run
pub record RuleAt (n : ℕ) (bs : List ℕ) (e : Entry) : Type 0 where
  pub front : List ℕ
  pub run : List ℕ
  pub parted : Parted bs front run
  pub trimmed : Trimmed front (string_bytes e.name)
  pub named : 0 < length (string_bytes e.name)
  pub words : Run run (vec_items e.words)
  pub place : e.line ≡ n

-- a text as a fault shows it: whole up to 40 bytes, and else a front of it with three dots
abbrev pub Shown : List ℕ → List ℕ → Type 0
Shown bs ss = ((length bs ≤ 40) × (ss ≡ bs)) ⊎ ((40 < length bs) × ((k : ℕ) × (k ≤ 40) × (ss ≡ take k bs ++ codes "...")))

-- the first pieces of run write words, the next is none for this reason, and found shows that one
abbrev pub PieceAt : WordFault → List ℕ → List ℕ → Type 0
PieceAt why run found = (ws : List ℕ) × (p : List ℕ) × RunTo run ws p × ReadAs p (Err why) × Shown p found

-- what is wrong with the run of line n
abbrev pub RunFault : ℕ → List ℕ → TableFault → Type 0
RunFault n run (NoColon k) = ⊥
RunFault n run (NoName k) = ⊥
RunFault n run (NotAWord k found why) = (k ≡ n) × PieceAt why run (string_bytes found)
RunFault n run (NameTwice k name before) = ⊥
RunFault n run (NotUtf8 k) = ⊥
RunFault n run Memory = Unit {0}

abbrev pub RunAs : {X : Type 0} → ℕ → List ℕ → Result (Vec ℕ X) TableFault → Type 0
RunAs n run (Ok v) = Run run (vec_items v)
RunAs n run (Err f) = RunFault n run f

-- what is wrong with bs, which is line n
abbrev pub LineFault : ℕ → List ℕ → TableFault → Type 0
LineFault n bs (NoColon k) = (k ≡ n) × LacksByte 58 bs
LineFault n bs (NoName k) = (k ≡ n) × ((front : List ℕ) × (run : List ℕ) × Parted bs front run × Blanks true front)
LineFault n bs (NotAWord k found why) = (front : List ℕ) × (run : List ℕ) × Parted bs front run × RunFault n run (NotAWord k found why)
LineFault n bs (NameTwice k name before) = ⊥
LineFault n bs (NotUtf8 k) = ⊥
LineFault n bs Memory = Unit {0}

-- what the line bs, the n-th, is read as
abbrev pub LineAs : ℕ → List ℕ → Result (Option Entry) TableFault → Type 0
LineAs n bs (Ok None) = skipped bs ≡ true
LineAs n bs (Ok (Some e)) = (skipped bs ≡ false) × RuleAt n bs e
LineAs n bs (Err f) = (skipped bs ≡ false) × LineFault n bs f

-- the fault that a piece p of line n gives, where p is no word for the reason w
abbrev pub PieceFault : ℕ → List ℕ → WordFault → TableFault → Type 0
PieceFault n p w (NoColon k) = ⊥
PieceFault n p w (NoName k) = ⊥
PieceFault n p w (NotAWord k found why) = (w ≡ why) × (k ≡ n) × Shown p (string_bytes found)
PieceFault n p w (NameTwice k name before) = ⊥
PieceFault n p w (NotUtf8 k) = ⊥
PieceFault n p w Memory = Unit {0}

-- what a piece p of line n is read as: its word, or why it is none
abbrev pub PieceRead : ℕ → List ℕ → Result ℕ TableFault → Type 0
PieceRead n p (Ok w) = Writes p w × (w < 2 ^ 32)
PieceRead n p (Err f) = (why : WordFault) × ReadAs p (Err why) × PieceFault n p why f

-- the line that a fault names
abbrev pub line_of : TableFault → Option ℕ
line_of (NoColon k) = Some k
line_of (NoName k) = Some k
line_of (NotAWord k found why) = Some k
line_of (NameTwice k name before) = Some k
line_of (NotUtf8 k) = Some k
line_of Memory = None

-- a line that holds a rule is read as one, but for want of memory
abbrev pub Kept : Result (Option Entry) TableFault → Type 0
Kept (Ok None) = ⊥
Kept (Ok (Some e)) = Unit {0}
Kept (Err f) = f ≡ Memory

abbrev pub KeepsRules : ℕ → List ℕ → Result (Option Entry) TableFault → Type 0
KeepsRules n bs r = (e : Entry) → skipped bs ≡ false → RuleAt n bs e → Kept r
