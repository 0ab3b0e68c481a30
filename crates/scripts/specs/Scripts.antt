-- The script that a whole text is. Assumes nothing.
use Rattle.std.specs.Prelude.{◌≡◌, ℕ, ◌+◌, ◌⊎◌, List, [], ◌∷◌, ◌++◌, length, take, Some, Ok, Err, vec_items, IsUtf8, MatchBool, Result}
use Rattle.std.specs.Str.{IsValidUpTo}
use Rattle.tables.specs.Lines.{content, skipped}
use Rattle.tables.specs.Rules.{lines}
use Rattle.scripts.specs.Calls.{Told, CallAs, told_all}
use Rattle.scripts.specs.Headings.{HeadingAs}
use Rattle.scripts.specs.Readings.{line_of, Sole, NoneIs}
use Rattle.scripts.specs.declared.fault.ScriptFault.{ScriptFault}
use Rattle.scripts.specs.declared.fault.ScriptFault.TheVariants.{NoHeading, NotUtf8, Memory}
use Rattle.scripts.specs.declared.heading.Heading.{Heading}
use Rattle.scripts.specs.declared.heading.Kind.{Kind}
use Rattle.scripts.specs.declared.heading.Kind.TheVariants as kinds
use Rattle.scripts.specs.declared.script.Script.{Script}
use Rattle.scripts.specs.declared.script.Script.TheVariants as scripts

-- the largest unit of an entry
abbrev pub limit_of : Kind → ℕ
limit_of kinds.Rules = 4294967295
limit_of kinds.Names = 255

-- a script, whatever memory holds its calls
abbrev pub Whole : Type 0
Whole = (Kind × Heading) × List Told

abbrev pub scripted : Script → Whole
scripted (scripts.Rules h v) = ((kinds.Rules, h), told_all (vec_items v))
scripted (scripts.Names h v) = ((kinds.Names, h), told_all (vec_items v))

-- the lines write the calls ts, in this order, and else only what is skipped
abbrev pub CallsIn : ℕ → List (List ℕ) → List Told → Type 0
CallsIn limit [] ts = ts ≡ []
CallsIn limit (l ∷ ls) ts =
    MatchBool (skipped (content l)) (CallsIn limit ls ts) ((t : Told) × (more : List Told) × (ts ≡ t ∷ more) × CallAs limit (content l) t × CallsIn limit ls more)

-- the first line that is not skipped is the heading, and the lines after it write the calls
abbrev pub ScriptIn : List (List ℕ) → Whole → Type 0
ScriptIn [] s = ⊥
ScriptIn (l ∷ ls) s =
    MatchBool (skipped (content l)) (ScriptIn ls s) (HeadingAs (content l) s.0 × CallsIn (limit_of s.0.0) ls s.1)

-- the fault names a line such that no text with these lines up to it is a script
pub record FaultAt (ls : List (List ℕ)) (f : ScriptFault) : Type 0 where
  pub before : List (List ℕ)
  pub line : List ℕ
  pub after : List (List ℕ)
  pub whole : ls ≡ before ++ (line ∷ after)
  pub place : line_of f ≡ Some (length before + 1)
  pub wrong : (more : List (List ℕ)) → NoneIs (ScriptIn (before ++ (line ∷ more)))

-- why lines are refused
abbrev pub FaultOf : List (List ℕ) → ScriptFault → Type 0
FaultOf ls f = (f ≡ Memory) ⊎ (((f ≡ NoHeading) × NoneIs (ScriptIn ls)) ⊎ FaultAt ls f)

-- what lines are read as: the one script that they are, or why they are none
abbrev pub LinesAs : {T : Type 0} → (T → Whole) → List (List ℕ) → Result T ScriptFault → Type 0
LinesAs view ls (Ok x) = Sole (ScriptIn ls) (view x)
LinesAs view ls (Err f) = FaultOf ls f

-- what bytes are read as: the script that their text is, or the line of the first byte that is no text
abbrev pub ScriptAs : List ℕ → Result Script ScriptFault → Type 0
ScriptAs bytes r =
    (IsUtf8 bytes × LinesAs scripted (lines bytes) r) ⊎ ((at : ℕ) × IsValidUpTo bytes at × (r ≡ Err (NotUtf8 (length (lines (take at bytes))))))
