-- Blanks, and the pieces that they part. Assumes nothing.
use Rattle.std.specs.Prelude.{◌≡◌, ℕ, ◌-◌, ◌^◌, ◌<◌, Bool, true, false, ◌||◌, List, [], ◌∷◌, ◌++◌, length, Option, Some, None, ◌==◌, ◌≢◌, slice_index}
use Rattle.std.specs.Borrow.{Bor}
use Rattle.tables.specs.declared.pieces.Pieces.{Pieces}
use Rattle.tables.specs.Numerals.{Writes}

-- a space or a tab
abbrev pub blank : ℕ → Bool
blank b = b == 32 || b == 9

-- each byte of bs is a blank, or, where t is false, none is
abbrev pub Blanks : Bool → List ℕ → Type 0
Blanks t bs = (i : ℕ) → i < length bs → blank (slice_index bs i) ≡ t

-- bs is front, which is all of one kind, and rest, which does not go on with it
pub record Cut (t : Bool) (bs front rest : List ℕ) : Type 0 where
  pub whole : bs ≡ front ++ rest
  pub alike : Blanks t front
  pub ends : 0 < length rest → blank (slice_index rest 0) ≢ t

-- name is bs without the blanks at both its ends
pub record Trimmed (bs name : List ℕ) : Type 0 where
  pub before : List ℕ
  pub after : List ℕ
  pub whole : bs ≡ before ++ (name ++ after)
  pub blanks_before : Blanks true before
  pub blanks_after : Blanks true after
  pub first : 0 < length name → blank (slice_index name 0) ≡ false
  pub last : 0 < length name → blank (slice_index name (length name - 1)) ≡ false

-- bs is blanks, the piece p, and rest, which is empty or begins with a blank
pub record First (bs p rest : List ℕ) : Type 0 where
  pub gap : List ℕ
  pub whole : bs ≡ gap ++ (p ++ rest)
  pub blanks : Blanks true gap
  pub some : 0 < length p
  pub solid : Blanks false p
  pub ends : 0 < length rest → blank (slice_index rest 0) ≡ true

-- what follows the pieces that were given
abbrev pub left : Pieces → List ℕ
left p = p.rest.now

-- the next piece of bs, which rest follows, or that bs has none
abbrev pub NextPiece : List ℕ → Option (Bor (List ℕ)) → List ℕ → Type 0
NextPiece bs None rest = Blanks true bs × (rest ≡ bs)
NextPiece bs (Some p) rest = First bs p.now rest

-- the pieces of bs write the words ws
abbrev pub Run : List ℕ → List ℕ → Type 0
Run bs [] = Blanks true bs
Run bs (w ∷ ws) = (p : List ℕ) × (rest : List ℕ) × First bs p rest × Writes p w × (w < 2 ^ 32) × Run rest ws

-- the first pieces of bs write the words ws, and the next is p
abbrev pub RunTo : List ℕ → List ℕ → List ℕ → Type 0
RunTo bs [] p = (rest : List ℕ) × First bs p rest
RunTo bs (w ∷ ws) p = (q : List ℕ) × (rest : List ℕ) × First bs q rest × Writes q w × (w < 2 ^ 32) × RunTo rest ws p
