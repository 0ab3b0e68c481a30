-- The words that stand for something. Assumes nothing.
use Rattle.std.proofs.Common.{IsErrAnd, MatchResult, Ok, Err, ◌≡◌, ℕ, List, Option, Some, None, Bor, Result, sym, ◌∙◌, subst, inr}
use Rattle.std.specs.Option.{ok_or}
use Rattle.tables.specs.Pieces.{First, NextPiece}
use Rattle.tables.proofs.Sole.{first-same, no-piece}
use Rattle.scripts.specs.Headings.{label_word, LabelTo}
use Rattle.scripts.specs.Parts.{PieceTo, WordAs, WordTo}
use Rattle.scripts.specs.Readings.{Faulted, Sole, NoneIs, Reads, line_of}
use Rattle.scripts.specs.declared.fault.ScriptFault.{ScriptFault}
use Rattle.scripts.specs.declared.label.Label.{Label}
use Rattle.scripts.proofs.Soles.{refused}

-- the next piece, or the fault of a line that has none
pub piece-reads : (n : ℕ) (bs rest : List ℕ) (o : Option (Bor (List ℕ))) (f : ScriptFault) (r : Result (Bor (List ℕ)) ScriptFault) → NextPiece bs o rest → line_of f ≡ Some n → r ≡ ok_or o f → Reads n (λ p. (p.now, rest)) (PieceTo bs) r
piece-reads n bs rest None f r all at e = subst (Reads n (λ p. (p.now, rest)) (PieceTo bs)) (sym e) (inr (at, λ q h. no-piece bs q.0 q.1 all.0 h))
piece-reads n bs rest (Some p) f r first at e =
    subst (Reads n (λ q. (q.now, rest)) (PieceTo bs)) (sym e) (record {
      holds = first;
      only = λ w h. let same = first-same bs w.0 w.1 p.now rest h first in (λ i. (same.0 i, same.1 i));
    })

module _ {V : Type 0} (word : V → List ℕ) (bs : List ℕ) where
  pub word-sole : ((u v : V) → word u ≡ word v → u ≡ v) → (p rest : List ℕ) (v : V) → First bs p rest → p ≡ word v → Sole (WordTo word bs) (v, rest)
  word-sole same p rest v first e = record {
    holds = subst (λ l. First bs l rest) e first;
    only = λ w h.
        let one = first-same bs (word w.0) w.1 p rest h first in
        let it = same w.0 v (one.0 ∙ e) in
        (λ i. (it i, one.1 i));
  }

  pub word-missing : NoneIs (PieceTo bs) → NoneIs (WordTo word bs)
  word-missing none = λ q h. none (word q.0, q.1) h

  pub word-other : (p rest : List ℕ) → First bs p rest → ((v : V) → p ≡ word v → ⊥) → NoneIs (WordTo word bs)
  word-other p rest first none = λ q h. none q.0 (first-same bs p rest (word q.0) q.1 first h).0

  -- what the next piece names, by what its text is read as
  pub word-reads : {E : Type 0} → ((u v : V) → word u ≡ word v → u ≡ v) → (n : ℕ) (p rest : List ℕ) (read : Result V E) (r : Result V ScriptFault) (P : E → ScriptFault → Type 0) → First bs p rest → WordAs word p read → ((e : E) (f : ScriptFault) → P e f → Faulted n f) → MatchResult read (λ v. r ≡ Ok v) (λ e. IsErrAnd r (P e)) → Reads n (λ v. (v, rest)) (WordTo word bs) r
  word-reads same n p rest (Ok v) r P first is told made = subst (Reads n (λ u. (u, rest)) (WordTo word bs)) (sym made) (word-sole same p rest v first is)
  word-reads same n p rest (Err e) (Ok v) P first none told made = absurd made
  word-reads same n p rest (Err e) (Err f) P first none told made = refused (WordTo word bs) n f (told e f made) (word-other p rest first none)

pub label-sole : (l : Label) (bs p rest : List ℕ) → First bs p rest → p ≡ label_word l → Sole (LabelTo l bs) rest
label-sole l bs p rest first e = record {
  holds = subst (λ q. First bs q rest) e first;
  only = λ w h. (first-same bs (label_word l) w p rest h first).1;
}

pub label-missing : (l : Label) (bs : List ℕ) → NoneIs (PieceTo bs) → NoneIs (LabelTo l bs)
label-missing l bs none = λ rest h. none (label_word l, rest) h

pub label-other : (l : Label) (bs p rest : List ℕ) → First bs p rest → (p ≡ label_word l → ⊥) → NoneIs (LabelTo l bs)
label-other l bs p rest first off = λ w h. off (first-same bs p rest (label_word l) w first h).0
