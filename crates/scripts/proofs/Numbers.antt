-- The number that the next piece of a line writes. Assumes nothing.
use Rattle.std.proofs.Common.{ℕ, ◌<◌, true, List, [], ◌∷◌, Err, ap, subst, arith}
use Rattle.tables.specs.declared.word.WordFault.{WordFault}
use Rattle.tables.specs.Numerals.{Writes, ReadAs}
use Rattle.tables.specs.Pieces.{Blanks, First, Run}
use Rattle.tables.proofs.Numbers.{writes_one}
use Rattle.tables.proofs.Sole.{first-same, no_word}
use Rattle.scripts.specs.Parts.{NumberTo, PieceTo, UnitAt}
use Rattle.scripts.specs.Readings.{Sole, NoneIs}

pub number-sole : (bs : List ℕ) (q : ℕ × List ℕ) → NumberTo bs q → Sole (NumberTo bs) q
number-sole bs q h = record {
  holds = h;
  only = λ w g.
      let same = first-same bs g.0 w.1 h.0 q.1 g.1 h.1 in
      let number = writes_one h.0 w.0 q.0 (subst (λ p. Writes p w.0) same.0 g.2) h.2 in
      (λ i. (number i, same.1 i));
}

pub number-missing : (bs : List ℕ) → NoneIs (PieceTo bs) → NoneIs (NumberTo bs)
number-missing bs none = λ q h. none (h.0, q.1) h.1

pub number-bad : (bs p rest : List ℕ) (w : WordFault) → First bs p rest → ReadAs p (Err w) → NoneIs (NumberTo bs)
number-bad bs p rest w first bad = λ q h.
    let same = first-same bs h.0 q.1 p rest h.1 first in
    no_word p q.0 w (subst (λ l. Writes l q.0) same.0 h.2) h.3 bad

-- a number that is all that bs has
pub alone_sole : (bs rest : List ℕ) (k : ℕ) → Sole (NumberTo bs) (k, rest) → Blanks true rest → Sole (λ n. Run bs (n ∷ [])) k
alone_sole bs rest k one all = record {
  holds = let h = one.holds in (h.0, rest, h.1, h.2, h.3, all);
  only = λ w h. ap (λ q. q.0) (one.only (w, h.1) (h.0, h.2, h.3, h.4));
}

pub alone-missing : (bs : List ℕ) → NoneIs (NumberTo bs) → NoneIs (λ n. Run bs (n ∷ []))
alone-missing bs none = λ k h. none (k, h.1) (h.0, h.2, h.3, h.4)

pub alone-more : (bs rest : List ℕ) (k : ℕ) → Sole (NumberTo bs) (k, rest) → NoneIs (λ (_ : Unit {0}). Blanks true rest) → NoneIs (λ n. Run bs (n ∷ []))
alone-more bs rest k one none = λ n h.
    let same = one.only (n, h.1) (h.0, h.2, h.3, h.4) in
    none tt (subst (Blanks true) (ap (λ q. q.1) same) h.5)

-- a piece that writes no unit
pub unit-bad : (limit : ℕ) (p : List ℕ) (w : WordFault) → ReadAs p (Err w) → NoneIs (UnitAt limit p)
unit-bad limit p w bad = λ k h. no_word p k w h.0 h.1 bad

pub unit-above : (limit : ℕ) (p : List ℕ) (n : ℕ) → Writes p n → limit < n → NoneIs (UnitAt limit p)
unit-above limit p n writes above = λ k h. omega (arith, writes_one p k n h.0 writes, h.2)
