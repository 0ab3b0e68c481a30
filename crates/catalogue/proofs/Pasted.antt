-- What a run pasted into the units leaves as it was, and what it puts there. Assumes nothing.
use Rattle.std.proofs.Common.{◌≡◌, ℕ, ◌+◌, ◌≤◌, List, ◌++◌, length, take, drop, sym, ap, ◌∙◌, append_assoc, arith, length-take-le, take_all, take-take, take_at, drop_at}
use lib.Seq.{paste, take-append-le}
use Rattle.std.proofs.lemmas.List.{drop-take}

module _ {U : Type 0} where
  -- the n units from start on, all before the paste
  pub earlier-kept : (units : List U) (at : ℕ) (run : List U) (m start n : ℕ) → start + n ≤ at → at ≤ length units
      → take n (drop start (paste units at run m)) ≡ take n (drop start units)
  earlier-kept units at run m start n h w =
      let e : length (take at units) ≡ at = length-take-le at units w in
      let le : start + n ≤ length (take at units) = omega arith in
      sym (drop-take start n (paste units at run m))
      ∙ ap (λ (x : List U). drop start (take (start + n) x)) (append_assoc (take at units) (take m run) (drop (at + m) units))
      ∙ ap (drop start) (take-append-le (start + n) (take at units) (take m run ++ drop (at + m) units) le ∙ take-take (start + n) at units h)
      ∙ drop-take start n units

  -- the run itself
  pub pasted-there : (units : List U) (at : ℕ) (run : List U) → at ≤ length units → take (length run) (drop at (paste units at run (length run))) ≡ run
  pasted-there units at run w =
      let whole : length run ≤ length run = omega arith in
      ap (λ (x : List U). take (length run) (drop at x)) (append_assoc (take at units) (take (length run) run) (drop (at + length run) units))
      ∙ ap (take (length run)) (drop_at (take at units) (take (length run) run ++ drop (at + length run) units) at (length-take-le at units w))
      ∙ take_at (take (length run) run) (drop (at + length run) units) (length run) (length-take-le (length run) run whole)
      ∙ take_all (length run) run whole
