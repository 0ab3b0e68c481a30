-- The grounds in their order: what passes up to a number.
use Rattle.std.proofs.Common.{◌≡◌, ℕ, ◌+◌, ◌<◌, ◌≤◌, cond, eqb, ◌⊎◌, List, take, sym, refl, ap, ◌∙◌, subst, inl, inr, arith, length-take}
use Rattle.std.proofs.lemmas.Bool.{cases_lt}
use Rattle.rule.specs.declared.fault.Fault.{Fault}
use Rattle.rule.specs.declared.fault.Fault.TheVariants.{TooLong, CutShort, OutsideRow, NotATree, WrongClass, BadScope, SameAsNothing}
use Rattle.rule.specs.Faults.{number_of}
use Rattle.rule.specs.declared.nodes.Nodes.{Nodes}
use Rattle.rule.specs.Intake.{Passes, Refused, Accepted, Read}

-- faults are told apart by their numbers
fault_of : ℕ → Fault
fault_of n = cond (eqb n 1) TooLong (cond (eqb n 2) CutShort (cond (eqb n 3) OutsideRow (cond (eqb n 4) NotATree (cond (eqb n 5) WrongClass (cond (eqb n 6) BadScope SameAsNothing)))))

back : (f : Fault) → fault_of (number_of f) ≡ f
unfolding fault_of
back TooLong = refl
back CutShort = refl
back OutsideRow = refl
back NotATree = refl
back WrongClass = refl
back BadScope = refl
back SameAsNothing = refl

same_number : (f g : Fault) → number_of f ≡ number_of g → f ≡ g
same_number f g e = sym (back f) ∙ ap fault_of e ∙ back g

abbrev pub UpTo : ℕ → List ℕ → Type 0
UpTo k ws = (g : Fault) → number_of g ≤ k → Passes g ws

positive : (g : Fault) → 0 < number_of g
positive TooLong = omega arith
positive CutShort = omega arith
positive OutsideRow = omega arith
positive NotATree = omega arith
positive WrongClass = omega arith
positive BadScope = omega arith
positive SameAsNothing = omega arith

pub upto-none : (ws : List ℕ) → UpTo 0 ws
upto-none ws g h = absurd (let p = positive g in omega arith)

pub upto-more : (ws : List ℕ) (k : ℕ) (f : Fault) → number_of f ≡ k + 1 → UpTo k ws → Passes f ws → UpTo (k + 1) ws
upto-more ws k f e u p g h = go (cases_lt (number_of g) (k + 1))
  where
    go : (number_of g < k + 1) ⊎ (k + 1 ≤ number_of g) → Passes g ws
    go (inl l) = u g (omega arith)
    go (inr l) = let q : number_of f ≡ number_of g = omega arith in subst (λ z. Passes z ws) (same_number f g q) p

pub refused-at : (ws : List ℕ) (k : ℕ) (f : Fault) → number_of f ≡ k + 1 → UpTo k ws → (Passes f ws → ⊥) → Refused ws f
refused-at ws k f e u n = record { met = n; before = λ g h. u g (omega arith) }

-- the places of the nodes of an accepted run
pub accepted-read : (most : ℕ) (ws : List ℕ) (n : Nodes) → 2 ≤ most → Accepted most ws n → Read ws (take n.count n.at)
accepted-read most ws n h a = record { places = a.places; short = a.passes TooLong (omega arith); whole = a.passes CutShort (omega arith); few = omega (arith, a.few, length-take n.count n.at) }
