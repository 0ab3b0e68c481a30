-- The comparisons, and the numbers that stand for them in a rule's words.
use Rattle.std.specs.Prelude.{◌≡◌, ℕ, cond, Some, None, Option, ◌==◌, refl}
use Rattle.rule.specs.declared.comparison.Comparison.{Comparison}
use Rattle.rule.specs.declared.comparison.Comparison.TheVariants.{Eq, Lt, Le, Ne, Ge, Gt}

abbrev pub comparison_number : Comparison → ℕ
comparison_number Eq = 12
comparison_number Lt = 13
comparison_number Le = 14
comparison_number Ne = 15
comparison_number Ge = 16
comparison_number Gt = 17

-- the comparison that a number stands for
abbrev pub comparison_of : ℕ → Option Comparison
comparison_of n = cond (n == 12) (Some Eq) (cond (n == 13) (Some Lt) (cond (n == 14) (Some Le)
    (cond (n == 15) (Some Ne) (cond (n == 16) (Some Ge) (cond (n == 17) (Some Gt) None)))))

-- the comparison that says the same of exchanged operands: a < b and b > a, a <= b and b >= a
abbrev pub reversed : Comparison → Comparison
reversed Eq = Eq
reversed Lt = Gt
reversed Le = Ge
reversed Ne = Ne
reversed Ge = Le
reversed Gt = Lt

---- each number stands for the comparison whose number it is

known : (c : Comparison) → comparison_of (comparison_number c) ≡ Some c
known Eq = refl
known Lt = refl
known Le = refl
known Ne = refl
known Ge = refl
known Gt = refl

twice-reversed : (c : Comparison) → reversed (reversed c) ≡ c
twice-reversed Eq = refl
twice-reversed Lt = refl
twice-reversed Le = refl
twice-reversed Ne = refl
twice-reversed Ge = refl
twice-reversed Gt = refl
