-- The number that a word of a run writes. Assumes nothing.
use Rattle.std.specs.Prelude.{◌≡◌, ℕ, ◌^◌, ◌<◌, ◌≤◌, ◌⊎◌, List, ◌∷◌, Ok, Err, Result}
use Rattle.std.specs.Str.Parse.{IsNumeral, digits_value}
use Rattle.tables.specs.declared.word.WordFault.{WordFault}
use Rattle.tables.specs.declared.word.WordFault.TheVariants.{NotANumber, TooLarge}

-- bs writes n: decimal digits, or 0x and hexadecimal digits of either case
abbrev pub Writes : List ℕ → ℕ → Type 0
Writes bs n = (IsNumeral 10 bs × (n ≡ digits_value 10 bs)) ⊎ ((ds : List ℕ) × (bs ≡ 48 ∷ 120 ∷ ds) × IsNumeral 16 ds × (n ≡ digits_value 16 ds))

-- bs writes no number; it writes one past 32 bits
abbrev pub NoNumber : List ℕ → Type 0
NoNumber bs = (n : ℕ) → Writes bs n → ⊥

abbrev pub WideNumber : List ℕ → Type 0
WideNumber bs = (n : ℕ) × Writes bs n × (2 ^ 32 ≤ n)

-- what a word is read as: its number where that has 32 bits at most, and else why not
abbrev pub ReadAs : List ℕ → Result ℕ WordFault → Type 0
ReadAs bs (Ok n) = Writes bs n × (n < 2 ^ 32)
ReadAs bs (Err TooLarge) = WideNumber bs
ReadAs bs (Err NotANumber) = NoNumber bs

-- the same of digits in one base
abbrev pub DigitsAs : ℕ → List ℕ → Result ℕ WordFault → Type 0
DigitsAs radix ds (Ok n) = IsNumeral radix ds × (n ≡ digits_value radix ds) × (n < 2 ^ 32)
DigitsAs radix ds (Err TooLarge) = IsNumeral radix ds × (2 ^ 32 ≤ digits_value radix ds)
DigitsAs radix ds (Err NotANumber) = IsNumeral radix ds → ⊥
