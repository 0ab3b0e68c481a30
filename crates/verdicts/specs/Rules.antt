-- A number of rules, as it is printed. Assumes nothing.
use Rattle.std.specs.Prelude.{ℕ, List, ◌++◌, if◌then◌else◌, ◌==◌, codes}
use Rattle.std.specs.Fmt.{decimal}

-- the number, and a noun that is singular for 1 alone
abbrev pub rules_text : ℕ → List ℕ
rules_text n = decimal n ++ (if n == 1 then codes " rule" else codes " rules")
