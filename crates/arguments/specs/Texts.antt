-- What is said of a missing or a wrong argument. Assumes nothing.
use Rattle.std.specs.Prelude.{ℕ, List, ◌∷◌, ◌++◌, Option, Some, codes}
use Rattle.std.specs.Fmt.{◌++?◌, debug_str}
use Rattle.arguments.specs.declared.misuse.Expected.{Expected}
use Rattle.arguments.specs.declared.misuse.Expected.TheVariants.{Command, Table, Script, Names, NewTable, File, Hasher, NoMore}
use Rattle.arguments.specs.declared.misuse.Misuse.{Misuse}
use Rattle.arguments.specs.declared.misuse.Misuse.TheVariants.{Missing, Other}
use Rattle.arguments.specs.declared.judging.TheConstants.{HELP}

-- what is named as expected
abbrev pub text_of : Expected → List ℕ
text_of Command = codes "a command"
text_of Table = codes "a table after the command"
text_of Script = codes "a script after the command"
text_of Names = codes "two names of rules after the table"
text_of NewTable = codes "a new table after the old one"
text_of File = codes "standard input for at most one table"
text_of Hasher = codes "rotating or fnv1a after --hasher"
text_of NoMore = codes "no more arguments"

-- what is said of a misuse, where the word that was found is ASCII
abbrev pub said : Misuse → Option (List ℕ)
said (Missing e) = Some (codes "expected " ++ text_of e)
said (Other File word) = Some (codes "expected " ++ text_of File ++ codes ", found - twice")
said (Other e word) = Some (codes "expected " ++ text_of e ++ codes ", found ") ++? debug_str word.now

-- the same, and the help in the lines below it
abbrev pub said_with_help : Misuse → Option (List ℕ)
said_with_help m = said m ++? Some (10 ∷ HELP.now)
