-- What the arguments of the commands that judge rules ask for: the first is the program's own name, the second the command. Assumes nothing.
use Rattle.std.specs.Prelude.{◌≡◌, ◌≤◌, ◌⊎◌, List, length, drop, Ok, Err, codes, Result, String}
use Rattle.std.specs.declared.alloc.Global.{Global}
use Rattle.arguments.specs.Files.{AloneAs, ChangedAs, ComparedAs, TableAs}
use Rattle.arguments.specs.Misuses.{Finds, Helping, Is}
use Rattle.arguments.specs.declared.command.Command.{Command}
use Rattle.arguments.specs.declared.command.Command.TheVariants.{Help, Check, Compare, Change, Hash, Classes, Replay}
use Rattle.arguments.specs.declared.misuse.Expected.TheVariants.{Command as NoCommand, Table, Names, NewTable, File, NoMore}
use Rattle.arguments.specs.declared.misuse.Misuse.{Misuse}
use Rattle.arguments.specs.declared.misuse.Misuse.TheVariants.{Missing, Other}

-- the word at 1 is none of the commands that judge rules
abbrev pub Unjudging : List (String Global) → Type 0
Unjudging args =
    (Is args 1 (codes "help") → ⊥) ×
    (Is args 1 (codes "--help") → ⊥) ×
    (Is args 1 (codes "check") → ⊥) ×
    (Is args 1 (codes "compare") → ⊥) ×
    (Is args 1 (codes "change") → ⊥)

-- such a command is refused where what stands after it is
abbrev pub CommandRefused : List (String Global) → Misuse → Type 0
CommandRefused args m =
    (Helping args × AloneAs {A = Unit {0}} (drop 2 args) (Err m)) ⊎
    (Is args 1 (codes "check") × TableAs (drop 2 args) (Err m)) ⊎
    (Is args 1 (codes "compare") × ComparedAs (drop 2 args) (Err m)) ⊎
    (Is args 1 (codes "change") × ChangedAs (drop 2 args) (Err m))

-- any other word is refused as that very word
abbrev pub JudgingAs : List (String Global) → Result Command Misuse → Type 0
JudgingAs args (Ok Help) = (length args ≤ 1) ⊎ (Helping args × (length args ≡ 2))
JudgingAs args (Ok (Check table)) = Is args 1 (codes "check") × TableAs (drop 2 args) (Ok table)
JudgingAs args (Ok (Compare asked)) = Is args 1 (codes "compare") × ComparedAs (drop 2 args) (Ok asked)
JudgingAs args (Ok (Change asked)) = Is args 1 (codes "change") × ChangedAs (drop 2 args) (Ok asked)
JudgingAs args (Ok (Hash asked)) = ⊥
JudgingAs args (Ok (Classes asked)) = ⊥
JudgingAs args (Ok (Replay script)) = ⊥
JudgingAs args (Err m) = CommandRefused args m ⊎ (Unjudging args × Finds {A = Unit {0}} NoCommand (Is args 1) (Err m))

-- the misuses by which the commands that judge rules are refused
abbrev pub Answerable : Misuse → Type 0
Answerable (Missing Table) = Unit {0}
Answerable (Missing Names) = Unit {0}
Answerable (Missing NewTable) = Unit {0}
Answerable (Missing expected) = ⊥
Answerable (Other NoCommand word) = Unit {0}
Answerable (Other File word) = Unit {0}
Answerable (Other NoMore word) = Unit {0}
Answerable (Other expected word) = ⊥
