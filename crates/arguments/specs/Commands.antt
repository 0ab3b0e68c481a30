-- What all the arguments are read as: the first is the program's own name, the second the command. Assumes nothing.
use Rattle.std.specs.Prelude.{◌⊎◌, List, drop, Ok, Err, codes, Result, String}
use Rattle.std.specs.declared.alloc.Global.{Global}
use Rattle.arguments.specs.Files.{ScriptAs}
use Rattle.arguments.specs.Hashers.{HashedAs}
use Rattle.arguments.specs.Judging.{CommandRefused, JudgingAs, Unjudging}
use Rattle.arguments.specs.Misuses.{Finds, Is}
use Rattle.arguments.specs.declared.command.Command.{Command}
use Rattle.arguments.specs.declared.command.Command.TheVariants.{Hash, Classes, Replay}
use Rattle.arguments.specs.declared.misuse.Expected.TheVariants.{Command as NoCommand}
use Rattle.arguments.specs.declared.misuse.Misuse.{Misuse}

-- the word at 1 is none of the commands
abbrev pub Unknown : List (String Global) → Type 0
Unknown args =
    Unjudging args ×
    (Is args 1 (codes "hash") → ⊥) ×
    (Is args 1 (codes "classes") → ⊥) ×
    (Is args 1 (codes "replay") → ⊥)

-- a command is refused where what stands after it is, and a word that is no command as such
abbrev pub RefusedAs : List (String Global) → Misuse → Type 0
RefusedAs args m =
    CommandRefused args m ⊎
    (Is args 1 (codes "hash") × HashedAs (drop 2 args) (Err m)) ⊎
    (Is args 1 (codes "classes") × HashedAs (drop 2 args) (Err m)) ⊎
    (Is args 1 (codes "replay") × ScriptAs (drop 2 args) (Err m)) ⊎
    (Unknown args × Finds {A = Unit {0}} NoCommand (Is args 1) (Err m))

abbrev pub ParsedAs : List (String Global) → Result Command Misuse → Type 0
ParsedAs args (Ok (Hash asked)) = Is args 1 (codes "hash") × HashedAs (drop 2 args) (Ok asked)
ParsedAs args (Ok (Classes asked)) = Is args 1 (codes "classes") × HashedAs (drop 2 args) (Ok asked)
ParsedAs args (Ok (Replay script)) = Is args 1 (codes "replay") × ScriptAs (drop 2 args) (Ok script)
ParsedAs args (Ok command) = JudgingAs args (Ok command)
ParsedAs args (Err misuse) = RefusedAs args misuse
