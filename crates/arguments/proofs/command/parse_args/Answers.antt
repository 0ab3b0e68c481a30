use Rattle.std.proofs.Common.{arith, List, Result, String, Global, Ok, Err, codes, inl, inr, rules}
use Rattle.std.proofs.lemmas.List.{get_or_default}
use Rattle.arguments.specs.Commands.{ParsedAs}
use Rattle.arguments.specs.Files.{ScriptAs}
use Rattle.arguments.specs.Hashers.{HashedAs}
use Rattle.arguments.specs.Judging.{JudgingAs}
use Rattle.arguments.specs.Misuses.{Is}
use Rattle.arguments.specs.declared.command.Command.{Command}
use Rattle.arguments.specs.declared.command.Command.TheVariants.{Hash, Classes, Replay}
use Rattle.arguments.specs.declared.misuse.Misuse.{Misuse}
use Rattle.arguments.proofs.Tails.{read_as, refused}
use Rattle.arguments.proofs.command.parse_args.Goals as goal

-- what is neither of hashes nor of a catalogue is read as by the commands that judge rules
judged : (args : List (String Global)) (r : Result Command Misuse) → (Is args 1 (codes "hash") → ⊥) → (Is args 1 (codes "classes") → ⊥) → (Is args 1 (codes "replay") → ⊥) → JudgingAs args r → ParsedAs args r
judged args (Ok (Hash asked)) h c s j = absurd j
judged args (Ok (Classes asked)) h c s j = absurd j
judged args (Ok (Replay script)) h c s j = absurd j
judged args (Ok command) h c s j = j
judged args (Err m) h c s (inl refusal) = inl refusal
judged args (Err m) h c s (inr (unjudging, found)) = inr (inr (inr (inr ((unjudging, h, c, s), found))))

pub returns-in_ok-table_and_hasher-in-hash : goal.returns-in_ok-table_and_hasher-in-hash
returns-in_ok-table_and_hasher-in-hash c = (search rules, read_as HashedAs _ c.in_ok-table_and_hasher-in-hash.was c.table_and_hasher.ensures)

pub returns-in_ok-table_and_hasher-in-classes : goal.returns-in_ok-table_and_hasher-in-classes
returns-in_ok-table_and_hasher-in-classes c = (search rules, read_as HashedAs _ c.in_ok-table_and_hasher-in-classes.was c.table_and_hasher-in-classes.ensures)

pub returns-in_err-table_and_hasher-in-hash : goal.returns-in_err-table_and_hasher-in-hash
returns-in_err-table_and_hasher-in-hash c =
    refused (ParsedAs _) _ c.from_residual.ensures.1
    (inr (inl (search rules, read_as HashedAs _ c.in_err-table_and_hasher-in-hash.was c.table_and_hasher.ensures)))

pub returns-in_err-table_and_hasher-in-classes : goal.returns-in_err-table_and_hasher-in-classes
returns-in_err-table_and_hasher-in-classes c =
    refused (ParsedAs _) _ c.from_residual-in_err-table_and_hasher-in-classes.ensures.1
    (inr (inr (inl (search rules, read_as HashedAs _ c.in_err-table_and_hasher-in-classes.was c.table_and_hasher-in-classes.ensures))))

pub returns-in_err-one_file-in-replay : goal.returns-in_err-one_file-in-replay
returns-in_err-one_file-in-replay c =
    refused (ParsedAs _) _ c.from_residual-in_err-one_file-in-replay.ensures.1
    (inr (inr (inr (inl ((omega arith, λ d. cc (get_or_default c.args.args.now 1 c.word-item.result d (omega arith))), read_as ScriptAs _ c.in_err-one_file-in-replay.was c.one_file.ensures)))))

pub returns-in_default-as_str : goal.returns-in_default-as_str
returns-in_default-as_str c =
    judged _ _ (search rules) (search rules) (search rules) c.parse_args-in_default-as_str.ensures.reads
