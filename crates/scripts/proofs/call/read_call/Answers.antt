use Rattle.tables.specs.Pieces.{left}
use Rattle.scripts.specs.Calls.{AfterVerb, told, verb_word}
use Rattle.scripts.specs.Parts.{WordTo}
use Rattle.scripts.proofs.Soles.{then-reads}
use Rattle.scripts.proofs.call.read_call.Goals as goal

pub returns : goal.returns
returns c =
    then-reads (WordTo verb_word c.args.text.now) (λ q t. AfterVerb c.args.limit q.0 q.1 t) c.args.line.number told
    (c.in_ok-verb.verb, left c.read_named.new.pieces) c.after_verb.result (rw c.new-pieces.ensures at c.in_ok-verb.ensures) c.after_verb.ensures
