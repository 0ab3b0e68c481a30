use Rattle.std.proofs.Common.{rules, subst}
use Rattle.tables.specs.Lines.{RunAs}
use Rattle.tables.proofs.Faults.{IsWord, run-as}
use Rattle.tables.proofs.Gathered.{GivesPiece, gathered}
use Rattle.tables.proofs.line.Line.words.Goals as goal

pub returns : goal.returns
returns c =
    let number = c.args.self.number in
    let all = gathered GivesPiece _ _ (IsWord number) (λ p r h k. search rules) _ c.new.result c.map.result c.try_collect.result
    c.map.ensures.closure c.map.ensures.source c.try_collect.ensures.ran c.try_collect.ensures.err in
    subst (λ run. RunAs number run c.try_collect.result) c.new.ensures (run-as number c.new.result c.try_collect.result all)
