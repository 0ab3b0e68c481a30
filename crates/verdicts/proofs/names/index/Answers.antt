use Rattle.std.proofs.Common.{string_bytes, sym, ap, ◌∙◌}
use Rattle.std.proofs.lemmas.List.{get_or_default}
use Rattle.std.proofs.lemmas.Map.Text.{btree_map_updates_text}
use Rattle.tables.specs.Rules.{name_of}
use Rattle.verdicts.proofs.Indexing.{one_indexed}
use Rattle.verdicts.proofs.names.index.Goals as goal

pub loop-i-preserved : goal.loop-i-preserved
loop-i-preserved c =
    let es = c.args.entries.now in
    let i = c.loop-i.i in
    let name = string_bytes c.in_ok-name.name in
    one_indexed es i c.loop-i.places c.insert.new.self name
    (λ d. ap name_of (sym (c.index-entries-i.is ∙ get_or_default es i c.index-entries-i.result d c.loop-i-test.true)) ∙ sym (c.in_ok-name.ensures.ok ∙ c.as_str.ensures.value))
    c.loop-i.invariant
    c.insert.ensures.ordered
    (btree_map_updates_text name c.loop-i.places c.insert.new.self _ c.in_ok-insert.ensures.updates)
