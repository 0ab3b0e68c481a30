use Rattle.std.proofs.Common.{◌≡◌, Some, string_bytes, sym, refl, ap, ◌∙◌, subst}
use Rattle.std.proofs.lemmas.Map.Text.{btree_map_updates_text}
use Rattle.std.specs.BTreeMap.{get_by_text}
use Rattle.tables.specs.Lines.{Shown}
use Rattle.tables.specs.Rules.{SetsText}
use Rattle.tables.proofs.Reading.{sets-text}
use Rattle.tables.proofs.table.note_name.Goals as goal
use Rattle.tables.proofs.table.note_name.Goals.{After-copied}

-- what the map has at the name
looked-up : (c : After-copied) → get_by_text c.args.seen.now (string_bytes c.args.entry.now.name) ≡ c.copied.result
looked-up c = sym (c.copied.ensures ∙ c.get.ensures.value ∙ ap (get_by_text c.args.seen.now) c.as_str-name.ensures.value)

pub returns-in-Some : goal.returns-in-Some
returns-in-Some c =
    (refl, looked-up (goal.at.returns-in-Some c).After-copied ∙ c.in-Some.is, subst (λ bs. Shown bs (string_bytes c.in_ok-name.name)) c.as_str-name.ensures.value c.in_ok-name.ensures)

pub returns : goal.returns
returns c =
    let old = c.args.seen.now in
    let new = c.insert.new.self in
    let key = c.in_ok-from_str.ensures.ok ∙ c.as_str-name.ensures.value in (
      looked-up (goal.at.returns c).After-copied ∙ c.in_default.is,
      subst (λ bs. SetsText old new bs (Some c.args.entry.now.line)) key (sets-text _ old new _ (btree_map_updates_text _ old new _ c.in_ok-insert.ensures.updates)),
    )
