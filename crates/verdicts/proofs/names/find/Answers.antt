use Rattle.std.proofs.Common.{◌≡◌, length, sym, ◌∙◌, subst}
use Rattle.std.specs.BTreeMap.{get_by_text}
use Rattle.verdicts.specs.Names.{PlaceBelow}
use Rattle.verdicts.proofs.Indexing.{found_as}
use Rattle.verdicts.proofs.names.find.Goals as goal
use Rattle.verdicts.proofs.names.find.Goals.{After-copied}

-- what the map has at the name
looked_up : (c : After-copied) → c.copied.result ≡ get_by_text c.args.places.now c.args.name.now
looked_up c = c.copied.ensures ∙ c.get.ensures.value

pub returns-in-Some : goal.returns-in-Some
returns-in-Some c = λ indexed.
    let es = c.args.entries.now in
    let name = c.args.name.now in
    let at = looked_up (goal.at.returns-in-Some c).After-copied in
    found_as es name c.in-Some.i c.get-in-Some.result (subst (PlaceBelow es (length es) name) (sym at ∙ c.in-Some.is) (indexed.1 name)) c.get-in-Some.ensures.lookup

pub returns-in-None : goal.returns-in-None
returns-in-None c = λ indexed.
    let es = c.args.entries.now in
    let name = c.args.name.now in
    let at = looked_up (goal.at.returns-in-None c).After-copied in
    subst (PlaceBelow es (length es) name) (sym at ∙ c.in-None.is) (indexed.1 name)
