use Rattle.std.proofs.Common.{◌≡◌, [], length, take, vec_items}
use Rattle.catalogue.specs.Promise.{Reached}
use Rattle.catalogue.specs.States.{state}
use Rattle.hashing.specs.Words.{hash_by}
use Rattle.kinds.specs.Rules.{rules}
use Rattle.classes.specs.Tables.{enterings}
use Rattle.classes.proofs.table.enter_rules.Given as goal

-- the rules so far are entered
abbrev pub invariant-loop-entry : goal.invariant-loop-entry
invariant-loop-entry g l = let m = g.H.Hasher in
    (length (vec_items l.answers) ≡ l.entry-index)
    × Reached (rules (hash_by m)) (enterings [] (take l.entry-index l.entries) (vec_items l.answers)) (state l.cat l.slots l.units)
