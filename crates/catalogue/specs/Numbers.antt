-- What contracts see of the record of a catalogue. Assumes nothing.
use Rattle.std.specs.Prelude.{ℕ, ◌≤◌}

-- how many entries stand, how many units they have, and how many classes
pub record Numbers : Type 0 where
  pub standing : ℕ
  pub used : ℕ
  pub classes : ℕ

-- what is so of every record: no more classes than entries, and no more entries than can stand
pub record Bounded (a : Numbers) : Type 0 where
  pub few : a.classes ≤ a.standing
  pub most : a.standing ≤ 65536

abbrev pub nothing : Numbers
nothing = record { standing = 0; used = 0; classes = 0 }
