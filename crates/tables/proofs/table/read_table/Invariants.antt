use Rattle.std.proofs.Common.{vec_items}
use Rattle.std.specs.Iterator.Adapters.{enumerate_count}
use Rattle.tables.proofs.Reading.{Sofar}
use Rattle.tables.proofs.Rows.{AtFeeds, rows_left}
use Rattle.tables.proofs.table.read_table.Given as goal

abbrev pub invariant-loop-i : goal.invariant-loop-i
invariant-loop-i l =
    (goal.iterator-loop-i).can_next l.i-iterator ×
    (goal.iterator-loop-i).is_finite l.i-iterator ×
    AtFeeds l.i-iterator ×
    Sofar l.text (rows_left l.i-iterator) (enumerate_count l.i-iterator) (vec_items l.entries) l.seen
