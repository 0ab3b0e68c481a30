use Rattle.std.proofs.Common.{vec_items}
use Rattle.std.specs.Iterator.Adapters.{enumerate_count}
use Rattle.tables.proofs.Rows.{AtFeeds, rows_left}
use Rattle.scripts.specs.Calls.{told_all}
use Rattle.scripts.proofs.Rows.{Sofar}
use Rattle.scripts.proofs.script.read_lines.Given as goal

abbrev pub invariant-loop-i : goal.invariant-loop-i
invariant-loop-i l =
    (goal.iterator-loop-i).can_next l.i-iterator ×
    (goal.iterator-loop-i).is_finite l.i-iterator ×
    AtFeeds l.i-iterator ×
    Sofar l.text (rows_left l.i-iterator) (enumerate_count l.i-iterator) l.headed (told_all (vec_items l.calls))
