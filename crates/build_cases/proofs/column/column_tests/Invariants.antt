-- `build_cases::column::column_tests` meets its contract. The loop's invariant: the tests so far, and those of the rows left, are the column's.
use mathlib.Core.Path.{◌≡◌}
use mathlib.Core.List.{◌++◌}
use Prim.Native.Nat.{◌≤◌}
use lib.ListN.{take}
use lib.Seq.{slice}
use Rattle.build_matrix.specs.HeldRows.{held_tests}
use Rattle.build_matrix.specs.Lists.{as_rows, WholeRows}
use Rattle.build_matrix.specs.Reading.{held_in}
use Rattle.build_cases.proofs.column.column_tests.Given as goal

abbrev pub invariant-loop-i : goal.invariant-loop-i
invariant-loop-i l =
    (l.count ≤ l.i) × WholeRows (as_rows l.list l.count)
    × (take l.count l.list ++ held_tests (held_in l.table l.opened l.class) (slice l.i l.n l.rows) ≡ held_tests (held_in l.table l.opened l.class) (take l.n l.rows))
