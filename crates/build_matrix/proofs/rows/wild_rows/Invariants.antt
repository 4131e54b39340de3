-- `rows::wild_rows`: the rows kept and those that stay of the rows that are left are all that stay.
use mathlib.Core.Path.{◌≡◌}
use mathlib.Core.List.{◌++◌}
use Prim.Native.Nat.{◌≤◌}
use lib.ListN.{take}
use lib.Seq.{slice}
use Rattle.build_matrix.specs.HeldRows.{wild_of}
use Rattle.build_matrix.specs.Lists.{as_rows, WholeRows}
use Rattle.build_matrix.specs.Reading.{held_in}
use Rattle.build_matrix.proofs.rows.wild_rows.Given as goal

abbrev pub invariant-loop-c : goal.invariant-loop-c
invariant-loop-c l =
    (l.count ≤ l.c-index) × WholeRows (as_rows l.list l.count)
    × (take l.count l.list ++ wild_of (held_in l.table l.opened l.class) (slice l.c-index l.n l.rows) ≡ wild_of (held_in l.table l.opened l.class) (take l.n l.rows))
