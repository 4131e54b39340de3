-- `splitting::join_rows`: what was joined and what the rows that are left join is all; the table tells what each row has.
use Prim.Native.Nat.{◌≤◌}
use lib.ListN.{take}
use lib.Seq.{slice}
use Rattle.build_matrix.specs.Live.{live_in}
use Rattle.build_matrix.specs.HeldRows.{joins_case}
use Rattle.build_matrix.specs.Lists.{as_rows, WholeRows}
use Rattle.build_matrix.specs.Meant.{meant}
use Rattle.build_matrix.specs.SplitLaws.{Joining}
use Rattle.build_matrix.proofs.splitting.join_rows.Given as goal

abbrev pub invariant-loop-c : goal.invariant-loop-c
invariant-loop-c l =
    (l.counts.rows ≤ l.c-index) × (l.counts.opens ≤ l.c-index) × WholeRows (as_rows l.rows l.counts.rows) × WholeRows (as_rows l.opens l.counts.opens)
    × Joining (joins_case l.sheet (meant l.sheet l.test)) (live_in l.sheet l.opened l.class) (as_rows l.rows l.counts.rows) (as_rows l.opens l.counts.opens) (slice l.c-index l.n l.from) (take l.n l.from)
