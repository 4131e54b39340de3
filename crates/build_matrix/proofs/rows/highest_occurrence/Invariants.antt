-- `rows::highest_occurrence`: the best so far goes on through the columns that are left to the best of all.
use Rattle.std.specs.Prelude.{None}
use mathlib.Core.Path.{◌≡◌}
use lib.ListN.{take}
use lib.Seq.{slice}
use Rattle.build_matrix.specs.HeldRows.{count_of, best_of}
use Rattle.build_matrix.specs.Reading.{held_in}
use Rattle.build_matrix.proofs.rows.highest_occurrence.Given as goal

abbrev pub invariant-loop-column : goal.invariant-loop-column
invariant-loop-column l =
    best_of (λ c. count_of (held_in l.table l.opened c) (take l.height l.rows)) l.best.choice l.best.amount (slice l.column-index l.width l.columns)
    ≡ best_of (λ c. count_of (held_in l.table l.opened c) (take l.height l.rows)) None 0 (take l.width l.columns)
