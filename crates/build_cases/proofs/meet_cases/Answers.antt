-- `build_cases::meet_cases` meets its contract: the tests read from the table are those of the column.
use mathlib.Core.Path.{refl}
use lib.ListN.{take}
use Rattle.build_matrix.specs.Lists.{as_rows}
use Rattle.build_matrix.specs.InNumbersLaws.{cells_in}
use Rattle.build_cases.specs.MadeLaws.{column_known, column_meets}
use Rattle.build_cases.proofs.meet_cases.Goals as goal

pub column_tests-found-requires : goal.column_tests-found-requires
column_tests-found-requires c =
    let a = c.args in
    (c.requires.ready_table.1, cells_in c.requires.ready_table.0 (take a.n a.rows.now) c.requires.ready_table.2 a.class c.requires.ready_table.3, refl)

pub meet_both-requires : goal.meet_both-requires
meet_both-requires c =
    let a = c.args in
    let t = c.column_tests-found in record { tests_asked = (c.requires.ready_table.0.checked, column_known c.requires.ready_table.0 (take a.n a.rows.now) c.requires.ready_table.2 a.opened.now a.class c.requires.ready_table.3 (as_rows t.new.list t.result) t.ensures); arena_end_in_bounds = c.requires.arena_end_in_bounds }

pub returns : goal.returns
returns c =
    let a = c.args in
    let t = c.column_tests-found in
    let met = c.meet_both in
    column_meets c.requires.ready_table.0 (take a.n a.rows.now) c.requires.ready_table.2 a.opened.now a.class c.requires.ready_table.3 (as_rows t.new.list t.result) t.ensures a.first a.work.now _ met.result met.ensures
