-- `build_cases::column::column_tests` meets its contract. The loop's invariant: the tests so far, and those of the rows left, are the column's.
use borrow.Author.Rules.{rules}
use mathlib.Core.Path.{◌≡◌, refl, sym, ap, ◌∙◌}
use mathlib.Core.List.{List, ◌++◌}
use Prim.Native.Nat.{ℕ, ◌+◌}
use native.Mathlib.Omega.{arith}
use lib.ListN.{get_or, take, length-append}
use lib.Seq.{slice}
use Rattle.build_matrix.specs.HeldRows.{held_tests}
use Rattle.build_matrix.specs.Lists.{as_rows, numbers_in}
use Rattle.build_matrix.specs.ListsLaws.{holds_rows_count, holds_rows_same, whole_rows}
use Rattle.build_matrix.specs.Reading.{held_in, InTable}
use Rattle.build_matrix.specs.ReadingLaws.{all_at, slice_on, slice_end}
use Rattle.build_cases.specs.Rows.{held_test}
use Rattle.build_cases.specs.ColumnLaws.{held_small, tests_step, tests_end, held_test_most}
use Rattle.build_cases.proofs.column.column_tests.Goals as goal

pub loop-i-init : goal.loop-i-init
loop-i-init c = (search rules, record { long = c.requires.2; most = omega arith; are = refl }, refl)

pub bounds-rows-i : goal.bounds-rows-i
bounds-rows-i c = omega (arith, c.requires.0.most, c.requires.0.long, c.loop-i-test.true)

pub test_at-requires : goal.test_at-requires
test_at-requires c =
    let a = c.args in
    let l = c.loop-i in
    rw c.from.ensures (all_at (InTable a.table.now a.class) a.rows.now a.n l.i c.loop-i-test.true (omega (arith, c.requires.0.long, c.requires.0.most)) c.requires.1)

pub keep_test-count-requires : goal.keep_test-count-requires
keep_test-count-requires c =
    let a = c.args in
    let l = c.loop-i in
    let row = get_or a.rows.now l.i 0 in
    let there : InTable a.table.now a.class row = all_at (InTable a.table.now a.class) a.rows.now a.n l.i c.loop-i-test.true (omega (arith, c.requires.0.long, c.requires.0.most)) c.requires.1 in (
      l.invariant.1,
      omega (arith, l.invariant.0, c.loop-i-test.true, c.requires.0.most),
      held_small a.table.now a.opened.now a.class row c.test_at.result there (c.test_at.ensures ∙ ap (held_in a.table.now a.opened.now a.class) c.from.ensures),
    )

pub loop-i-preserved : goal.loop-i-preserved
loop-i-preserved c =
    let a = c.args in
    let l = c.loop-i in
    let held = held_in a.table.now a.opened.now a.class in
    let row = get_or a.rows.now l.i 0 in
    let read = c.test_at in
    let one : held row ≡ read.result = sym (read.ensures ∙ ap held c.from.ensures) in
    let out = as_rows l.list l.count in
    let next = c.keep_test-count.ensures in (
      omega (arith, holds_rows_count next, length-append (numbers_in out) (held_test read.result), held_test_most read.result, holds_rows_count l.invariant.1, l.invariant.0),
      whole_rows next,
      tests_step held out (as_rows c.keep_test-count.new.list c.keep_test-count.result) row read.result (slice (l.i + 1) a.n a.rows.now) one next
          ∙ ap (λ (x : List ℕ). numbers_in out ++ held_tests held x) (sym (slice_on a.rows.now l.i a.n c.loop-i-test.true (omega (arith, c.requires.0.long, c.requires.0.most)))) ∙ l.invariant.2,
    )

pub returns : goal.returns
returns c =
    let a = c.args in
    let l = c.loop-i in
    holds_rows_same l.invariant.1
    (tests_end (held_in a.table.now a.opened.now a.class) (take l.count l.list) (slice l.i a.n a.rows.now) (slice_end a.rows.now l.i a.n (omega (arith, c.loop-i-test.false))) ∙ l.invariant.2)
