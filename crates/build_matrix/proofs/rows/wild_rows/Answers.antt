-- `rows::wild_rows`: the rows kept and those that stay of the rows that are left are all that stay.
use mathlib.Core.Path.{◌≡◌, sym, ap, ◌∙◌}
use mathlib.Core.List.{List, ◌++◌}
use Prim.Native.Nat.{ℕ, ◌+◌}
use native.Mathlib.Omega.{arith}
use lib.ListN.{get_or, take, length-append}
use lib.Seq.{slice}
use Rattle.build_matrix.specs.HeldRows.{wild_of}
use Rattle.build_matrix.specs.Lists.{as_rows, numbers_in}
use Rattle.build_matrix.specs.ListsLaws.{holds_rows_count, holds_rows_same, whole_rows}
use Rattle.build_matrix.specs.Reading.{held_in, kept}
use Rattle.build_matrix.specs.ReadingLaws.{kept_most, wild_step, wild_end, left_on, left_end}
use Rattle.build_matrix.proofs.rows.wild_rows.Goals as goal

pub loop-c-preserved : goal.loop-c-preserved
loop-c-preserved c =
    let a = c.args in
    let l = c.loop-c in
    let held = held_in a.table.now a.opened.now a.class in
    let row = get_or (take a.n a.rows.now) l.c-index 0 in
    let one : held row ≡ c.test_at.result = sym (c.test_at.ensures ∙ ap held c.from.ensures) in
    let out = as_rows l.list l.count in
    let next = c.keep_wild-count.ensures in (
      omega (arith, holds_rows_count next, length-append (numbers_in out) (kept c.test_at.result row), kept_most c.test_at.result row, holds_rows_count l.invariant.1, l.invariant.0),
      whole_rows next,
      wild_step held out (as_rows c.keep_wild-count.new.list c.keep_wild-count.result) row c.test_at.result (slice (l.c-index + 1) a.n a.rows.now) one next
          ∙ ap (λ (x : List ℕ). numbers_in out ++ wild_of held x) (sym (left_on a.rows.now a.n l.c-index c.loop-c-test.true)) ∙ l.invariant.2,
    )

pub returns : goal.returns
returns c =
    let a = c.args in
    let l = c.loop-c in
    holds_rows_same l.invariant.1
    (wild_end (held_in a.table.now a.opened.now a.class) (take l.count l.list) (slice l.c-index a.n a.rows.now) (left_end a.rows.now a.n l.c-index c.loop-c-test.false) ∙ l.invariant.2)
