-- `splitting::join_rows`: what was joined and what the rows that are left join is all; the table tells what each row has.
use mathlib.Core.Path.{◌≡◌, refl, ap, ◌∙◌}
use Prim.Native.Nat.{◌+◌, ◌<◌}
use native.Mathlib.Omega.{arith}
use lib.ListN.{get_or, take}
use lib.Seq.{slice}
use Rattle.spec_rules.specs.SheetFile.{clauses}
use Rattle.build_matrix.specs.Live.{live_in}
use Rattle.build_matrix.specs.HeldRows.{joins_case}
use Rattle.build_matrix.specs.Lists.{as_rows}
use Rattle.build_matrix.specs.ListsLaws.{whole_rows}
use Rattle.build_matrix.specs.Reading.{held_in}
use Rattle.build_matrix.specs.ReadingLaws.{all_in, left_on, left_end}
use Rattle.build_matrix.specs.InNumbersLaws.{in_table, held_read}
use Rattle.build_matrix.specs.Meant.{meant}
use Rattle.build_matrix.specs.SplitLaws.{joining_on, joining_few, joining_end, held_live}
use Rattle.build_matrix.proofs.splitting.join_rows.Goals as goal

pub test_at-held-requires : goal.test_at-held-requires
test_at-held-requires c =
    let a = c.args in
    let p = c.requires.ready_table in
    let low = all_in (λ k. k < clauses a.sheet.now) (take a.n a.from.now) c.loop-c.c-index c.from.result 0 c.loop-c-test.true c.from.ensures p.2 in
    in_table p.0 c.from.result a.class low p.3

pub join_row-counts-requires-clause-sheet_accepts : goal.join_row-counts-requires-clause-sheet_accepts
join_row-counts-requires-clause-sheet_accepts c =
    let a = c.args in
    let p = c.requires.ready_table in
    let row = get_or (take a.n a.from.now) c.loop-c.c-index 0 in
    let low = all_in (λ k. k < clauses a.sheet.now) (take a.n a.from.now) c.loop-c.c-index row 0 c.loop-c-test.true refl p.2 in
    let read = c.test_at-held in
    let held : read.result ≡ live_in a.sheet.now a.opened.now a.class row =
    read.ensures ∙ ap (held_in a.table.now a.opened.now a.class) c.from.ensures ∙ held_read p.0 row a.class low p.3 a.opened.now
    in
    (p.0.checked, held_live a.sheet.now a.opened.now a.class row read.result held, p.4)

pub loop-c-preserved : goal.loop-c-preserved
loop-c-preserved c =
    let a = c.args in
    let l = c.loop-c in
    let p = c.requires.ready_table in
    let row = get_or (take a.n a.from.now) l.c-index 0 in
    let low = all_in (λ k. k < clauses a.sheet.now) (take a.n a.from.now) l.c-index row 0 c.loop-c-test.true refl p.2 in
    let read = c.test_at-held in
    let held : read.result ≡ live_in a.sheet.now a.opened.now a.class row =
    read.ensures ∙ ap (held_in a.table.now a.opened.now a.class) c.from.ensures ∙ held_read p.0 row a.class low p.3 a.opened.now
    in
    let joins = joins_case a.sheet.now (meant a.sheet.now a.test) in
    let live = live_in a.sheet.now a.opened.now a.class in
    let rows = as_rows l.rows l.counts.rows in
    let opens = as_rows l.opens l.counts.opens in
    let one = c.join_row-counts in
    let next = as_rows one.new.rows one.result.rows in
    let next_opens = as_rows one.new.opens one.result.opens in
    let few = joining_few joins live rows opens next next_opens (take a.n a.from.now) read.result row held one.ensures l.invariant.2 l.invariant.3 in (
      omega (arith, few, l.invariant.0),
      omega (arith, few, l.invariant.1),
      whole_rows one.ensures.has_rows,
      whole_rows one.ensures.has_opens,
      joining_on joins live rows opens next next_opens (take a.n a.from.now) read.result row held one.ensures (slice (l.c-index + 1) a.n a.from.now) (rw (left_on a.from.now a.n l.c-index c.loop-c-test.true) at l.invariant.4),
    )

pub returns : goal.returns
returns c =
    let a = c.args in
    let l = c.loop-c in
    joining_end (joins_case a.sheet.now (meant a.sheet.now a.test)) (live_in a.sheet.now a.opened.now a.class) (as_rows l.rows l.counts.rows) (as_rows l.opens l.counts.opens) (slice l.c-index a.n a.from.now) (take a.n a.from.now)
    (left_end a.from.now a.n l.c-index c.loop-c-test.false) l.invariant.2 l.invariant.3 l.invariant.4
