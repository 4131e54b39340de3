-- `splitting::case_matrix`: its parts are those of the case by numbers; the case's own soundness gives the room.
use Prim.Native.Nat.{◌+◌}
use native.Mathlib.Omega.{arith}
use Rattle.spec_rules.specs.SheetFile.{clauses}
use Rattle.build_matrix.specs.Lists.{as_classes, numbers_in}
use Rattle.build_matrix.specs.ListsLaws.{whole, whole_rows}
use Rattle.build_matrix.specs.InNumbers.{matrix_of}
use Rattle.build_matrix.specs.InNumbersLaws.{rising_below, splits}
use Rattle.build_matrix.specs.Meant.{meant}
use Rattle.build_matrix.specs.SplitLaws.{joined_there, joined_low, joined_room, joined_rest, case_stands}
use Rattle.build_matrix.proofs.splitting.case_matrix.Goals as goal

pub join_rows-counts-requires-clause-ready_table : goal.join_rows-counts-requires-clause-ready_table
join_rows-counts-requires-clause-ready_table c =
    let a = c.args in
    let p = c.requires.case_asked in
    let x = matrix_of a.rows.now a.columns.now a.tested.now a.opened.now a.sizes in
    (p.0, p.1.whole_rows, rising_below (clauses a.sheet.now) 0 (numbers_in x.rows) p.2.rising, (splits p.0 x p.1 p.2 a.class p.3).known, p.4)

pub open_all-front-requires-clause-opens_asked : goal.open_all-front-requires-clause-opens_asked
open_all-front-requires-clause-opens_asked c =
    let a = c.args in
    let p = c.requires.case_asked in
    let x = matrix_of a.rows.now a.columns.now a.tested.now a.opened.now a.sizes in
    let joined = c.join_rows-counts.ensures in
    (p.0, whole_rows joined.has_opens, joined_there p.0 x p.1 p.2 a.class p.3 (meant a.sheet.now a.test) joined, joined_room p.0 x p.1 p.2 a.class p.3 (meant a.sheet.now a.test) joined)

pub put_rest-all-requires : goal.put_rest-all-requires
put_rest-all-requires c =
    let a = c.args in
    let p = c.requires.case_asked in
    let x = matrix_of a.rows.now a.columns.now a.tested.now a.opened.now a.sizes in
    let joined = c.join_rows-counts.ensures in
    let front = c.open_all-front in
    (whole front.ensures, p.1.whole_columns, p.3, joined_rest p.0 x p.1 p.2 a.class p.3 (meant a.sheet.now a.test) joined {o = as_classes front.new.list front.result} front.ensures)

pub push-requires : goal.push-requires
push-requires c =
    let a = c.args in
    let p = c.requires.case_asked in
    let x = matrix_of a.rows.now a.columns.now a.tested.now a.opened.now a.sizes in
    let split = splits p.0 x p.1 p.2 a.class p.3 in
    (p.1.whole_tested, split.room, split.known)

pub mark-requires : goal.mark-requires
mark-requires c =
    let a = c.args in
    let p = c.requires.case_asked in
    let x = matrix_of a.rows.now a.columns.now a.tested.now a.opened.now a.sizes in
    let joined = c.join_rows-counts.ensures in
    (p.1.long_opened, whole_rows joined.has_opens, joined_low p.0 x p.1 p.2 a.class p.3 (meant a.sheet.now a.test) joined, omega (arith, (splits p.0 x p.1 p.2 a.class p.3).room))

pub returns : goal.returns
returns c =
    let a = c.args in
    let p = c.requires.case_asked in
    let x = matrix_of a.rows.now a.columns.now a.tested.now a.opened.now a.sizes in
    let joined = c.join_rows-counts.ensures in
    let front = c.open_all-front in
    let columns = c.put_rest-all in
    let tested = c.push in
    case_stands p.0 x p.1 p.2 a.class p.3 (meant a.sheet.now a.test) joined {o = as_classes front.new.list front.result} front.ensures
    {columns = as_classes columns.new.list columns.result} {tested = as_classes tested.new.list (a.sizes.tested + 1)} columns.ensures tested.ensures c.mark.ensures
