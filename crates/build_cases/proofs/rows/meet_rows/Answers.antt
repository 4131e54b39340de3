-- `build_cases::rows::meet_rows` meets its contract. The loop's invariant: the cases of the tests so far are met.
use native.Mathlib.Omega.{arith}
use Rattle.build_matrix.specs.Ready.{TestKnown}
use Rattle.build_cases.specs.SoFarLaws.{meets_begun, meets_length}
use Rattle.build_cases.specs.RowsLaws.{pass_none, pass_one, pass_ends}
use Rattle.build_cases.specs.ColumnLaws.{all_here}
use Rattle.build_cases.proofs.rows.meet_rows.Goals as goal

pub loop-test-init : goal.loop-test-init
loop-test-init c =
    let a = c.args in
    pass_none a.pass.tail a.pass.longest a.tests.now

pub meet_test-top-requires : goal.meet_test-top-requires
meet_test-top-requires c =
    let a = c.args in
    let l = c.loop-test in
    let known = all_here (TestKnown a.sheet.now) a.tests.now l.test-index (omega arith) c.requires.pass_asked.1 in
    record { sheet_accepts = (c.requires.pass_asked.0, rw c.from.ensures known, c.requires.pass_asked.2, c.requires.pass_asked.3); begun = meets_begun c.requires.begun l.invariant }

pub loop-test-preserved : goal.loop-test-preserved
loop-test-preserved c =
    let a = c.args in
    let l = c.loop-test in
    pass_one a.pass.tail a.pass.longest a.tests.now l.test-index (omega arith) c.from.result c.from.ensures l.invariant c.meet_test-top.ensures

pub shape_of-work : goal.shape_of-work
shape_of-work c = meets_length c.requires.begun c.loop-test.invariant

pub returns : goal.returns
returns c =
    let a = c.args in
    let l = c.loop-test in
    pass_ends a.pass.tail a.pass.longest a.tests.now l.test-index (omega arith) l.invariant
