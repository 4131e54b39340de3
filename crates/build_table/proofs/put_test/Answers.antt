use native.Mathlib.Omega.{arith}
use Rattle.build_table.specs.Standing.{is_test}
use Rattle.build_table.specs.ClassingLaws.{tested_yes, tested_no, cell_inside}
use Rattle.build_table.proofs.put_test.Goals as goal

pub bounds-table-clause : goal.bounds-table-clause
bounds-table-clause c =
    omega (arith, c.requires.1, cell_inside c.requires.0 c.requires.2 c.requires.3 c.requires.4 c.at-clause.result c.at-class.result c.at-clause.ensures c.at-class.ensures)

pub returns-then-is_test : goal.returns-then-is_test
returns-then-is_test c = tested_yes c.args.table.now c.args.p (is_test c.args.sheet.now c.args.p) c.is_test.result c.at-clause.result c.at-class.result c.is_test.ensures c.if-is_test.true c.at-clause.ensures c.at-class.ensures

pub returns-else-is_test : goal.returns-else-is_test
returns-else-is_test c = tested_no c.args.table.now c.args.p (is_test c.args.sheet.now c.args.p) c.is_test.result c.is_test.ensures c.if-is_test.false
