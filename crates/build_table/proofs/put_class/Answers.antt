use native.Mathlib.Omega.{arith}
use Rattle.build_table.specs.ClassingLaws.{class_in_most, classed_same, classed_step}
use Rattle.build_table.proofs.put_class.Goals as goal

pub returns-then-table-p-eq-SAME : goal.returns-then-table-p-eq-SAME
returns-then-table-p-eq-SAME c = classed_same c.args.table.now c.args.p c.at-above.result c.at-above.ensures c.if-table-p-eq-SAME.true

pub overflow_cast-table : goal.overflow_cast-table
overflow_cast-table c = omega (arith, c.class_of-first.ensures, class_in_most c.args.table.now c.args.p, c.requires.known)

pub returns : goal.returns
returns c = classed_step c.args.table.now c.args.p c.at-above.result c.at-above.ensures c.if-table-p-eq-SAME.false c.class_of-first.result c.class_of-first.ensures
