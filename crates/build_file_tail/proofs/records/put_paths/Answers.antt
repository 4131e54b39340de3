-- `build_file_tail::records::put_paths` meets its contract. The loop's invariant: the records of the first i paths are there, and `first` is how many steps they have.
use Rattle.build_file_tail.specs.RecordsLaws.{recorded_small, recorded_more, recorded_all}
use native.Mathlib.Omega.{arith}
use Rattle.build_file_tail.proofs.records.put_paths.Goals as goal

pub overflow_add-first : goal.overflow_add-first
overflow_add-first c =
    let a = c.args in
    omega (arith, c.requires.count_bound, recorded_small a.table.now a.classes.now a.tree.now a.at a.count c.loop-i.invariant c.requires.table_len.1.inside (omega arith) c.from.result c.from-steps.result c.from.ensures c.from-steps.ensures)

pub loop-i-preserved : goal.loop-i-preserved
loop-i-preserved c =
    let a = c.args in
    recorded_more a.table.now a.classes.now a.tree.now a.at a.count c.loop-i.invariant c.requires.table_len.1.inside (omega arith) c.from.result c.from-steps.result c.from.ensures c.from-steps.ensures c.put_path.ensures

pub returns : goal.returns
returns c =
    let a = c.args in
    recorded_all a.table.now a.classes.now a.tree.now a.at a.count c.loop-i.invariant (omega arith) (omega arith)
