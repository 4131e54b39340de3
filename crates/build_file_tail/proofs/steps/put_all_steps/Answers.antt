-- `build_file_tail::steps::put_all_steps` meets its contract. The loop's invariant: the steps of the first i paths are there, and the rest stored behind them is the whole.
use Rattle.build_file_tail.specs.TailLaws.{stepped_room, stepped_more, stepped_all}
use native.Mathlib.Omega.{arith}
use Rattle.build_file_tail.proofs.steps.put_all_steps.Goals as goal

pub put_steps-end-requires-clause-class_in_bounds : goal.put_steps-end-requires-clause-class_in_bounds
put_steps-end-requires-clause-class_in_bounds c =
    let a = c.args in
    let l = c.loop-i in
    omega (arith, stepped_room a.sheet.now a.classes.now a.tree.now a.at a.count l.invariant c.requires.sheet_accepts.2.inside (omega arith) c.from.result c.from.ensures, l.invariant.as_long, c.requires.count_in_bounds)

pub loop-i-preserved : goal.loop-i-preserved
loop-i-preserved c =
    let a = c.args in
    stepped_more a.sheet.now a.classes.now a.tree.now a.at a.count c.loop-i.invariant c.requires.sheet_accepts.2.inside (omega arith) c.from.result c.from.ensures c.put_steps-end.ensures

pub returns : goal.returns
returns c =
    let a = c.args in
    stepped_all a.sheet.now a.classes.now a.tree.now a.at a.count c.loop-i.invariant (omega arith)
