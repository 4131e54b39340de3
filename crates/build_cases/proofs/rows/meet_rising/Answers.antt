-- `build_cases::rows::meet_rising` meets its contract. The loop's invariant: the cases of the lengths before i are met.
use borrow.Author.Rules.{rules}
use native.Mathlib.Omega.{arith}
use Rattle.build_cases.specs.SoFarLaws.{meets_begun, meets_length}
use Rattle.build_cases.specs.RowsLaws.{rise_fit, rise_none, rise_one, rise_ends}
use Rattle.build_cases.proofs.rows.meet_rising.Goals as goal

pub loop-i-init : goal.loop-i-init
loop-i-init c = (search rules, rise_none c.args.tail c.args.least)

pub meet-top-requires : goal.meet-top-requires
meet-top-requires c = record { laid = (c.requires.laid.0, c.requires.laid.1, rise_fit c.args.sheet.now c.args.tail c.loop-i.i c.list_test.result c.list_test.ensures); begun = meets_begun c.requires.begun c.loop-i.invariant.1 }

pub loop-i-preserved : goal.loop-i-preserved
loop-i-preserved c =
    (omega arith, rise_one c.args.tail c.args.least c.loop-i.i c.list_test.result (omega arith) c.list_test.ensures c.loop-i.invariant.1 c.meet-top.ensures)

pub shape_of-work : goal.shape_of-work
shape_of-work c = meets_length c.requires.begun c.loop-i.invariant.1

pub returns : goal.returns
returns c =
    let l = c.loop-i in
    rise_ends c.args.tail c.args.least l.i c.args.end (omega arith) (omega arith) l.invariant.0 l.invariant.1
