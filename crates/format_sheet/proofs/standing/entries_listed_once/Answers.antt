use mathlib.Core.Path.{◌∙◌}
use native.Mathlib.Omega.{arith}
use Rattle.format_sheet.specs.SectionsLaws.{mapped}
use Rattle.format_sheet.specs.TestsLaws.{stopped}
use Rattle.format_sheet.specs.MeetingLaws.{none_of_zeros}
use Rattle.format_sheet.specs.TallyLaws.{lists_begin, lists_go_on, listed_twice, lists_done}
use mathlib.Core.Bool.{not}
use mathlib.Core.Path.{ap}
use Rattle.format_sheet.proofs.standing.entries_listed_once.Goals as goal

pub loop-p-init : goal.loop-p-init
loop-p-init c = lists_begin c.args.sheet.now none_of_zeros

pub returns-then-not-none_met : goal.returns-then-not-none_met
returns-then-not-none_met c =
    let l = c.loop-p in
    let r = c.children_of-run in
    listed_twice c.args.sheet.now l.p r.result (omega (arith, c.loop-p-test.true, (mapped c.args.sheet.now c.args.map c.requires.1).of_patterns)) r.ensures c.requires.3 l.invariant (stopped c.none_met.ensures (ap not c.if-not-none_met.true))

pub loop-p-preserved : goal.loop-p-preserved
loop-p-preserved c =
    let l = c.loop-p in
    let r = c.children_of-run in
    let more = (mapped c.args.sheet.now c.args.map c.requires.1).of_patterns in
    lists_go_on c.args.sheet.now l.p r.result (omega (arith, c.loop-p-test.true, more)) r.ensures l.invariant c.meet_all.ensures

pub returns : goal.returns
returns c =
    let l = c.loop-p in
    c.all_met_once.ensures ∙ lists_done c.args.sheet.now c.args.map l.p c.requires.1 (omega (arith, c.loop-p-test.false, (mapped c.args.sheet.now c.args.map c.requires.1).of_patterns)) l.invariant
