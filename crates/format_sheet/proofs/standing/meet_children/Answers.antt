use native.Mathlib.Omega.{arith}
use Rattle.format_sheet.specs.SectionsLaws.{mapped}
use Rattle.format_sheet.specs.TallyLaws.{entry_room_to_meet, entries_go_on, entries_done}
use Rattle.format_sheet.proofs.standing.meet_children.Goals as goal

pub meet-requires : goal.meet-requires
meet-requires c =
    let l = c.loop-j in
    entry_room_to_meet c.args.sheet.now l.j c.child_at.result (omega (arith, c.loop-j-test.true, (mapped c.args.sheet.now c.args.map c.requires.1).of_children)) c.child_at.ensures l.invariant c.requires.2 c.requires.3

pub loop-j-preserved : goal.loop-j-preserved
loop-j-preserved c =
    let l = c.loop-j in
    let more = (mapped c.args.sheet.now c.args.map c.requires.1).of_children in
    entries_go_on c.args.sheet.now l.j c.child_at.result (omega (arith, c.loop-j-test.true, more)) c.child_at.ensures l.invariant c.meet.ensures

pub returns : goal.returns
returns c = entries_done c.args.sheet.now c.loop-j.j (omega (arith, c.loop-j-test.false, (mapped c.args.sheet.now c.args.map c.requires.1).of_children)) c.loop-j.invariant
