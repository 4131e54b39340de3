use native.Mathlib.Omega.{arith}
use Rattle.format_sheet.specs.SectionsLaws.{mapped}
use Rattle.format_sheet.specs.TallyLaws.{root_room_to_meet, roots_go_on, roots_done}
use Rattle.format_sheet.proofs.standing.meet_roots.Goals as goal

pub meet-requires : goal.meet-requires
meet-requires c =
    let l = c.loop-c in
    root_room_to_meet c.args.sheet.now l.c c.root_at.result (omega (arith, c.loop-c-test.true, (mapped c.args.sheet.now c.args.map c.requires.1).of_clauses)) c.root_at.ensures l.invariant c.requires.2 c.requires.3

pub loop-c-preserved : goal.loop-c-preserved
loop-c-preserved c =
    let l = c.loop-c in
    let more = (mapped c.args.sheet.now c.args.map c.requires.1).of_clauses in
    roots_go_on c.args.sheet.now l.c c.root_at.result (omega (arith, c.loop-c-test.true, more)) c.root_at.ensures l.invariant c.meet.ensures

pub returns : goal.returns
returns c = roots_done c.args.sheet.now c.loop-c.c (omega (arith, c.loop-c-test.false, (mapped c.args.sheet.now c.args.map c.requires.1).of_clauses)) c.loop-c.invariant
