use native.Mathlib.Omega.{arith}
use Rattle.format_sheet.specs.MeetingLaws.{meets_none, meets_more, room_to_meet}
use Rattle.format_sheet.proofs.standing.meet_all.Goals as goal

pub loop-k-init : goal.loop-k-init
loop-k-init c = meets_none c.args.times.now c.args.first

pub meet-requires : goal.meet-requires
meet-requires c =
    let l = c.loop-k in
    (omega (arith, l.invariant.kept, c.requires.0, c.loop-k-test.true), room_to_meet c.args.first c.args.count l.k c.requires.1 c.loop-k-test.true l.invariant)

pub loop-k-preserved : goal.loop-k-preserved
loop-k-preserved c = meets_more c.args.first c.loop-k.k c.loop-k.invariant c.meet.ensures
