use Rattle.format_sheet.specs.Meeting.{Meets}
use Rattle.format_sheet.proofs.standing.meet_all.Given as goal

abbrev pub invariant-loop-k : goal.invariant-loop-k
invariant-loop-k l = Meets l.first l.k l.initial.times l.times
