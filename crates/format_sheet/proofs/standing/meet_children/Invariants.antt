use Rattle.format_sheet.specs.TallyLaws.{EntryTally}
use Rattle.format_sheet.proofs.standing.meet_children.Given as goal

abbrev pub invariant-loop-j : goal.invariant-loop-j
invariant-loop-j l = EntryTally l.sheet l.j l.times
