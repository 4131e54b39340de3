use Rattle.format_sheet.specs.TallyLaws.{RootTally}
use Rattle.format_sheet.proofs.standing.meet_roots.Given as goal

abbrev pub invariant-loop-c : goal.invariant-loop-c
invariant-loop-c l = RootTally l.sheet l.c l.times
