use Rattle.format_sheet.specs.TallyLaws.{ListTally}
use Rattle.format_sheet.proofs.standing.entries_listed_once.Given as goal

abbrev pub invariant-loop-p : goal.invariant-loop-p
invariant-loop-p l = ListTally l.sheet l.p l.times
