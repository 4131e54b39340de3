use Rattle.format_sheet.specs.NamesLaws.{RepeatsLeft}
use Rattle.format_sheet.proofs.names.repeats.Given as goal

abbrev pub invariant-loop-i : goal.invariant-loop-i
invariant-loop-i l = RepeatsLeft l.found l.count l.i
