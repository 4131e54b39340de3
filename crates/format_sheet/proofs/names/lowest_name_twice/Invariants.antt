use mathlib.Core.Path.{◌≡◌}
use lib.ListN.{length}
use Rattle.spec_rules.specs.SheetRefusals.{name_twice}
use Rattle.spec_rules.specs.SheetFile.{clauses}
use Rattle.format_sheet.specs.LoopsLaws.{LowestLeft}
use Rattle.format_sheet.proofs.names.lowest_name_twice.Given as goal

abbrev pub invariant-loop-c : goal.invariant-loop-c
invariant-loop-c l = (length l.found ≡ 192) × LowestLeft (name_twice l.sheet) (clauses l.sheet) l.c
