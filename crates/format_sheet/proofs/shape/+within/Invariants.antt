use Prim.Native.Nat.{◌-◌}
use Rattle.spec_rules.specs.SheetFile.{child}
use Rattle.spec_rules.specs.SheetRefusals.{within as Within}
use Rattle.format_sheet.specs.LoopsLaws.{EveryFrom}
use Rattle.format_sheet.proofs.shape.+within.Given as goal

abbrev pub decreases-within : goal.decreases-within
decreases-within l = l.deep

abbrev pub invariant-loop-k : goal.invariant-loop-k
invariant-loop-k l = EveryFrom (λ j. Within (l.deep - 1) l.sheet (child l.sheet j)) l.run.count l.run.first l.k
