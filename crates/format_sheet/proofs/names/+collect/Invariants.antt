use Rattle.spec_rules.specs.SheetFile.{child}
use Rattle.format_sheet.specs.Names.{joined, names_in, in_buffer, Lacks}
use Prim.Native.Nat.{◌+◌, ◌-◌}
use Rattle.format_sheet.proofs.names.+collect.Given as goal

abbrev pub decreases-collect : goal.decreases-collect
decreases-collect l = 192 - l.p

abbrev pub invariant-loop-k : goal.invariant-loop-k
invariant-loop-k l = Lacks (in_buffer l.initial.found l.initial.next) (joined (λ j. names_in l.sheet (child l.sheet j)) l.run.first l.run.count) (in_buffer l.found l.next) (joined (λ j. names_in l.sheet (child l.sheet j)) (l.run.first + l.k) (l.run.count - l.k))
