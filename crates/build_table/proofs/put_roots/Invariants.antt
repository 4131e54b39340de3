use Prim.Native.Nat.{◌-◌}
use mathlib.Core.Path.{◌≡◌}
use Rattle.spec_rules.specs.SheetFile.{clauses}
use Rattle.build_table.specs.Table.{rooted_each}
use Rattle.build_table.proofs.put_roots.Given as goal

abbrev pub invariant-loop-c : goal.invariant-loop-c
invariant-loop-c l = rooted_each l.sheet l.table l.c (clauses l.sheet - l.c) ≡ rooted_each l.sheet l.initial.table 0 (clauses l.sheet)
