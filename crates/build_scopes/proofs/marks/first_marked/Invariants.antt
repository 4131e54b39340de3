-- `build_scopes::marks::first_marked` meets its contract. The loop's invariant: the first marked child from case j on is the whole's.
use Rattle.std.proofs.Common.{◌≡◌, ◌+◌, ◌-◌}
use Rattle.build_scopes.specs.Marks.{column, first_marked}
use Rattle.build_scopes.proofs.marks.first_marked.Given as goal

abbrev pub invariant-loop-j : goal.invariant-loop-j
invariant-loop-j l = first_marked l.work (column l.c l.sets) l.j (l.i + l.n - l.j) ≡ first_marked l.work (column l.c l.sets) l.i l.n
