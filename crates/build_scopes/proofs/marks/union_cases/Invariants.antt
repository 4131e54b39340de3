-- `build_scopes::marks::union_cases` meets its contract. The loop's invariant: the set with the cases from j on is the whole.
use Rattle.std.proofs.Common.{◌≡◌, ◌+◌, ◌-◌}
use Rattle.build_scopes.specs.Marks.{union_cases}
use Rattle.build_scopes.proofs.marks.union_cases.Given as goal

abbrev pub invariant-loop-j : goal.invariant-loop-j
invariant-loop-j l = union_cases l.work l.sets l.j (l.i + l.n - l.j) l.set ≡ union_cases l.work l.sets l.i l.n l.all
