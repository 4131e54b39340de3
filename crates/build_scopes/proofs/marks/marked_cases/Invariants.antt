-- `build_scopes::marks::marked_cases` meets its contract. The loop's invariant: what is counted and what is left from case j on are the whole.
-- The count is at most 1 for each case passed, so that it fits.
use Rattle.std.proofs.Common.{◌≡◌, ◌+◌, ◌-◌, ◌≤◌}
use Rattle.build_scopes.specs.Marks.{column, marked_cases}
use Rattle.build_scopes.proofs.marks.marked_cases.Given as goal

abbrev pub invariant-loop-j : goal.invariant-loop-j
invariant-loop-j l = record {
  count_is : l.count + marked_cases l.work (column l.c l.sets) l.j (l.i + l.n - l.j) ≡ marked_cases l.work (column l.c l.sets) l.i l.n;
  few : l.count ≤ l.j;
}
