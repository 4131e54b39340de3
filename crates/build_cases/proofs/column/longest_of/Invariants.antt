-- `build_cases::column::longest_of` meets its contract. The loop's invariant: the longest lengths of the tests from i on.
use mathlib.Core.Path.{◌≡◌}
use lib.ListN.{drop}
use Rattle.build_cases.specs.Rows.{longest_of}
use Rattle.build_cases.proofs.column.longest_of.Given as goal

abbrev pub invariant-loop-i : goal.invariant-loop-i
invariant-loop-i l = l.longest ≡ longest_of l.sheet (drop l.i l.tests)
