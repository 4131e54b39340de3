-- `columns::put`: those passed come before the class, so that putting it goes on behind them.
use mathlib.Core.Path.{◌≡◌}
use Rattle.build_matrix.specs.Reading.{first_in}
use Rattle.build_matrix.specs.PuttingLaws.{Passed}
use Rattle.build_matrix.proofs.columns.put.Given as goal

abbrev pub invariant-loop-i : goal.invariant-loop-i
invariant-loop-i l = (l.list ≡ l.initial.list) × Passed (first_in l.table) l.class l.initial.list l.count l.i
