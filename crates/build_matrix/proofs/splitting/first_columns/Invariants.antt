-- `splitting::first_columns`: the columns of the clauses from one on, the last first.
use Rattle.build_matrix.specs.Lists.{as_classes, Holds}
use Rattle.build_matrix.specs.Ready.{Listed}
use Rattle.build_matrix.specs.SplitLaws.{columns_from}
use Rattle.build_matrix.proofs.splitting.first_columns.Given as goal

abbrev pub invariant-loop-c : goal.invariant-loop-c
invariant-loop-c l = Listed l.sheet (as_classes l.list l.count) × Holds (as_classes l.list l.count) (columns_from l.sheet l.c)
