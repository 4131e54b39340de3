-- `splitting::open_all`: the columns that the tests from one on open to, the last first.
use Rattle.build_matrix.specs.Lists.{as_classes, Holds}
use Rattle.build_matrix.specs.Ready.{Listed}
use Rattle.build_matrix.specs.SplitLaws.{opens_from}
use Rattle.build_matrix.proofs.splitting.open_all.Given as goal

abbrev pub invariant-loop-i : goal.invariant-loop-i
invariant-loop-i l = Listed l.sheet (as_classes l.list l.count) × Holds (as_classes l.list l.count) (opens_from l.sheet l.opens l.n l.i)
