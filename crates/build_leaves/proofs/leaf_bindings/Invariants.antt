-- `leaf_bindings`: the bindings of the root, then those that each column tested opened.
use mathlib.Core.Path.{◌≡◌}
use Rattle.build_leaves.specs.Bindings.{bound, bound_all, Room}
use Rattle.build_leaves.specs.PuttingLaws.{left_from}
use Rattle.build_leaves.proofs.leaf_bindings.Given as goal

abbrev pub invariant-loop-time : goal.invariant-loop-time
invariant-loop-time l = Room l.work l.next × (bound_all l.sheet (bound l.work l.next) (left_from l.sheet l.opened l.tested l.n l.c l.time) ≡ bound_all l.sheet (bound l.initial.work l.initial.next) (left_from l.sheet l.opened l.tested l.n l.c 0))
