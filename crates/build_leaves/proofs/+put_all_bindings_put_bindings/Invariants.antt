use mathlib.Core.Path.{◌≡◌}
use Prim.Native.Nat.{◌+◌, ◌-◌, ◌*◌}
use Rattle.build_table.specs.Seen.{binds_of_each}
use Rattle.build_leaves.specs.Bindings.{bound, bound_all, Room}
use Rattle.build_leaves.specs.PuttingLaws.{each_from}
use Rattle.build_leaves.proofs.+put_all_bindings_put_bindings.Given as goal

abbrev pub decreases-put_all_bindings : goal.decreases-put_all_bindings
decreases-put_all_bindings l = (191 - l.parent) * 2 + 1

abbrev pub decreases-put_bindings : goal.decreases-put_bindings
decreases-put_bindings l = (192 - l.p) * 2

abbrev pub invariant-put_all_bindings-loop-k : goal.invariant-put_all_bindings-loop-k
invariant-put_all_bindings-loop-k l = Room l.work l.next × (bound_all l.sheet (bound l.work l.next) (each_from l.sheet l.j l.n l.k) ≡ bound_all l.sheet (bound l.initial.work l.initial.next) (binds_of_each l.sheet l.j l.n))
