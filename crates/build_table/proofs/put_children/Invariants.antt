use Prim.Native.Nat.{◌-◌}
use mathlib.Core.Path.{◌≡◌}
use Rattle.build_table.specs.Table.{placed_each}
use Rattle.build_table.proofs.put_children.Given as goal

abbrev pub invariant-loop-i : goal.invariant-loop-i
invariant-loop-i l =
    placed_each l.sheet l.table l.p l.step l.types.first l.types.stride l.owner l.i (l.types.count - l.i) ≡ placed_each l.sheet l.initial.table l.p l.step l.types.first l.types.stride l.owner 0 l.types.count
