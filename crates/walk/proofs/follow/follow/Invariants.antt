-- `walk::follow::follow` meets its contract: the loop's invariant is that the steps left lead from the position at hand to where the whole path leads from the root,
-- or stick where it does; and that the position is one of the panel.
use Rattle.walk.specs.Positions.{placed, found_from, found_by, Within}
use Rattle.spec_rules.specs.TreeReader.{steps_from, path_at}
use Prim.Native.Nat.{◌+◌, ◌-◌}
use mathlib.Core.Path.{◌≡◌}
use Rattle.walk.proofs.follow.follow.Given as goal

abbrev pub invariant-loop-k : goal.invariant-loop-k
invariant-loop-k l = Within l.panel (placed l.at) × (found_from l.panel (steps_from l.tree (l.first + l.k) (l.k-end - l.k)) (placed l.at) l.k ≡ found_by l.panel (path_at l.tree l.p))
