-- `build_scopes::descent::first_leaf` meets its contract. The loop's invariant: node k is on the way down to the first leaf, for every tree that is there.
-- The measure is what is left of 1,024: a child has a larger number.
use Rattle.build_scopes.specs.WayLaws.{OnWay}
use Rattle.build_scopes.specs.Marks.{ClauseMarks}
use Rattle.build_scopes.specs.Numbers.{never}
use Rattle.spec_rules.specs.Limits.{nodes_most}
use Prim.Native.Nat.{◌-◌}
use Rattle.build_scopes.proofs.descent.first_leaf.Given as goal

abbrev pub invariant-loop-k : goal.invariant-loop-k
invariant-loop-k l = (h : ClauseMarks l.work l.c l.sets) → OnWay never h.tree l.c l.k

abbrev pub decreases-loop-k : goal.decreases-loop-k
decreases-loop-k l = nodes_most - l.k
