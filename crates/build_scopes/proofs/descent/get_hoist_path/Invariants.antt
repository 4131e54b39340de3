-- `build_scopes::descent::get_hoist_path` meets its contract. The loop's invariant: node k is on the way down to the scope, for every tree that is there.
-- The measure is what is left of 1,024: a child has a larger number.
use Rattle.build_scopes.specs.WayLaws.{OnWay}
use Rattle.build_scopes.specs.Marks.{ScopeMarks}
use Rattle.spec_hoist.specs.Descent.{is_scope}
use Rattle.spec_rules.specs.Limits.{nodes_most}
use Prim.Native.Nat.{◌-◌}
use Rattle.build_scopes.proofs.descent.get_hoist_path.Given as goal

abbrev pub invariant-loop-k : goal.invariant-loop-k
invariant-loop-k l = (h : ScopeMarks l.work l.c l.last l.sets) → OnWay (is_scope l.c) h.marks.tree l.c l.k

abbrev pub decreases-loop-k : goal.decreases-loop-k
decreases-loop-k l = nodes_most - l.k
