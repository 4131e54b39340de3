-- `format_tree::order::end_of` meets its contract: the loop's invariant is that the subtree of the node at hand ends where that of the first does.
-- The measure is how many nodes come after it: a last child that is gone to is above its node.
use Rattle.format_tree.specs.PreOrder.{last_child, end_of}
use Prim.Native.Nat.{◌-◌, ◌<◌}
use mathlib.Core.Path.{◌≡◌}
use Rattle.format_tree.proofs.order.end_of.Given as goal

abbrev pub invariant-loop-at : goal.invariant-loop-at
invariant-loop-at l = (l.at < l.map.nodes.count) × (l.last ≡ last_child l.tree l.at) × (end_of l.tree l.at ≡ end_of l.tree l.k)

abbrev pub decreases-loop-at : goal.decreases-loop-at
decreases-loop-at l = l.map.nodes.count - l.at
