-- `walk::nodes::reach` meets its contract: the loop's invariant is that the walk from the node at hand gives what the walk from node 0 gives, and that the
-- node is on its way.
-- The measure is how many nodes come after it: a node that is gone on to is above.
use Rattle.walk.specs.Turns.{OnTheWay}
use Rattle.spec_rules.specs.Walking.{walk}
use Rattle.spec_rules.specs.TreeReader.{nodes, tree_below, tree_of}
use Prim.Native.Nat.{◌-◌, ◌<◌}
use mathlib.Core.Path.{◌≡◌}
use Rattle.walk.proofs.nodes.reach.Given as goal

abbrev pub invariant-loop-child : goal.invariant-loop-child
invariant-loop-child l = (l.node < l.map.nodes.count) × (walk (tree_below (nodes l.tree) l.tree l.node) l.panel ≡ walk (tree_of l.tree) l.panel) × OnTheWay l.tree l.panel l.node

abbrev pub decreases-loop-child : goal.decreases-loop-child
decreases-loop-child l = l.map.nodes.count - l.node
