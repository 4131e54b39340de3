-- `walk::nodes::reach` meets its contract: the loop's invariant is that the walk from the node at hand gives what the walk from node 0 gives, and that the
-- node is on its way.
-- The measure is how many nodes come after it: a node that is gone on to is above.
use Rattle.format_tree.specs.ReadingLaws.{nodes_count}
use Rattle.walk.specs.TurnsLaws.{walk_starts, way_starts, steps_on_lem, steps_end}
use Rattle.std.specs.Prelude.{Ok, Err}
use Rattle.spec_rules.specs.TreeReader.{nodes}
use Prim.Native.Nat.{◌<◌}
use native.Mathlib.Omega.{arith}
use mathlib.Core.Path.{◌∙◌}
use Rattle.walk.proofs.nodes.reach.Goals as goal

pub loop-child-init : goal.loop-child-init
loop-child-init c = (
  omega (arith, c.requires.sound.some_node, nodes_count c.requires.mapped),
  walk_starts c.args.tree.now c.args.panel.now,
  way_starts c.args.tree.now c.args.panel.now,
)

pub from_node-requires : goal.from_node-requires
from_node-requires c =
    (c.requires, c.loop-child.invariant.0)

pub loop-child-smaller : goal.loop-child-smaller
loop-child-smaller c =
    let a = c.args in
    let l = c.loop-child in
    let here : l.node < nodes a.tree.now = omega (arith, l.invariant.0, nodes_count c.requires.mapped) in
    let s = steps_on_lem a.tree.now a.panel.now l.node here l.invariant.2 c.in-Ok-Node.child (rw c.in-Ok-Node.field-0-is at c.in-Ok-Node.ensures) in
    omega (arith, s.0, s.1, nodes_count c.requires.mapped)

pub loop-child-preserved : goal.loop-child-preserved
loop-child-preserved c =
    let a = c.args in
    let l = c.loop-child in
    let here : l.node < nodes a.tree.now = omega (arith, l.invariant.0, nodes_count c.requires.mapped) in
    let s = steps_on_lem a.tree.now a.panel.now l.node here l.invariant.2 c.in-Ok-Node.child (rw c.in-Ok-Node.field-0-is at c.in-Ok-Node.ensures) in
    (omega (arith, s.1, nodes_count c.requires.mapped), s.2 ∙ l.invariant.1, s.3)

pub returns-in-Ok-End : goal.returns-in-Ok-End
returns-in-Ok-End c =
    let a = c.args in
    let l = c.loop-child in
    let here : l.node < nodes a.tree.now = omega (arith, l.invariant.0, nodes_count c.requires.mapped) in
    steps_end a.tree.now a.panel.now l.node here l.invariant.2 (Ok c.in-Ok-End.leaf) (rw c.in-Ok-End.field-0-is at c.in-Ok-End.ensures) l.invariant.1

pub returns-in-Err : goal.returns-in-Err
returns-in-Err c =
    let a = c.args in
    let l = c.loop-child in
    let here : l.node < nodes a.tree.now = omega (arith, l.invariant.0, nodes_count c.requires.mapped) in
    steps_end a.tree.now a.panel.now l.node here l.invariant.2 (Err c.in-Err.stuck) c.in-Err.ensures l.invariant.1
