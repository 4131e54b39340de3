-- `format_tree::order::end_of` meets its contract: the loop's invariant is that the subtree of the node at hand ends where that of the first does.
-- The measure is how many nodes come after it: a last child that is gone to is above its node.
use Rattle.format_tree.specs.OrderLaws.{last_child_in, end_follows, end_reached}
use Rattle.format_tree.specs.PreOrder.{end_of}
use native.Mathlib.Omega.{arith}
use mathlib.Core.Path.{refl}
use Rattle.format_tree.proofs.order.end_of.Goals as goal

pub loop-at-init : goal.loop-at-init
loop-at-init c = (c.requires.1, c.last_child-last.ensures, refl)

pub last_child-last-requires-in-loop-at : goal.last_child-last-requires-in-loop-at
last_child-last-requires-in-loop-at c =
    let l = c.loop-at in
    (c.requires.0, omega (arith, last_child_in c.requires.0 l.at l.invariant.0))

pub loop-at-smaller : goal.loop-at-smaller
loop-at-smaller c =
    let l = c.loop-at in
    omega (arith, last_child_in c.requires.0 l.at l.invariant.0)

pub loop-at-preserved : goal.loop-at-preserved
loop-at-preserved c =
    let l = c.loop-at in
    let w = c.requires.0 in (
      omega (arith, last_child_in w l.at l.invariant.0),
      c.last_child-last-in-loop-at.ensures,
      end_follows w l.at l.last (end_of c.args.tree.now c.args.k) l.invariant.0 l.invariant.1 c.loop-at-test.true
          l.invariant.2,
    )

pub overflow_add-result : goal.overflow_add-result
overflow_add-result c =
    omega (arith, c.loop-at.invariant.0, c.requires.0.mapped)

pub returns : goal.returns
returns c =
    let l = c.loop-at in
    end_reached c.requires.0 l.at l.last (end_of c.args.tree.now c.args.k) l.invariant.1 c.loop-at-test.false l.invariant.2
