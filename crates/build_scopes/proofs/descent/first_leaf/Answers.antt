-- `build_scopes::descent::first_leaf` meets its contract. The loop's invariant: node k is on the way down to the first leaf, for every tree that is there.
-- The measure is what is left of 1,024: a child has a larger number.
use Rattle.std.proofs.Common.{◌∙◌, sym, subst, arith}
use Rattle.build_scopes.specs.Numbers.{never}
use Rattle.build_scopes.specs.WayLaws.{OnWay, way_start, way_inside, leaf_found, leaf_child, leaf_on}
use Rattle.build_scopes.proofs.descent.first_leaf.Goals as goal

pub loop-k-init : goal.loop-k-init
loop-k-init c = λ h. way_start never c.args.c h.ready h.leaf_there

pub node_kind-requires : goal.node_kind-requires
node_kind-requires c = (c.requires.ready.nodes.room, way_inside c.requires.ready (c.loop-k.invariant c.requires))

pub first_child-k-requires : goal.first_child-k-requires
first_child-k-requires c = (leaf_child c.requires (c.loop-k.invariant c.requires) (λ x. c.loop-k-test.true (c.node_kind.ensures ∙ x)), c.requires.small)

pub loop-k-smaller : goal.loop-k-smaller
loop-k-smaller c =
    let on = c.loop-k.invariant c.requires in
    let next = leaf_on c.requires on (λ x. c.loop-k-test.true (c.node_kind.ensures ∙ x)) in
    omega (arith, next.above, way_inside c.requires.ready on, c.first_child-k.ensures)

pub loop-k-preserved : goal.loop-k-preserved
loop-k-preserved c = λ h. subst (λ z. OnWay never h.tree c.args.c z) (sym c.first_child-k.ensures) (leaf_on h (c.loop-k.invariant h) (λ x. c.loop-k-test.true (c.node_kind.ensures ∙ x))).next

pub returns : goal.returns
returns c = λ h. leaf_found h (c.loop-k.invariant h) (sym c.node_kind.ensures ∙ c.loop-k-test.false)
