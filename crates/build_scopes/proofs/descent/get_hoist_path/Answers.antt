-- `build_scopes::descent::get_hoist_path` meets its contract. The loop's invariant: node k is on the way down to the scope, for every tree that is there.
-- The measure is what is left of 1,024: a child has a larger number.
use Rattle.std.proofs.Common.{◌∙◌, sym, subst, arith}
use Rattle.spec_hoist.specs.Descent.{is_scope}
use Rattle.build_scopes.specs.WayLaws.{OnWay, way_start, way_inside, scope_asked, scope_found, scope_child, scope_on}
use Rattle.build_scopes.proofs.descent.get_hoist_path.Goals as goal

pub loop-k-init : goal.loop-k-init
loop-k-init c = λ h. way_start (is_scope c.args.c) c.args.c h.marks.ready h.marks.leaf_there

pub is_scope-requires : goal.is_scope-requires
is_scope-requires c = scope_asked c.requires (c.loop-k.invariant c.requires)

pub first_child-k-requires : goal.first_child-k-requires
first_child-k-requires c = (scope_child c.requires (c.loop-k.invariant c.requires) (sym c.loop-k-test.true ∙ c.is_scope.ensures), c.requires.marks.small)

pub loop-k-smaller : goal.loop-k-smaller
loop-k-smaller c =
    let on = c.loop-k.invariant c.requires in
    let next = scope_on c.requires on (sym c.loop-k-test.true ∙ c.is_scope.ensures) in
    omega (arith, next.above, way_inside c.requires.marks.ready on, c.first_child-k.ensures)

pub loop-k-preserved : goal.loop-k-preserved
loop-k-preserved c =
    λ h. subst (λ z. OnWay (is_scope c.args.c) h.marks.tree c.args.c z) (sym c.first_child-k.ensures) (scope_on h (c.loop-k.invariant h) (sym c.loop-k-test.true ∙ c.is_scope.ensures)).next

pub returns : goal.returns
returns c = λ h. scope_found h (c.loop-k.invariant h) (sym c.loop-k-test.false ∙ c.is_scope.ensures)
