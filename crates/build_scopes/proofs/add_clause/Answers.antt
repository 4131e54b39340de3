-- `build_scopes::add_clause` meets its contract: a clause without a mark at the root is idle, else the two ways down give its numbers.
use Rattle.std.proofs.Common.{arith}
use Rattle.build_scopes.specs.ScopedLaws.{root_there, clause_marks, scope_marks, idle_clause, busy_clause, scope_small, leaf_small}
use Rattle.build_scopes.proofs.add_clause.Goals as goal

pub bounds-sets-0 : goal.bounds-sets-0
bounds-sets-0 c = root_there c.requires.0

pub returns-then-mark_of-eq0 : goal.returns-then-mark_of-eq0
returns-then-mark_of-eq0 c = λ h. idle_clause h c.args.c c.mark_of.ensures c.args.scopes.now c.if-mark_of-eq0.true

pub get_hoist_path-requires : goal.get_hoist_path-requires
get_hoist_path-requires c = scope_marks c.requires.0 c.args.c c.mark_of.ensures c.requires.1 c.if-mark_of-eq0.false

pub first_leaf-requires : goal.first_leaf-requires
first_leaf-requires c = clause_marks c.requires.0 c.args.c c.mark_of.ensures c.requires.1 c.if-mark_of-eq0.false

pub overflow_cast-scopes : goal.overflow_cast-scopes
overflow_cast-scopes c =
    let mark = c.mark_of.ensures in
    let some = c.if-mark_of-eq0.false in
    let node = c.get_hoist_path in
    omega (arith, scope_small c.requires.0 c.args.c mark some node.result (node.ensures (scope_marks c.requires.0 c.args.c mark c.requires.1 some)))

pub overflow_cast-scopes-2 : goal.overflow_cast-scopes-2
overflow_cast-scopes-2 c =
    let mark = c.mark_of.ensures in
    let some = c.if-mark_of-eq0.false in
    let leaf = c.first_leaf in
    omega (arith, leaf_small c.requires.0 c.args.c mark some leaf.result (leaf.ensures (clause_marks c.requires.0 c.args.c mark c.requires.1 some)))

pub returns : goal.returns
returns c =
    let mark = c.mark_of.ensures in
    let some = c.if-mark_of-eq0.false in
    λ h.
    busy_clause h c.args.c mark c.args.scopes.now c.get_hoist_path.result c.first_leaf.result some (c.get_hoist_path.ensures (scope_marks h c.args.c mark c.requires.1 some)) (c.first_leaf.ensures (clause_marks h c.args.c mark c.requires.1 some))
