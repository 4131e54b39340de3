-- `build_scopes::marks::marked_children` meets its contract: the marks of the cases and of the default, added, of which there are few.
use Rattle.std.proofs.Common.{ap, arith}
use Rattle.build_scopes.specs.Marks.{column}
use Rattle.build_scopes.specs.MarksLaws.{marked_cases_most, marked_default_most}
use Rattle.build_scopes.specs.SetsLaws.{column_most}
use Rattle.build_scopes.proofs.marks.marked_children.Goals as goal

pub overflow_add-result : goal.overflow_add-result
overflow_add-result c =
    let a = c.args in
    let at = c.children_of-at in
    let most = column_most a.c a.sets.now in
    omega (arith, marked_cases_most a.work.now (column a.c a.sets.now) at.result.first at.result.count most, marked_default_most (column a.c a.sets.now) at.result.default most, c.requires.0.cases.inside, ap (λ z. z.count) at.ensures)
