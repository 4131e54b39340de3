-- `build_scopes::marks::union_cases` meets its contract. The loop's invariant: the set with the cases from j on is the whole.
use Rattle.std.proofs.Common.{arith}
use Rattle.build_scopes.specs.MarksLaws.{case_there}
use Rattle.build_scopes.proofs.marks.union_cases.Goals as goal

pub bounds-sets-child : goal.bounds-sets-child
bounds-sets-child c = omega (arith, case_there c.requires c.loop-j.j c.loop-j.auto.j c.loop-j-test.true)
