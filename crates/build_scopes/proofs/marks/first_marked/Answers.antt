-- `build_scopes::marks::first_marked` meets its contract. The loop's invariant: the first marked child from case j on is the whole's.
use Rattle.std.proofs.Common.{arith}
use Rattle.build_scopes.specs.MarksLaws.{case_there}
use Rattle.build_scopes.proofs.marks.first_marked.Goals as goal

pub bounds-sets-child : goal.bounds-sets-child
bounds-sets-child c = omega (arith, case_there c.requires.0 c.loop-j.j c.loop-j.auto.j c.loop-j-test.true)
