-- `build_scopes::marks::marked_cases` meets its contract. The loop's invariant: what is counted and what is left from case j on are the whole.
-- The count is at most 1 for each case passed, so that it fits.
use Rattle.std.proofs.Common.{arith}
use Rattle.build_scopes.specs.MarksLaws.{case_there}
use Rattle.build_scopes.proofs.marks.marked_cases.Goals as goal

pub bounds-sets-child : goal.bounds-sets-child
bounds-sets-child c = omega (arith, case_there c.requires.0 c.loop-j.j c.loop-j.auto.j c.loop-j-test.true)
