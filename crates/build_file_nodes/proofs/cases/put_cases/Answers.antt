-- `build_file_nodes::cases::put_cases` meets its contract. The loop's invariant: with the cases from first + i on the whole is stored.
use Rattle.build_file_nodes.specs.ModelLaws.{cases_next, cases_end}
use Rattle.build_file_nodes.proofs.cases.put_cases.Goals as goal

pub loop-i-preserved : goal.loop-i-preserved
loop-i-preserved c = cases_next c.loop-i.invariant c.loop-i-test.true c.case_child-child.ensures c.move_by-moved.ensures c.put_case.ensures

pub returns : goal.returns
returns c = cases_end c.loop-i.invariant c.loop-i-test.false
