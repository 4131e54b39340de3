use Rattle.std.proofs.Common.{rules}
use Rattle.build_table.specs.Table.{same_step_in}
use Rattle.build_table.proofs.same_step.Goals as goal

pub returns-then-table-x : goal.returns-then-table-x
unfolding same_step_in
returns-then-table-x c = search rules

pub returns-else-table-x : goal.returns-else-table-x
unfolding same_step_in
returns-else-table-x c = search rules
