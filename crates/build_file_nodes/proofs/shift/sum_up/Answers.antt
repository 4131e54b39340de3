-- `build_file_nodes::shift::sum_up` meets its contract. The loop's invariant: the table has the sums before node k, and is as it was from k on.
use Rattle.std.proofs.Common.{arith}
use Rattle.build_file_nodes.specs.ShiftLaws.{sum_start, sum_small, sum_next}
use Rattle.build_file_nodes.proofs.shift.sum_up.Goals as goal

pub loop-k-init : goal.loop-k-init
loop-k-init c = sum_start c.requires

pub overflow_add-sum : goal.overflow_add-sum
overflow_add-sum c = omega (arith, sum_small c.requires c.loop-k.invariant (omega arith))

pub loop-k-preserved : goal.loop-k-preserved
loop-k-preserved c = sum_next c.requires c.loop-k.invariant (omega arith)
