-- `build_file_nodes::shift::sum_up` meets its contract. The loop's invariant: the table has the sums before node k, and is as it was from k on.
use Rattle.build_file_nodes.specs.ShiftLaws.{SummedTo}
use Rattle.build_file_nodes.proofs.shift.sum_up.Given as goal

abbrev pub invariant-loop-k : goal.invariant-loop-k
invariant-loop-k l = SummedTo l.initial.shift l.shift l.k l.sum
