-- `build_file_nodes::shift::count_hoists` meets its contract. The loop's invariant: the hoists of the clauses passed are counted.
use Rattle.build_file_nodes.specs.Model.{node_in, HoistsCounted}
use Rattle.build_file_nodes.proofs.shift.count_hoists.Given as goal

abbrev pub invariant-loop-k : goal.invariant-loop-k
invariant-loop-k l = HoistsCounted (node_in l.node) l.k-index l.shift
