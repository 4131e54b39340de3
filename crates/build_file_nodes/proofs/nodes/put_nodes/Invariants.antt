-- `build_file_nodes::nodes::put_nodes` meets its contract. The loop's invariant: the nodes from k on bring the file to the state after all.
use Rattle.build_file_nodes.specs.Model.{places_of, reach_of}
use Rattle.build_file_nodes.specs.ModelLaws.{NodesLeft}
use Rattle.build_file_nodes.proofs.nodes.put_nodes.Given as goal

abbrev pub invariant-loop-k : goal.invariant-loop-k
invariant-loop-k l = NodesLeft l.work l.nodes (places_of l.node l.leaf) l.clauses l.starts.cases l.starts.bindings l.initial.tree (reach_of l.initial.number l.initial.list l.initial.next) l.tree (reach_of l.number l.list l.next) l.k
