-- `build_file_nodes::hoists::put_hoists` meets its contract. The loop's invariant: the clauses from c on bring the file to the state after all.
use Rattle.build_file_nodes.specs.Model.{places_of, reach_of}
use Rattle.build_file_nodes.specs.ModelLaws.{HoistsLeft}
use Rattle.build_file_nodes.proofs.hoists.put_hoists.Given as goal

abbrev pub invariant-loop-c : goal.invariant-loop-c
invariant-loop-c l = HoistsLeft l.work l.start (places_of l.node l.leaf) l.k l.clauses l.initial.tree (reach_of l.initial.number l.initial.list l.initial.next) l.tree (reach_of l.number l.list l.next) l.c
