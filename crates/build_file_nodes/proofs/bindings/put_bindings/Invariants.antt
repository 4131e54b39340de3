-- `build_file_nodes::bindings::put_bindings` meets its contract. The loop's invariant: with the bindings from first + i on the whole is stored.
use Rattle.build_file_nodes.specs.Uses.{uses_of}
use Rattle.build_file_nodes.specs.ModelLaws.{BindingsLeft}
use Rattle.build_file_nodes.proofs.bindings.put_bindings.Given as goal

abbrev pub invariant-loop-i : goal.invariant-loop-i
invariant-loop-i l = BindingsLeft l.work l.first l.count l.at (uses_of l.initial.number l.initial.list l.initial.known) l.initial.tree l.tree (uses_of l.number l.list l.known) l.i
