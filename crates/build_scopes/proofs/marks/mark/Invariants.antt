-- `build_scopes::marks::mark` meets its contract. The loop's invariant: the nodes from k on have the right sets, for every tree that is there.
use Rattle.build_scopes.specs.Marks.{ReadyWith, SetsMarked}
use Rattle.build_scopes.proofs.marks.mark.Given as goal

abbrev pub invariant-loop-k : goal.invariant-loop-k
invariant-loop-k l = (h : ReadyWith l.work l.nodes) → SetsMarked h.tree l.k l.sets
