-- `build_scopes::last::mark_last` meets its contract. The loop's invariant: the nodes from k on have their last leaf, for every tree that is there.
use Rattle.build_scopes.specs.Marks.{ReadyWith, LastMarked}
use Rattle.build_scopes.proofs.last.mark_last.Given as goal

abbrev pub invariant-loop-k : goal.invariant-loop-k
invariant-loop-k l = (h : ReadyWith l.work l.nodes) → LastMarked h.tree l.k l.last
