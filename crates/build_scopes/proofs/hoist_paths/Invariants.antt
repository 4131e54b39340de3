-- `build_scopes::hoist_paths` meets its contract. The loop's invariant: the answer is right for the clauses from c on, for every tree that is there.
use Rattle.build_scopes.specs.ScopedLaws.{ScopedFrom}
use Rattle.build_scopes.specs.Marks.{ReadyWith}
use Rattle.build_scopes.proofs.hoist_paths.Given as goal

abbrev pub invariant-loop-c : goal.invariant-loop-c
invariant-loop-c g l = (h : ReadyWith l.work l.nodes) → ScopedFrom h.tree l.clauses l.c l.scopes
