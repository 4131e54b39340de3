-- `build_scopes::marks::children_of` meets its contract: each field is the word read, the cases with the tail cases one run.
use Rattle.build_scopes.proofs.marks.children_of.Goals as goal

pub returns : goal.returns
returns c = simp (← c.node_word-first.ensures, ← c.node_word-cases.ensures, ← c.node_word-tails.ensures, ← c.node_word-default.ensures)
