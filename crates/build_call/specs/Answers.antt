-- The build's answer: 01's numbers and values for what the code answers, and the whole call.
-- Rests on the rules' build call.
use Rattle.std.specs.Prelude.{◌≡◌, List, ℕ, length, Result, Ok, Err}
use Rattle.spec_rules.specs.SheetFile.{clauses}
use Rattle.spec_rules.specs.Calls.{Answer, answers, refuses, unless, written, Built, BuildCall, built_of, tree_verdict, sheet_tree, sheet_tree_file}
use Rattle.format_parts.specs.declared.refusals.Refusal.{Refusal}
use Rattle.format_parts.specs.Refusals.{number_of}
use Rattle.build_call.specs.declared.BuiltTree.{BuiltTree}

abbrev pub answer_of : Result BuiltTree Refusal → Answer Built
answer_of (Ok t) = answers (record { bytes = t.length; nodes = t.nodes; bindings = t.bindings })
answer_of (Err r) = refuses (number_of r.reason) r.place

-- an answer, and the bytes of both buffers after it
abbrev pub call_of : Result BuiltTree Refusal → List ℕ → List ℕ → BuildCall
call_of r tree work = record { answer = answer_of r; tree = tree; work = work }

-- r is the answer a, and the tree's buffer holds what it says of the sheet s
pub record Gives (s : List ℕ) (a : Answer Built) (tree tree' : List ℕ) (r : Result BuiltTree Refusal) : Type 0 where
  pub answer : answer_of r ≡ a
  pub bytes : tree' ≡ written a (sheet_tree_file s) (length tree)

-- the answer for an accepted sheet, with room
abbrev pub tree_end : List ℕ → Answer Built
tree_end s = unless (tree_verdict (clauses s) (sheet_tree s)) (answers (built_of (sheet_tree_file s) (sheet_tree s)))
