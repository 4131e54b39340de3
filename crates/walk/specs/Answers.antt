-- The walk's answer: 01's numbers and values for each case of the code's answer, and the whole call.
-- Rests on the rules' walk call.
use Rattle.std.specs.Prelude.{◌≡◌, Option, Some, None, Result, Ok, Err, List, ℕ, length}
use Rattle.spec_rules.specs.TreeReader.{tree_of}
use Rattle.spec_rules.specs.Walking.{walk}
use Rattle.spec_rules.specs.Calls.{Answer, answers, refuses, WalkEnd, leaf_of, without_leaf, stuck_at, walk_end, walked_words, written, WalkCall}
use Rattle.format_parts.specs.Refusals.{number_of}
use Rattle.walk.specs.declared.Leaf.{Leaf}
use Rattle.walk.specs.declared.WalkError.{WalkError}
use Rattle.walk.specs.declared.WalkError.TheVariants.{Refused, Stuck}

abbrev pub Walked : Type 0
Walked = Result (Option Leaf) WalkError

abbrev pub answer_of : Walked → Answer WalkEnd
answer_of (Ok (Some leaf)) = answers (leaf_of leaf.clause leaf.count)
answer_of (Ok None) = answers without_leaf
answer_of (Err (Stuck node step)) = answers (stuck_at node step)
answer_of (Err (Refused r)) = refuses (number_of r.reason) r.place

-- an answer and the words of the buffer after it
abbrev pub call_of : Walked → List ℕ → WalkCall
call_of r l = record { answer = answer_of r; bound = l }

-- the end of the walk on an accepted tree and an accepted panel
abbrev pub panel_end : List ℕ → List ℕ → Answer WalkEnd
panel_end t v = answers (walk_end t v (walk (tree_of t) v))

-- r is that end, and l' is what it leaves of the buffer l
pub record Gives (t v : List ℕ) (l l' : List ℕ) (r : Walked) : Type 0 where
  pub answer : answer_of r ≡ panel_end t v
  pub words : l' ≡ written (panel_end t v) (walked_words (walk (tree_of t) v)) (length l)
