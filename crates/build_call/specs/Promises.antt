-- What the contracts say more than once, in a word each. GivesTree and GivesAnswer take the tree buffer before and after.
use Rattle.std.specs.Prelude.{◌≡◌, List, ℕ, ◌≤◌, length, Result}
use Rattle.base_words.specs.Words.{zeros}
use Rattle.spec_rules.specs.Limits.{tree_room}
use Rattle.spec_rules.specs.Calls.{build_answer}
use Rattle.format_parts.specs.declared.refusals.Refusal.{Refusal}
use Rattle.build_call.specs.declared.BuiltTree.{BuiltTree}
use Rattle.build_call.specs.Answers.{Gives, tree_end}

-- a tree buffer with room, all zero
abbrev pub ClearTree : List ℕ → Type 0
ClearTree tree = (tree_room ≤ length tree) × (tree ≡ zeros (length tree))

-- the answer for an accepted sheet, with room, and its bytes in the tree buffer
abbrev pub GivesTree : List ℕ → List ℕ → List ℕ → Result BuiltTree Refusal → Type 0
GivesTree sheet tree tree' r = Gives sheet (tree_end sheet) tree tree' r

-- the answer for any sheet and any buffers
abbrev pub GivesAnswer : List ℕ → List ℕ → List ℕ → List ℕ → Result BuiltTree Refusal → Type 0
GivesAnswer sheet tree tree' work r =
    Gives sheet (build_answer sheet (length tree) (length work)) tree tree' r
