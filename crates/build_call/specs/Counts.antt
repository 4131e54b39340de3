-- What hoisting adds, as the code reads it: a mark for each clause with a leaf, and the bindings of the leaf at a number.
use Rattle.std.specs.Prelude.{Bool, not, List, ℕ, eqb, leb}
use Rattle.base_words.specs.Words.{pick}
use Rattle.spec_rules.specs.Limits.{nodes_most}
use Rattle.spec_rules.specs.Kinds.{bindings_word}
use Rattle.build_arena.specs.Arena.{node_word}

abbrev pub is_marked : ℕ → Bool
is_marked mark = not (eqb mark 0)

-- none where the number is no node's
unfoldable pub leaf_bindings : List ℕ → ℕ → ℕ
leaf_bindings w leaf = pick (leb nodes_most leaf) 0 (node_word w leaf bindings_word)
