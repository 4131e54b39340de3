-- What is told of the tree of a sheet once it is built into an empty arena: it is the tree of rules 2 to 5 over the sheet's clauses,
-- or that tree has more than 1,024 nodes. RawLaws has that this is what building the matrix of the clauses answers.
use Rattle.std.specs.Prelude.{◌≡◌, Option, Some, None, List, ℕ, ◌≤◌, ◌<◌, length, get_or}
use Rattle.base_words.specs.Words.{pick}
use Rattle.spec_rules.specs.Limits.{clauses_most, nodes_most, bindings_most}
use Rattle.spec_rules.specs.Building.{Tree, plain_tree}
use Rattle.spec_rules.specs.Hoisting.{nodes_in, bindings_in, has_leaf}
use Rattle.spec_rules.specs.TreeFile.{cases_in}
use Rattle.spec_rules.specs.Calls.{sheet_patterns}
use Rattle.build_table.specs.Standing.{sheet_paths}
use Rattle.build_arena.specs.Arena.{cases_most, Held}
use Rattle.build_leaves.specs.Bindings.{capped}
use Rattle.build_nodes.specs.declared.tops.Tops.{Tops}

abbrev pub raw_tree : List ℕ → Tree
raw_tree s = plain_tree (sheet_patterns s)

-- its counts; and it is held in the arena, if its bindings have room
pub record Raw (s w : List ℕ) (tops : Tops) : Type 0 where
  pub nodes : tops.nodes ≡ nodes_in (raw_tree s)
  pub cases : tops.cases ≡ cases_in (raw_tree s)
  pub bindings : tops.bindings ≡ capped (length (bindings_in (raw_tree s)))
  pub leaves_long : length tops.leaves ≡ clauses_most
  pub leaves : (c : ℕ) → c < clauses_most → get_or tops.leaves c 0 ≡ pick (has_leaf c (raw_tree s)) 1 0
  pub nodes_most_holds : nodes_in (raw_tree s) ≤ nodes_most
  pub cases_most_holds : cases_in (raw_tree s) < cases_most
  pub fewer_cases : cases_in (raw_tree s) < nodes_in (raw_tree s)
  pub held : length (bindings_in (raw_tree s)) ≤ bindings_most → Held w (sheet_paths s) 0 0 0 (raw_tree s)

abbrev pub BuildsRaw : List ℕ → List ℕ → Option Tops → Type 0
BuildsRaw s w (Some tops) = Raw s w tops
BuildsRaw s w None = nodes_most < nodes_in (raw_tree s)
