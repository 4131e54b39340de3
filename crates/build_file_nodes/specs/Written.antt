-- What the writer asks of the tree in the arena and of its scopes, and what it leaves in the file.
-- A path's class is its number in a table that has every path of the tree, of at most 192 paths.
use Rattle.std.specs.Prelude.{◌≡◌, List, [], ◌++◌, map, ℕ, ◌≤◌, ◌<◌, length, get_or, take}
use Rattle.base_words.specs.Stored.{stored}
use Rattle.spec_rules.specs.Limits.{clauses_most, patterns_most, nodes_most, bindings_most}
use Rattle.spec_rules.specs.Rows.{Path}
use Rattle.spec_rules.specs.Building.{Tree}
use Rattle.spec_rules.specs.Hoisting.{hoist_all, nodes_in, bindings_in}
use Rattle.spec_rules.specs.TreeFile.{paths_used, path_table, cases_in, nodes_from, cases_from, bindings_bytes}
use Rattle.spec_file.specs.PathsLaws.{Covers}
use Rattle.build_scopes.specs.declared.Scopes.{Scopes}
use Rattle.build_scopes.specs.Numbers.{BindCounts}
use Rattle.build_scopes.specs.Marks.{ReadyTree}
use Rattle.build_scopes.specs.Scoped.{Scoped}
use Rattle.build_file_nodes.specs.declared.Tops.{Tops}

-- the tree of so many nodes and cases, held in the arena over a table of all its paths, with the scopes of its clauses;
-- the leaves of a clause have as many bindings each, and the hoisted tree is within refusals 12 and 13
pub record WritingAsked (w : List ℕ) (nodes cases : ℕ) (x : Scopes) (clauses : ℕ) : Type 0 where
  pub tree : Tree
  pub ready : ReadyTree w tree
  pub node_count : nodes_in tree ≡ nodes
  pub case_count : cases_in tree ≡ cases
  pub few : clauses ≤ clauses_most
  pub scoped : Scoped tree clauses x
  pub bound : ℕ → ℕ
  pub bind_counts : BindCounts bound tree
  pub covered : Covers ready.table (paths_used tree)
  pub short : length ready.table ≤ patterns_most
  pub nodes_most_holds : nodes_in (hoist_all clauses tree) ≤ nodes_most
  pub bindings_most_holds : length (bindings_in (hoist_all clauses tree)) ≤ bindings_most

-- THE ANSWER: the first three sections of the hoisted tree's file, back to back; how many records each has; and the classes of the
-- paths in its table, in order. However a class's path is come by, the classes' paths are the table
pub record Written (table : List Path) (hoisted : Tree) (before after classes : List ℕ) (r : Tops) : Type 0 where
  pub bytes_are :
      after ≡ stored before 0 (nodes_from (path_table hoisted) 0 0 0 hoisted ++ (cases_from 0 hoisted ++ bindings_bytes (path_table hoisted) (bindings_in hoisted)))
  pub nodes_are : r.nodes ≡ nodes_in hoisted
  pub cases_are : r.cases ≡ cases_in hoisted
  pub bindings_are : r.bindings ≡ length (bindings_in hoisted)
  pub paths_count : r.paths ≡ length (path_table hoisted)
  pub list_long : length classes ≡ patterns_most
  pub classes_inside : r.paths ≤ length classes
  pub classes_known : (i : ℕ) → i < r.paths → get_or classes i 0 < length table
  pub paths_are : (path : ℕ → Path) → ((c : ℕ) → c < length table → path c ≡ get_or table c []) → map path (take r.paths classes) ≡ path_table hoisted

-- the answer for the tree that h is of
abbrev pub WritesHoisted : {w : List ℕ} {nodes cases : ℕ} {x : Scopes} {clauses : ℕ} → WritingAsked w nodes cases x clauses → List ℕ → List ℕ → List ℕ → Tops → Type 0
WritesHoisted {clauses = clauses} h before after classes r = Written h.ready.table (hoist_all clauses h.tree) before after classes r
