-- A matrix by numbers as one value, the matrices that rules 2 to 4 make of it, the column chosen in it and the tree that it gives.
-- Rests on Matrices, Ordered and HeldRows, and on the tree of a matrix in crate spec_match; TreesLaws has how these meet.
use Rattle.std.specs.Prelude.{List, [], ◌∷◌, ◌++◌, ℕ, ◌+◌, length, None}
use Rattle.base_words.specs.Words.{zeros}
use Rattle.spec_rules.specs.Limits.{patterns_most}
use Rattle.spec_rules.specs.SheetFile.{clauses}
use Rattle.spec_rules.specs.Splitting.{Test}
use Rattle.spec_rules.specs.Building.{Tree}
use Rattle.spec_match.specs.Depth.{matrix_tree}
use Rattle.build_table.specs.Seen.{opened_tests}
use Rattle.build_matrix.specs.Columns.{Choice}
use Rattle.build_matrix.specs.RowStates.{up_from}
use Rattle.build_matrix.specs.Live.{live_in}
use Rattle.build_matrix.specs.HeldRows.{count_of, best_of, held_tests, wild_of, join_of, opens_of, joins_case}
use Rattle.build_matrix.specs.Ordered.{put_each, classes_for, without_class}
use Rattle.build_matrix.specs.Matrices.{rows_at, columns_at, Sound, gather, root_tests, marked}

-- the clauses of the rows, the classes of the columns, the classes tested in order, and when each test was opened
pub record Numbered : Type 0 where
  pub rows : List ℕ
  pub columns : List ℕ
  pub tested : List ℕ
  pub opened : List ℕ

abbrev pub SoundOf : List ℕ → Numbered → Type 0
SoundOf s M = Sound s M.rows M.columns M.tested M.opened

-- ---- the matrices
unfoldable pub first_numbered : List ℕ → Numbered
unfolding up_from put_each gather
first_numbered s = record {
  rows = up_from 0 (clauses s);
  columns = classes_for s (gather (root_tests s) (up_from 0 (clauses s)));
  tested = [];
  opened = zeros patterns_most;
}

unfoldable pub default_numbered : List ℕ → ℕ → Numbered → Numbered
unfolding wild_of without_class
default_numbered s k M = record {
  rows = wild_of (live_in s M.opened k) M.rows;
  columns = without_class k M.columns;
  tested = M.tested ++ k ∷ [];
  opened = M.opened;
}

-- the tests of the column that a case opens
unfoldable pub opens_in : List ℕ → ℕ → Test → Numbered → List ℕ
unfolding opens_of joins_case
opens_in s k u M = opens_of (joins_case s u) (live_in s M.opened k) M.rows

unfoldable pub case_numbered : List ℕ → ℕ → Test → Numbered → Numbered
unfolding join_of joins_case put_each gather without_class marked opens_in
case_numbered s k u M = record {
  rows = join_of (joins_case s u) (live_in s M.opened k) M.rows;
  columns = classes_for s (gather (opened_tests s) (opens_in s k u M)) ++ without_class k M.columns;
  tested = M.tested ++ k ∷ [];
  opened = marked (length M.tested + 1) M.opened (opens_in s k u M);
}

-- ---- what is chosen, the tests of a column top down, and the tree
unfoldable pub chosen_in : List ℕ → Numbered → Choice
unfolding best_of count_of
chosen_in s M = best_of (λ k. count_of (live_in s M.opened k) M.rows) None 0 M.columns

unfoldable pub tests_in : List ℕ → ℕ → Numbered → List ℕ
unfolding held_tests
tests_in s k M = held_tests (live_in s M.opened k) M.rows

unfoldable pub tree_at : List ℕ → Numbered → Tree
unfolding matrix_tree
tree_at s M = matrix_tree (columns_at s M.columns) (rows_at s M.tested M.rows)
