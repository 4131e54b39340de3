-- What the numbers of a matrix stand for, and what it is for a matrix by numbers to be sound: its clauses rise, its columns are classes,
-- its rows are in the state that the columns tested have left, and it has no more columns than tests. Rests on Live.
use Rattle.std.specs.Prelude.{Bool, true, List, [], ◌∷◌, ◌++◌, map, ◌≡◌, ℕ, ◌+◌, ◌≤◌, ◌<◌, length, set}
use Rattle.base_words.specs.Words.{both}
use Rattle.spec_rules.specs.Limits.{patterns_most}
use Rattle.spec_rules.specs.Searching.{times}
use Rattle.spec_rules.specs.SheetFile.{patterns, clauses, root}
use Rattle.spec_rules.specs.Rows.{Path, Row}
use Rattle.spec_rules.specs.SplittingLaws.{All}
use Rattle.build_table.specs.Standing.{path_of, is_test, class_of}
use Rattle.build_table.specs.Seen.{tests_of}
use Rattle.build_matrix.specs.RowStates.{rows_of}
use Rattle.build_matrix.specs.Live.{available, IsClass, State}

-- the rows and columns that these stand for
abbrev pub rows_at : List ℕ → List ℕ → List ℕ → List Row
rows_at s tested rows = rows_of s (map (path_of s) tested) rows

abbrev pub columns_at : List ℕ → List ℕ → List Path
columns_at s columns = map (path_of s) columns

-- p is a test that stands in the column of class k
pub record TestIn (s : List ℕ) (k p : ℕ) : Type 0 where
  pub known : p < patterns s
  pub test : is_test s p ≡ true
  pub class : class_of s p ≡ k

-- clauses that rise from a first on
abbrev pub Rising : ℕ → ℕ → List ℕ → Type 0
Rising n from [] = Unit {0}
Rising n from (c ∷ cs) = (from ≤ c) × (c < n) × Rising n (c + 1) cs

-- p is a test inside no test, or inside an opened one: so it is, or was, in a row
unfoldable pub reached : List ℕ → List ℕ → ℕ → Bool
reached s opened p = both (is_test s p) (available s opened p)

-- Each column is there because of a test that is reached, and another one for each.
pub record Sound (s : List ℕ) (rows columns tested opened : List ℕ) : Type 0 where
  pub rising : Rising (clauses s) 0 rows
  pub are_classes : All (IsClass s) columns
  pub were_classes : All (IsClass s) tested
  pub long : length opened ≡ patterns_most
  pub states : All (State s tested opened) rows
  pub room : length columns + length tested ≤ times (reached s opened) 0 (patterns s)

-- what f gives of each, one after the other
unfoldable pub gather : (ℕ → List ℕ) → List ℕ → List ℕ
gather f [] = []
gather f (x ∷ xs) = f x ++ gather f xs

abbrev pub root_tests : List ℕ → ℕ → List ℕ
root_tests s c = tests_of s (root s c)

-- the tests opened at a time
unfoldable pub marked : ℕ → List ℕ → List ℕ → List ℕ
marked time opened [] = opened
marked time opened (p ∷ ps) = marked time (set opened p time) ps
