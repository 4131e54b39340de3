-- What the contracts say at length or more than once, in a word each. A name that ends in before or after takes what lent parameters
-- hold at a function's entry or at its exit.
use Rattle.std.specs.Prelude.{true, List, [], ◌++◌, ◌≡◌, ℕ, ◌+◌, ◌≤◌, ◌<◌, length, take}
use Rattle.spec_rules.specs.Kinds.{integer_pattern, byte_string_pattern}
use Rattle.spec_rules.specs.Limits.{patterns_most}
use Rattle.spec_rules.specs.SheetFile.{pool_size, patterns}
use Rattle.spec_rules.specs.SheetRefusals.{is_in}
use Rattle.spec_rules.specs.SplittingLaws.{All}
use Rattle.format_records.specs.declared.reading.Test.{Test}
use Rattle.format_sheet.specs.declared.SheetMap.{SheetMap}
use Rattle.format_sheet.specs.declared.records.PatternRecord.{PatternRecord}
use Rattle.build_table.specs.Seen.{tests_of, tests_of_each, opened_tests}
use Rattle.build_matrix.specs.declared.Classes.{Classes}
use Rattle.build_matrix.specs.Columns.{Held}
use Rattle.build_matrix.specs.declared.Matrix.{Matrix}
use Rattle.build_matrix.specs.declared.PerRow.{PerRow}
use Rattle.build_matrix.specs.declared.Sizes.{Sizes}
use Rattle.build_matrix.specs.HeldRows.{join_of, opens_of}
use Rattle.build_matrix.specs.InNumbers.{in_numbers, matrix_of, WholeMatrix}
use Rattle.build_matrix.specs.Lists.{classes_in, numbers_in, as_rows, WholeRows}
use Rattle.build_matrix.specs.Live.{live_in}
use Rattle.build_matrix.specs.Matrices.{gather}
use Rattle.build_matrix.specs.Meant.{meant, joins_test, InPool, join_row, open_row, JoinsTo}
use Rattle.build_matrix.specs.Numbered.{Numbered, SoundOf, case_numbered}
use Rattle.build_matrix.specs.Ready.{ReadyTable, Listed, put_tests, Roomy, Children, TestKnown}

-- rows in a lent array, up to a count
abbrev pub rows_before : List ℕ → ℕ → PerRow
rows_before rows n = as_rows rows n

abbrev pub rows_after : List ℕ → ℕ → PerRow
rows_after rows n = as_rows rows n

-- ---- what putting columns among others asks: a sheet with its table, classes of it in order, and room for what is put
-- those of a pattern
abbrev pub PatternAsked : List ℕ → SheetMap → List ℕ → Classes → ℕ → Type 0
PatternAsked s m t o p = ReadyTable s m t × Listed s o × (p < patterns s) × Roomy s (tests_of s p) o

-- those of n of its children from entry j on
abbrev pub ChildrenAsked : List ℕ → SheetMap → List ℕ → Classes → ℕ → ℕ → ℕ → Type 0
ChildrenAsked s m t o p j n = ReadyTable s m t × Listed s o × Children s p j n × Roomy s (tests_of_each s j n) o

-- those that a test opens
abbrev pub TestAsked : List ℕ → SheetMap → List ℕ → Classes → ℕ → Type 0
TestAsked s m t o p = ReadyTable s m t × Listed s o × TestKnown s p × Roomy s (opened_tests s p) o

-- ---- a matrix
-- of lent parts
abbrev pub matrix_now : List ℕ → List ℕ → List ℕ → List ℕ → Sizes → Matrix
matrix_now rows columns tested opened n = matrix_of rows columns tested opened n

-- and what it was at entry, in numbers
abbrev pub numbers_before : List ℕ → List ℕ → List ℕ → List ℕ → Sizes → Numbered
numbers_before rows columns tested opened n = in_numbers (matrix_now rows columns tested opened n)

-- and what it is at exit
abbrev pub matrix_after : List ℕ → List ℕ → List ℕ → List ℕ → Sizes → Matrix
matrix_after rows columns tested opened n = matrix_now rows columns tested opened n

-- ---- a case of the column of a class
-- the matrix of the case of a test as the arena has it
abbrev pub case_of_test : List ℕ → ℕ → Test → Numbered → Numbered
case_of_test s class test M = case_numbered s class (meant s test) M

-- what making it asks
abbrev pub CaseAsked : List ℕ → SheetMap → List ℕ → Matrix → ℕ → Test → Type 0
CaseAsked s m t x class test =
    ReadyTable s m t × WholeMatrix x × SoundOf s (in_numbers x) × (is_in class (classes_in x.columns) ≡ true) × InPool s test

-- a pattern that is a text has it in the pool
abbrev pub TextInPool : List ℕ → PatternRecord → Type 0
TextInPool s r = (integer_pattern ≤ r.kind) → (r.kind ≤ byte_string_pattern) → r.first + r.count ≤ pool_size s

-- clause c's row, which has this in the column, is behind the rows if it joins the case, and the test that it opens behind the tests
abbrev pub JoinsRow : List ℕ → Test → Held → ℕ → PerRow → PerRow → PerRow → PerRow → Type 0
JoinsRow s test held c rows opens rows' opens' =
    JoinsTo rows' opens' (numbers_in rows ++ join_row (joins_test s test) held c) (numbers_in opens ++ open_row (joins_test s test) held)

-- those of the clauses cs whose rows join the case, and the tests that these open
abbrev pub JoinsRows : List ℕ → Test → List ℕ → ℕ → List ℕ → PerRow → PerRow → Type 0
JoinsRows s test opened class cs rows' opens' =
    JoinsTo rows' opens' (join_of (joins_test s test) (live_in s opened class) cs) (opens_of (joins_test s test) (live_in s opened class) cs)

-- the columns that these tests open to
abbrev pub columns_opened : List ℕ → List ℕ → List ℕ
columns_opened s tests = put_tests s (gather (opened_tests s) tests) []

-- what opening the first n of them asks
abbrev pub OpensAsked : List ℕ → SheetMap → List ℕ → List ℕ → ℕ → Type 0
OpensAsked s m t tests n =
    ReadyTable s m t × WholeRows (as_rows tests n) × All (TestKnown s) (take n tests) × (length (columns_opened s (take n tests)) ≤ patterns_most)
