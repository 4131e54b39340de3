-- What a row has in a column, by numbers: the clause's test there, if it is not opened and the test that it is inside of is.
-- `opened` says of each pattern when its test was opened: one more than the place among the columns tested, or 0.
use Rattle.std.specs.Prelude.{Bool, true, not, List, [], ◌∷◌, ◌++◌, map, ◌≡◌, ℕ, zero, suc, ◌+◌, ◌-◌, ◌≤◌, ◌<◌, eqb, ltb, length, get_or, Some, None}
use Rattle.std.proofs.Math.Option.{Option, none, some}
use Rattle.base_words.specs.Words.{both, either, pick}
use Rattle.spec_rules.specs.SheetFile.{patterns}
use Rattle.spec_rules.specs.Patterns.{Pat, clause_pattern}
use Rattle.spec_rules.specs.Rows.{Cell, Binding, bit, bindings_of, opened_bindings}
use Rattle.build_table.specs.Standing.{clause_of, path_of, owner_of, pattern_of, is_test, class_of, cell_of}
use Rattle.build_table.specs.Seen.{cell_at}
use Rattle.build_matrix.specs.Columns.{Held}
use Rattle.build_matrix.specs.RowStates.{row_of}
use Rattle.build_matrix.specs.Numbers.{copies}

-- ---- by number
-- p is inside no test, or inside an opened one
unfoldable pub available : List ℕ → List ℕ → ℕ → Bool
available s opened p = either (eqb (owner_of s p) 0) (not (eqb (get_or opened (owner_of s p - 1) 0) 0))

unfoldable pub is_live : List ℕ → List ℕ → ℕ → Bool
is_live s opened p = both (eqb (get_or opened p 0) 0) (available s opened p)

abbrev pub live_cell : List ℕ → List ℕ → ℕ → Held
live_cell s opened zero = None
live_cell s opened (suc p) = pick (is_live s opened p) (Some p) None

-- what clause c's row has in the column of the class
unfoldable pub live_test : List ℕ → List ℕ → ℕ → ℕ → Held
live_test s opened c class = live_cell s opened (cell_of s c class)

-- the same of one column, by clause
abbrev pub live_in : List ℕ → List ℕ → ℕ → ℕ → Held
live_in s opened class c = live_test s opened c class

abbrev pub pattern_held : List ℕ → Held → Option Pat
pattern_held s (Some p) = some (pattern_of s p)
pattern_held s None = none

-- the clause's test there, if it was opened as the column was tested, `time` columns before it
abbrev pub opened_cell : List ℕ → ℕ → ℕ → Held
opened_cell opened time zero = None
opened_cell opened time (suc p) = pick (eqb (get_or opened p 0) (time + 1)) (Some p) None

unfoldable pub opened_test : List ℕ → List ℕ → ℕ → ℕ → ℕ → Held
opened_test s opened c time class = opened_cell opened time (cell_of s c class)

abbrev pub bindings_held : List ℕ → Held → List Binding
bindings_held s (Some p) = opened_bindings (path_of s p) (pattern_of s p)
bindings_held s None = []

-- what the columns of these classes opened in clause c's row, in order; the first was tested after `time` others
unfoldable pub bound_by : List ℕ → List ℕ → ℕ → ℕ → List ℕ → List Binding
bound_by s opened c time [] = []
bound_by s opened c time (class ∷ classes) = bindings_held s (opened_test s opened c time class) ++ bound_by s opened c (time + 1) classes

-- k is the class of a path
pub record IsClass (s : List ℕ) (k : ℕ) : Type 0 where
  pub known : k < patterns s
  pub itself : class_of s k ≡ k

-- ---- a row's state: its tests are the live tests of its clause, each once, and its bindings what was opened in order
-- p is a test of clause c
unfoldable pub is_test_of : List ℕ → ℕ → ℕ → Bool
is_test_of s c p = both (ltb p (patterns s)) (both (is_test s p) (eqb (clause_of s p) c))

-- q is directly inside the test p
unfoldable pub is_inside : List ℕ → ℕ → ℕ → Bool
is_inside s p q = both (ltb q (patterns s)) (both (is_test s q) (eqb (owner_of s q) (p + 1)))

unfoldable pub is_live_of : List ℕ → List ℕ → ℕ → ℕ → Bool
is_live_of s opened c p = both (is_test_of s c p) (is_live s opened p)

pub record Lives (s opened : List ℕ) (c : ℕ) (cells : List Cell) : Type 0 where
  pub numbers : List ℕ
  pub are : cells ≡ map (cell_at s) numbers
  pub once : (q : ℕ) → copies q numbers ≡ bit (is_live_of s opened c q)

-- clause c's row after the columns of the classes in `tested`
pub record State (s : List ℕ) (tested opened : List ℕ) (c : ℕ) : Type 0 where
  pub tests : Lives s opened c (row_of s (map (path_of s) tested) c).tests
  pub bindings : (row_of s (map (path_of s) tested) c).bindings ≡ bindings_of [] (clause_pattern s c) ++ bound_by s opened c 0 tested
  pub closed : (q : ℕ) → q < patterns s → clause_of s q ≡ c → (get_or opened q 0 ≡ 0 → ⊥) → available s opened q ≡ true
  pub timely : (q : ℕ) → q < patterns s → clause_of s q ≡ c → get_or opened q 0 ≤ length tested
