-- What building a matrix asks, and the column chosen in it: its tests, its cases in the order of their records, their trees.
-- Rests on the matrix by numbers and on the cases met.
use Rattle.std.specs.Prelude.{◌≡◌, true, List, ℕ, ◌≤◌, length, take, Some}
use Rattle.spec_rules.specs.Limits.{patterns_most}
use Rattle.spec_rules.specs.Patterns.{Pat}
use Rattle.spec_rules.specs.Splitting.{Test, Met, is_met, cases_of}
use Rattle.spec_rules.specs.SplittingLaws.{All}
use Rattle.spec_rules.specs.Building.{Tree}
use Rattle.format_sheet.specs.declared.SheetMap.{SheetMap}
use Rattle.build_matrix.specs.declared.Matrix.{Matrix}
use Rattle.format_records.specs.declared.reading.Test as reading
use Rattle.build_matrix.specs.Ready.{ReadyTable}
use Rattle.build_matrix.specs.Meant.{meant, InPool}
use Rattle.build_matrix.specs.Numbered.{Numbered, SoundOf, default_numbered, case_numbered, chosen_in, tests_in, tree_at}
use Rattle.build_matrix.specs.InNumbers.{in_numbers, WholeMatrix}
use Rattle.build_cases.specs.Made.{column_of}
use Rattle.build_cases.specs.SoFar.{InSheet}
use Rattle.build_nodes.specs.declared.tops.Tops.{Tops}
use Rattle.build_nodes.specs.Built.{Roomy, CasesOpen}
use Rattle.build_nodes.specs.SwitchLaws.{in_order}

-- ---- a matrix
-- it is sound, and has a row
pub record MatrixThere (s : List ℕ) (x : Matrix) : Type 0 where
  pub whole : WholeMatrix x
  pub sound : SoundOf s (in_numbers x)
  pub some_row : 1 ≤ length (in_numbers x).rows

-- what building it asks
pub record Asked (s : List ℕ) (m : SheetMap) (t : List ℕ) (x : Matrix) (w : List ℕ) (tops : Tops) : Type 0 where
  pub ready : ReadyTable s m t
  pub there : MatrixThere s x
  pub room : Roomy w tops

-- the array of the classes tested: its first `time` ones are as they were
pub record StillTested (time : ℕ) (l l' : List ℕ) : Type 0 where
  pub long : length l' ≡ patterns_most
  pub same : take time l' ≡ take time l

-- ---- the column of class k
-- its tests, top down
abbrev pub chosen_column : List ℕ → ℕ → Numbered → List Pat
chosen_column s k M = column_of s (tests_in s k M)

abbrev pub case_list : List ℕ → ℕ → Numbered → List Met
case_list s k M = in_order (chosen_column s k M)

abbrev pub case_tree : List ℕ → ℕ → Numbered → Test → Tree
case_tree s k M u = tree_at s (case_numbered s k u M)

abbrev pub default_tree : List ℕ → ℕ → Numbered → Tree
default_tree s k M = tree_at s (default_numbered s k M)

-- it is the one chosen
pub record AskedColumn (s : List ℕ) (m : SheetMap) (t : List ℕ) (x : Matrix) (k : ℕ) : Type 0 where
  pub ready : ReadyTable s m t
  pub there : MatrixThere s x
  pub chosen : chosen_in s (in_numbers x) ≡ Some k

-- what building a case asks: its test is one of them
pub record AskedCase (s : List ℕ) (m : SheetMap) (t : List ℕ) (x : Matrix) (k : ℕ) (test : reading.Test) (w : List ℕ) (tops : Tops) : Type 0 where
  pub col : AskedColumn s m t x k
  pub pool : InPool s test
  pub met : is_met (meant s test) (cases_of (chosen_column s k (in_numbers x))) ≡ true
  pub room : Roomy w tops

-- what building its cases asks
pub record AskedCases (s : List ℕ) (k : ℕ) (M : Numbered) (first : ℕ) (w : List ℕ) (from : Tops) : Type 0 where
  pub begun : CasesOpen (case_list s k M) first w from
  pub each : All (InSheet s) (case_list s k M)
