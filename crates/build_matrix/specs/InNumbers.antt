-- A matrix as the code has it, in arrays, and the matrix by numbers that it stands for; what splitting it by a column asks, and the
-- matrix of the default as the table tells it. InNumbersLaws has that these are the same of a table that is a sheet's.
use Rattle.std.specs.Prelude.{true, List, [], ◌∷◌, ◌++◌, ◌≡◌, ℕ, ◌<◌, length, None}
use Rattle.spec_rules.specs.Limits.{patterns_most}
use Rattle.spec_rules.specs.SheetRefusals.{is_in}
use Rattle.spec_rules.specs.SplittingLaws.{All}
use Rattle.build_matrix.specs.declared.Matrix.{Matrix}
use Rattle.build_matrix.specs.declared.Sizes.{Sizes}
use Rattle.build_matrix.specs.Columns.{Choice}
use Rattle.build_matrix.specs.HeldRows.{count_of, best_of, wild_of}
use Rattle.build_matrix.specs.Lists.{classes_in, numbers_in, as_classes, as_rows, Whole, WholeRows}
use Rattle.build_matrix.specs.Numbered.{Numbered}
use Rattle.build_matrix.specs.Ordered.{without_class}
use Rattle.build_matrix.specs.Reading.{held_in, InTable}

-- the matrix of parts that are lent: rows, columns and columns tested up to their counts, and what is opened
abbrev pub matrix_of : List ℕ → List ℕ → List ℕ → List ℕ → Sizes → Matrix
matrix_of rows columns tested opened n =
    record { rows = as_rows rows n.rows; columns = as_classes columns n.columns; tested = as_classes tested n.tested; opened = opened }

abbrev pub in_numbers : Matrix → Numbered
in_numbers x = record { rows = numbers_in x.rows; columns = classes_in x.columns; tested = classes_in x.tested; opened = x.opened }

pub record WholeMatrix (x : Matrix) : Type 0 where
  pub whole_rows : WholeRows x.rows
  pub whole_columns : Whole x.columns
  pub whole_tested : Whole x.tested
  pub long_opened : length x.opened ≡ patterns_most

-- it stands for M
pub record StandsFor (x : Matrix) (M : Numbered) : Type 0 where
  pub whole : WholeMatrix x
  pub are : in_numbers x ≡ M

-- every cell of its rows and columns can be read
pub record Readable (t : List ℕ) (x : Matrix) : Type 0 where
  pub whole : WholeMatrix x
  pub cells : All (λ k. All (InTable t k) (numbers_in x.rows)) (classes_in x.columns)

-- it has the column of the class, which can be read, and room for it among those tested
pub record Splits (t : List ℕ) (x : Matrix) (class : ℕ) : Type 0 where
  pub whole : WholeMatrix x
  pub there : is_in class (classes_in x.columns) ≡ true
  pub known : class < patterns_most
  pub cells : All (InTable t class) (numbers_in x.rows)
  pub room : x.tested.count < patterns_most

-- ---- what the table tells
unfoldable pub chosen_read : List ℕ → Numbered → Choice
unfolding best_of count_of held_in
chosen_read t M = best_of (λ k. count_of (held_in t M.opened k) M.rows) None 0 M.columns

unfoldable pub default_read : List ℕ → ℕ → Numbered → Numbered
unfolding wild_of held_in without_class
default_read t k M = record {
  rows = wild_of (held_in t M.opened k) M.rows;
  columns = without_class k M.columns;
  tested = M.tested ++ k ∷ [];
  opened = M.opened;
}
