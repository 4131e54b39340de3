-- What a row has in a column and what is chosen, as the code reads it from the table: by bytes alone.
-- ReadingLaws has that these are the same of a table that is a sheet's.
use Rattle.std.specs.Prelude.{Bool, not, List, [], ◌∷◌, ◌≡◌, ℕ, zero, suc, ◌+◌, ◌-◌, ◌*◌, ◌≤◌, ◌<◌, eqb, ltb, length, get_or, Some, None}
use Rattle.base_words.specs.Words.{both, either, pick}
use Rattle.spec_rules.specs.Limits.{patterns_most, clauses_most, depth_most}
use Rattle.build_table.specs.Table.{owner_at, depth_at, cells_at, table_size, first_before, indices_in}
use Rattle.build_matrix.specs.Columns.{Held}
use Rattle.build_matrix.specs.declared.rows.Best.{Best}

-- the test of clause c in the column of a class
abbrev pub cell_in : List ℕ → ℕ → ℕ → ℕ
cell_in t class c = get_or t (cells_at + patterns_most * c + class) 0

-- what the test is inside of, in the table
abbrev pub owner_in : List ℕ → ℕ → ℕ
owner_in t p = get_or t (owner_at + p) 0

abbrev pub cell_held : List ℕ → List ℕ → ℕ → Held
cell_held t opened zero = None
cell_held t opened (suc p) =
    pick (both (eqb (get_or opened p 0) 0) (either (eqb (owner_in t p) 0) (not (eqb (get_or opened (owner_in t p - 1) 0) 0)))) (Some p) None

unfoldable pub held_in : List ℕ → List ℕ → ℕ → ℕ → Held
held_in t opened class c = cell_held t opened (cell_in t class c)

-- a cell of the table that names a pattern, which is inside of another or of none
pub record InTable (t : List ℕ) (class c : ℕ) : Type 0 where
  pub long : length t ≡ table_size
  pub clause : c < clauses_most
  pub known : class < patterns_most
  pub cell : cell_in t class c ≤ patterns_most
  pub owner : owner_in t (cell_in t class c - 1) ≤ patterns_most

-- a class whose path's indices can be read, and the order by them
pub record Ranked (t : List ℕ) (k : ℕ) : Type 0 where
  pub known : k < patterns_most
  pub depth : get_or t (depth_at + k) 0 < depth_most

abbrev pub first_in : List ℕ → ℕ → ℕ → Bool
first_in t a b = first_before (indices_in t a) (indices_in t b)

-- the better of two columns; of equal ones the first
abbrev pub bettered : Best → ℕ → ℕ → Best
bettered best class amount = pick (ltb best.amount amount) (record { choice = Some class; amount = amount }) best

-- a row that stays in the default
abbrev pub kept : Held → ℕ → List ℕ
kept (Some p) c = []
kept None c = c ∷ []
