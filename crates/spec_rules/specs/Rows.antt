-- 01, "How a tree is built", rule 1: a pattern becomes bindings and columns.
-- A row keeps only its tests, each with its path: a column that a row lacks is its wildcard.
use Rattle.std.specs.Prelude.{ℕ, ◌+◌, Bool, true, false, List, [], ◌∷◌, ◌++◌}
use Rattle.base_words.specs.Words.{both, same_text}
use Rattle.spec_rules.specs.Kinds.{pair_step, tuple_step, constr_step, list_step, listtail_step}
use Rattle.spec_rules.specs.Patterns.{Opens, pairs, tuples, fields, Pat, Pats, discard, variable, assign, integer, bytestring, listed, tailed, constructor, opened, pnil, pcons, many}

-- A step into a part: its index, for a constructor's field 01's b, and last the type of the part stepped from.
pub data Step : Type 0 where
  pair : ℕ → ℕ → Step
  tuple : ℕ → ℕ → Step
  constr : ℕ → Bool → ℕ → Step
  list : ℕ → ℕ → Step
  listtail : ℕ → ℕ → Step

abbrev pub Path : Type 0
Path = List Step

unfoldable pub into : Path → Step → Path
into p s = p ++ s ∷ []

-- Steps and paths are equal where every field is: what a step is written as (kind, flag, index, type) is compared.
unfoldable pub bit : Bool → ℕ
bit true = 1
bit false = 0

unfoldable pub step_fields : Step → List ℕ
unfolding bit
step_fields (pair i t) = pair_step ∷ 0 ∷ i ∷ t ∷ []
step_fields (tuple i t) = tuple_step ∷ 0 ∷ i ∷ t ∷ []
step_fields (constr i b t) = constr_step ∷ bit b ∷ i ∷ t ∷ []
step_fields (list i t) = list_step ∷ 0 ∷ i ∷ t ∷ []
step_fields (listtail i t) = listtail_step ∷ 0 ∷ i ∷ t ∷ []

unfoldable pub same_step : Step → Step → Bool
unfolding same_text step_fields
same_step a b = same_text (step_fields a) (step_fields b)

unfoldable pub same_path : Path → Path → Bool
unfolding same_step
same_path [] [] = true
same_path [] (t ∷ ts) = false
same_path (s ∷ ss) [] = false
same_path (s ∷ ss) (t ∷ ts) = both (same_step s t) (same_path ss ts)

-- A name and the path that it is bound to.
pub record Binding : Type 0 where
  pub name : ℕ
  pub path : Path

-- A test of a row: its column's path, and the pattern there.
pub record Cell : Type 0 where
  pub path : Path
  pub pattern : Pat

pub record Row : Type 0 where
  pub clause : ℕ
  pub bindings : List Binding
  pub tests : List Cell

-- "Pairs, tuples and one-constructor types open in order, with steps `pair_{i}`, `tuple_{i}`, `constr_{i}_{b}`; b is true only
-- for a list-decorated one-constructor type"
unfoldable pub opening : Opens → ℕ → ℕ → Step
opening pairs t i = pair i t
opening tuples t i = tuple i t
opening (fields a decorated) t i = constr i decorated t

-- "Integer, byte string, list and constructor of a several-constructor type become one column"
unfoldable mutual
  unfolding into opening

  pub columns_of : Path → Pat → List Cell
  columns_of p (discard m) = []
  columns_of p (variable m x) = []
  columns_of p (assign m x q) = columns_of p q
  columns_of p (integer m at w) = record { path = p; pattern = integer m at w } ∷ []
  columns_of p (bytestring m at w) = record { path = p; pattern = bytestring m at w } ∷ []
  columns_of p (listed m qs) = record { path = p; pattern = listed m qs } ∷ []
  columns_of p (tailed m qs q) = record { path = p; pattern = tailed m qs q } ∷ []
  columns_of p (constructor m a qs) = record { path = p; pattern = constructor m a qs } ∷ []
  columns_of p (opened m o qs) = columns_of_each p (opening o m.type) 0 qs

  -- of parts i, i + 1, .. of the pattern at p
  pub columns_of_each : Path → (ℕ → Step) → ℕ → Pats → List Cell
  columns_of_each p step i pnil = []
  columns_of_each p step i (pcons q qs) = columns_of (into p (step i)) q ++ columns_of_each p step (i + 1) qs

-- "A variable binds its path; an assign binds before what is inside it; a discard gives nothing"
unfoldable mutual
  unfolding into opening

  pub bindings_of : Path → Pat → List Binding
  bindings_of p (discard m) = []
  bindings_of p (variable m x) = record { name = x; path = p } ∷ []
  bindings_of p (assign m x q) = record { name = x; path = p } ∷ bindings_of p q
  bindings_of p (integer m at w) = []
  bindings_of p (bytestring m at w) = []
  bindings_of p (listed m qs) = []
  bindings_of p (tailed m qs q) = []
  bindings_of p (constructor m a qs) = []
  bindings_of p (opened m o qs) = bindings_of_each p (opening o m.type) 0 qs

  pub bindings_of_each : Path → (ℕ → Step) → ℕ → Pats → List Binding
  bindings_of_each p step i pnil = []
  bindings_of_each p step i (pcons q qs) = bindings_of (into p (step i)) q ++ bindings_of_each p step (i + 1) qs

-- the row of a clause; the rows of clauses c, c + 1, ..
unfoldable pub clause_row : ℕ → Pat → Row
unfolding columns_of bindings_of
clause_row c q = record { clause = c; bindings = bindings_of [] q; tests = columns_of [] q }

unfoldable pub clause_rows : ℕ → List Pat → List Row
unfolding clause_row
clause_rows c [] = []
clause_rows c (q ∷ qs) = clause_row c q ∷ clause_rows (c + 1) qs

-- What a test's pattern at p opens to once its case holds. "Opening a several-constructor type always writes false"; "Element i
-- has step `list_{i}`; a tail after i elements has `listtail_{i}`"
unfoldable pub opened_columns : Path → Pat → List Cell
unfolding columns_of columns_of_each into many
opened_columns p (discard m) = []
opened_columns p (variable m x) = []
opened_columns p (assign m x q) = []
opened_columns p (integer m at w) = []
opened_columns p (bytestring m at w) = []
opened_columns p (listed m qs) = columns_of_each p (λ i. list i m.type) 0 qs
opened_columns p (tailed m qs q) = columns_of_each p (λ i. list i m.type) 0 qs ++ columns_of (into p (listtail (many qs) m.type)) q
opened_columns p (constructor m a qs) = columns_of_each p (λ i. constr i false m.type) 0 qs
opened_columns p (opened m o qs) = []

unfoldable pub opened_bindings : Path → Pat → List Binding
unfolding bindings_of bindings_of_each into many
opened_bindings p (discard m) = []
opened_bindings p (variable m x) = []
opened_bindings p (assign m x q) = []
opened_bindings p (integer m at w) = []
opened_bindings p (bytestring m at w) = []
opened_bindings p (listed m qs) = bindings_of_each p (λ i. list i m.type) 0 qs
opened_bindings p (tailed m qs q) = bindings_of_each p (λ i. list i m.type) 0 qs ++ bindings_of (into p (listtail (many qs) m.type)) q
opened_bindings p (constructor m a qs) = bindings_of_each p (λ i. constr i false m.type) 0 qs
opened_bindings p (opened m o qs) = []
