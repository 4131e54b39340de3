-- 01, "How a tree is built", rule 4: splitting a matrix by the column at a path.
-- First the document's pass down the rows; then the filters that it equals (proofs/SplittingLaws.antt has the proof).
use Rattle.std.specs.Prelude.{ℕ, zero, suc, ◌+◌, ◌-◌, Bool, true, false, List, [], ◌∷◌, ◌++◌, leb}
use Rattle.std.proofs.Math.Option.{none, some}
use Rattle.base_words.specs.Words.{either, pick, same_text}
use Rattle.spec_rules.specs.Patterns.{Text, Pat, discard, variable, assign, integer, bytestring, listed, tailed, constructor, opened, many}
use Rattle.spec_rules.specs.Rows.{Path, same_path, Cell, Row, opened_columns, opened_bindings}
use Rattle.spec_rules.specs.Columns.{test_at}

-- A case's test.
pub data Test : Type 0 where
  Constr : ℕ → Test
  Int : Text → Test
  Bytes : Text → Test
  ListOf : ℕ → Test
  ListWithTail : ℕ → Test

unfoldable pub test_fields : Test → List ℕ
test_fields (Constr a) = 0 ∷ a ∷ []
test_fields (Int w) = 1 ∷ w
test_fields (Bytes w) = 2 ∷ w
test_fields (ListOf n) = 3 ∷ n ∷ []
test_fields (ListWithTail n) = 4 ∷ n ∷ []

unfoldable pub same_test : Test → Test → Bool
unfolding same_text test_fields
same_test t u = same_text (test_fields t) (test_fields u)

-- ---- what a row's test joins
-- f k, f (k + 1), .. , n of them
unfoldable pub rising : (ℕ → Test) → ℕ → ℕ → List Test
rising f k zero = []
rising f k (suc n) = f k ∷ rising f (k + 1) n

-- "ListWithTail(k) first joins List(k) up to the longest tailless length in the column, if any, then ListWithTail(k) up to the
-- longest tailed length, each rising": tailless and tails are one more than these lengths, 0 if there is none
unfoldable pub joined : ℕ → ℕ → Pat → List Test
unfolding many rising
joined tailless tails (discard m) = []
joined tailless tails (variable m x) = []
joined tailless tails (assign m x q) = []
joined tailless tails (integer m at w) = Int w ∷ []
joined tailless tails (bytestring m at w) = Bytes w ∷ []
joined tailless tails (listed m qs) = ListOf (many qs) ∷ []
joined tailless tails (tailed m qs q) = rising ListOf (many qs) (tailless - many qs) ++ rising ListWithTail (many qs) (tails - many qs)
joined tailless tails (constructor m a qs) = Constr a ∷ []
joined tailless tails (opened m o qs) = []

unfoldable pub tailless_length : Pat → ℕ
unfolding many
tailless_length (discard m) = 0
tailless_length (variable m x) = 0
tailless_length (assign m x q) = 0
tailless_length (integer m at w) = 0
tailless_length (bytestring m at w) = 0
tailless_length (listed m qs) = suc (many qs)
tailless_length (tailed m qs q) = 0
tailless_length (constructor m a qs) = 0
tailless_length (opened m o qs) = 0

unfoldable pub tailed_length : Pat → ℕ
unfolding many
tailed_length (discard m) = 0
tailed_length (variable m x) = 0
tailed_length (assign m x q) = 0
tailed_length (integer m at w) = 0
tailed_length (bytestring m at w) = 0
tailed_length (listed m qs) = 0
tailed_length (tailed m qs q) = suc (many qs)
tailed_length (constructor m a qs) = 0
tailed_length (opened m o qs) = 0

unfoldable pub larger : ℕ → ℕ → ℕ
larger a b = pick (leb a b) b a

unfoldable pub longest : (Pat → ℕ) → List Pat → ℕ
unfolding larger
longest f [] = 0
longest f (q ∷ qs) = larger (f q) (longest f qs)

-- the tests of the column at p, top down
unfoldable pub column : Path → List Row → List Pat
unfolding test_at
column p [] = []
column p (r ∷ rs) = elim (test_at p r.tests) [ none ↦ column p rs | some q ↦ q ∷ column p rs ]

-- the row without its test at p, with what its pattern there opens to
unfoldable pub without_test : Path → List Cell → List Cell
unfolding same_path
without_test p [] = []
without_test p (c ∷ cs) = elim (same_path p c.path) [ true ↦ cs | false ↦ c ∷ without_test p cs ]

unfoldable pub open_row : Path → Pat → Row → Row
unfolding opened_columns opened_bindings without_test
open_row p q r = record {
  clause = r.clause;
  bindings = r.bindings ++ opened_bindings p q;
  tests = opened_columns p q ++ without_test p r.tests;
}

-- "A text starts where the row that opened its case has it" (the tree file); 0 for a test that is no text
unfoldable pub text_start : Pat → ℕ
text_start (discard m) = 0
text_start (variable m x) = 0
text_start (assign m x q) = 0
text_start (integer m at w) = at
text_start (bytestring m at w) = at
text_start (listed m qs) = 0
text_start (tailed m qs q) = 0
text_start (constructor m a qs) = 0
text_start (opened m o qs) = 0

-- ---- the pass: "Going down the rows"
-- A case met so far: its test, where its text starts, what its tests opened, and its rows.
pub record Group : Type 0 where
  pub test : Test
  pub start : ℕ
  pub opens : List Cell
  pub rows : List Row

pub record Split : Type 0 where
  pub rest : List Row
  pub groups : List Group

unfoldable pub add_row : Row → List Cell → Group → Group
add_row r cs g = record { test = g.test; start = g.start; opens = g.opens ++ cs; rows = g.rows ++ r ∷ [] }

-- "A row with a test joins its case; a new case starts with the default rows so far. Cases stand in order of first meeting"
unfoldable pub join : Path → Pat → Row → List Row → Test → List Group → List Group
unfolding same_test open_row opened_columns text_start add_row
join p q r rest t [] = record { test = t; start = text_start q; opens = opened_columns p q; rows = rest ++ open_row p q r ∷ [] } ∷ []
join p q r rest t (g ∷ gs) =
    elim (same_test t g.test) [ true ↦ add_row (open_row p q r) (opened_columns p q) g ∷ gs | false ↦ g ∷ join p q r rest t gs ]

unfoldable pub join_each : Path → Pat → Row → List Row → List Test → List Group → List Group
unfolding join
join_each p q r rest [] gs = gs
join_each p q r rest (t ∷ ts) gs = join_each p q r rest ts (join p q r rest t gs)

-- "a wildcard row joins the default and every case met so far"
unfoldable pub add_to_all : Row → List Group → List Group
unfolding add_row
add_to_all r [] = []
add_to_all r (g ∷ gs) = add_row r [] g ∷ add_to_all r gs

unfoldable pub go_down : ℕ → ℕ → Path → List Row → List Row → List Group → Split
unfolding test_at joined join_each add_to_all
go_down tailless tails p [] rest gs = record { rest = rest; groups = gs }
go_down tailless tails p (r ∷ rs) rest gs =
    elim (test_at p r.tests) [
      | none ↦ go_down tailless tails p rs (rest ++ r ∷ []) (add_to_all r gs)
      | some q ↦ go_down tailless tails p rs rest (join_each p q r rest (joined tailless tails q) gs)
    ]

unfoldable pub split : Path → List Row → Split
unfolding go_down column longest tailless_length tailed_length
split p rs = go_down (longest tailless_length (column p rs)) (longest tailed_length (column p rs)) p rs [] []

-- ---- the filters
-- "Cases stand in order of first meeting"
pub record Met : Type 0 where
  pub test : Test
  pub start : ℕ

unfoldable pub is_met : Test → List Met → Bool
unfolding same_test
is_met t [] = false
is_met t (m ∷ ms) = either (same_test t m.test) (is_met t ms)

unfoldable pub meet : ℕ → List Met → List Test → List Met
unfolding is_met
meet start ms [] = ms
meet start ms (t ∷ ts) = elim (is_met t ms) [ true ↦ meet start ms ts | false ↦ meet start (ms ++ record { test = t; start = start } ∷ []) ts ]

unfoldable pub meet_all : ℕ → ℕ → List Met → List Pat → List Met
unfolding meet joined text_start
meet_all tailless tails ms [] = ms
meet_all tailless tails ms (q ∷ qs) = meet_all tailless tails (meet (text_start q) ms (joined tailless tails q)) qs

unfoldable pub cases_of : List Pat → List Met
unfolding meet_all longest tailless_length tailed_length
cases_of qs = meet_all (longest tailless_length qs) (longest tailed_length qs) [] qs

-- does a row with this test belong to the case?
unfoldable pub covers : Pat → Test → Bool
unfolding same_test many
covers (discard m) t = false
covers (variable m x) t = false
covers (assign m x q) t = false
covers (integer m at w) t = same_test t (Int w)
covers (bytestring m at w) t = same_test t (Bytes w)
covers (listed m qs) t = same_test t (ListOf (many qs))
covers (tailed m qs q) t = elim t [ Constr a ↦ false | Int w ↦ false | Bytes w ↦ false | ListOf n ↦ leb (many qs) n | ListWithTail n ↦ leb (many qs) n ]
covers (constructor m a qs) t = same_test t (Constr a)
covers (opened m o qs) t = false

-- the wildcard rows; the rows of a case; what a case's rows opened
unfoldable pub default_rows : Path → List Row → List Row
unfolding test_at
default_rows p [] = []
default_rows p (r ∷ rs) = elim (test_at p r.tests) [ none ↦ r ∷ default_rows p rs | some q ↦ default_rows p rs ]

unfoldable pub case_rows : Path → Test → List Row → List Row
unfolding test_at covers open_row
case_rows p t [] = []
case_rows p t (r ∷ rs) =
    elim (test_at p r.tests) [
      | none ↦ r ∷ case_rows p t rs
      | some q ↦ elim (covers q t) [ true ↦ open_row p q r ∷ case_rows p t rs | false ↦ case_rows p t rs ]
    ]

unfoldable pub case_opens : Path → Test → List Row → List Cell
unfolding test_at covers opened_columns
case_opens p t [] = []
case_opens p t (r ∷ rs) =
    elim (test_at p r.tests) [
      | none ↦ case_opens p t rs
      | some q ↦ elim (covers q t) [ true ↦ opened_columns p q ++ case_opens p t rs | false ↦ case_opens p t rs ]
    ]

unfoldable pub filtered : Path → List Row → List Met → List Group
unfolding case_rows case_opens
filtered p rs [] = []
filtered p rs (m ∷ ms) = record { test = m.test; start = m.start; opens = case_opens p m.test rs; rows = case_rows p m.test rs } ∷ filtered p rs ms

unfoldable pub split_by_filters : Path → List Row → Split
unfolding default_rows filtered cases_of column
split_by_filters p rs = record { rest = default_rows p rs; groups = filtered p rs (cases_of (column p rs)) }
