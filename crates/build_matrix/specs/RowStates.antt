-- Rows as states: clause c's row after the columns at some paths were tested, in order, is a function of c and of those paths.
-- So a matrix is a list of clauses and the paths tested. Rests on the definitions of spec_rules alone.
use Rattle.std.specs.Prelude.{◌≡◌, refl, List, [], ◌∷◌, ◌++◌, map, ℕ, zero, suc, ◌+◌}
use Rattle.std.proofs.Common.{ap, ◌∙◌}
use Rattle.std.proofs.Math.Option.{Option, none, some}
use Rattle.spec_rules.specs.Patterns.{Pat, clause_pattern, clause_patterns}
use Rattle.spec_rules.specs.Rows.{Path, Row, clause_row, clause_rows}
use Rattle.spec_rules.specs.Columns.{test_at}
use Rattle.spec_rules.specs.Splitting.{open_row}

-- ---- one row
-- the row once the column at p is tested: a wildcard stays as it is, a test opens
unfoldable pub open_at : Path → Row → Row
open_at p r = elim (test_at p r.tests) [ none ↦ r | some q ↦ open_row p q r ]

unfoldable pub row_after : List Path → Row → Row
row_after [] r = r
row_after (p ∷ ps) r = row_after ps (open_at p r)

pub open_at_wild : (p : Path) (r : Row) → test_at p r.tests ≡ none → open_at p r ≡ r
unfolding open_at
open_at_wild p r e = rw (e, open_at)

pub open_at_test : (p : Path) (r : Row) (q : Pat) → test_at p r.tests ≡ some q → open_at p r ≡ open_row p q r
unfolding open_at
open_at_test p r q e = rw (e, open_at)

pub row_after_next : (ps : List Path) (p : Path) (r : Row) → row_after (ps ++ p ∷ []) r ≡ open_at p (row_after ps r)
unfolding row_after
row_after_next [] p r = refl
row_after_next (q ∷ ps) p r = row_after_next ps p (open_at q r)

-- a row keeps its clause
open_at_clause : (p : Path) (r : Row) → (open_at p r).clause ≡ r.clause
open_at_clause p r = go (test_at p r.tests) refl
  where
    go : (o : Option Pat) → test_at p r.tests ≡ o → (open_at p r).clause ≡ r.clause
    go none e = rw (open_at_wild p r e)
    go (some q) e = rw (open_at_test p r q e) (unfold open_row in refl)

row_after_clause : (ps : List Path) (r : Row) → (row_after ps r).clause ≡ r.clause
unfolding row_after
row_after_clause [] r = refl
row_after_clause (p ∷ ps) r = row_after_clause ps (open_at p r) ∙ open_at_clause p r

-- clause c's row, and the rows of clauses cs, after the columns at ps
unfoldable pub row_of : List ℕ → List Path → ℕ → Row
row_of s ps c = row_after ps (clause_row c (clause_pattern s c))

abbrev pub rows_of : List ℕ → List Path → List ℕ → List Row
rows_of s ps cs = map (row_of s ps) cs

-- what clause c's row has in the column at p
abbrev pub held_by : List ℕ → List Path → Path → ℕ → Option Pat
held_by s ps p c = test_at p (row_of s ps c).tests

pub row_of_clause : (s : List ℕ) (ps : List Path) (c : ℕ) → (row_of s ps c).clause ≡ c
unfolding row_of clause_row
row_of_clause s ps c = row_after_clause ps (clause_row c (clause_pattern s c))

pub row_of_next : (s : List ℕ) (ps : List Path) (p : Path) (c : ℕ) → row_of s (ps ++ p ∷ []) c ≡ open_at p (row_of s ps c)
unfolding row_of
row_of_next s ps p c = row_after_next ps p (clause_row c (clause_pattern s c))

pub row_of_wild : (s : List ℕ) (ps : List Path) (p : Path) (c : ℕ) → held_by s ps p c ≡ none → row_of s (ps ++ p ∷ []) c ≡ row_of s ps c
row_of_wild s ps p c e = row_of_next s ps p c ∙ open_at_wild p (row_of s ps c) e

pub row_of_test : (s : List ℕ) (ps : List Path) (p : Path) (c : ℕ) (q : Pat) → held_by s ps p c ≡ some q
    → row_of s (ps ++ p ∷ []) c ≡ open_row p q (row_of s ps c)
row_of_test s ps p c q e = row_of_next s ps p c ∙ open_at_test p (row_of s ps c) q e

-- the numbers c, c + 1, .. , n of them
unfoldable pub up_from : ℕ → ℕ → List ℕ
up_from c zero = []
up_from c (suc n) = c ∷ up_from (c + 1) n

-- before any test the rows are those of the clauses
pub clause_rows_lem : (s : List ℕ) (c n : ℕ) → clause_rows c (clause_patterns s c n) ≡ rows_of s [] (up_from c n)
unfolding clause_rows clause_patterns up_from row_of row_after
clause_rows_lem s c zero = refl
clause_rows_lem s c (suc n) = ap (λ (rs : List Row). clause_row c (clause_pattern s c) ∷ rs) (clause_rows_lem s (c + 1) n)
