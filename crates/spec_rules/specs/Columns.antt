-- 01, "How a tree is built", rules 2 and 3: the columns of a matrix, and the one that is tested.
-- A matrix is its columns' paths, in order, and its rows.
use Rattle.std.specs.Prelude.{ℕ, suc, Bool, true, false, List, [], ◌∷◌, ◌++◌, eqb, ltb}
use Rattle.std.proofs.Math.Option.{Option, none, some}
use Rattle.base_words.specs.Words.{both}
use Rattle.spec_rules.specs.Patterns.{Pat}
use Rattle.spec_rules.specs.Rows.{Step, pair, tuple, constr, list, listtail, Path, same_path, Cell, Row}

-- ---- rule 2: "Columns are the union over the rows, by path order, first step first"
unfoldable pub step_index : Step → ℕ
step_index (pair i t) = i
step_index (tuple i t) = i
step_index (constr i b t) = i
step_index (list i t) = i
step_index (listtail i t) = i

unfoldable pub before : Path → Path → Bool
unfolding step_index
before [] [] = false
before [] (t ∷ ts) = true
before (s ∷ ss) [] = false
before (s ∷ ss) (t ∷ ts) =
    elim (ltb (step_index s) (step_index t)) [ true ↦ true | false ↦ both (eqb (step_index s) (step_index t)) (before ss ts) ]

-- the path p put into its place among sorted ones, once
unfoldable pub put : Path → List Path → List Path
unfolding before same_path
put p [] = p ∷ []
put p (q ∷ qs) = elim (same_path p q) [ true ↦ q ∷ qs | false ↦ elim (before p q) [ true ↦ p ∷ q ∷ qs | false ↦ q ∷ put p qs ] ]

unfoldable pub union : List Cell → List Path
unfolding put
union [] = []
union (c ∷ cs) = put c.path (union cs)

unfoldable pub all_tests : List Row → List Cell
all_tests [] = []
all_tests (r ∷ rs) = r.tests ++ all_tests rs

unfoldable pub columns : List Row → List Path
unfolding union all_tests
columns rs = union (all_tests rs)

-- "Specialized columns, sorted alike, stand before the rest": a tested column is gone, the opened ones come first
unfoldable pub without : Path → List Path → List Path
unfolding same_path
without p [] = []
without p (q ∷ qs) = elim (same_path p q) [ true ↦ qs | false ↦ q ∷ without p qs ]

-- ---- rule 3: "A column's count is the rows before its first wildcard"
-- what a row has in the column at p; none is "a row lacking one gets a wildcard"
unfoldable pub test_at : Path → List Cell → Option Pat
unfolding same_path
test_at p [] = none
test_at p (c ∷ cs) = elim (same_path p c.path) [ true ↦ some c.pattern | false ↦ test_at p cs ]

unfoldable pub count : Path → List Row → ℕ
unfolding test_at
count p [] = 0
count p (r ∷ rs) = elim (test_at p r.tests) [ none ↦ 0 | some q ↦ suc (count p rs) ]

-- "The highest count is chosen; ties keep the leftmost. All counts 0: a leaf": so far the best is `chosen`, with count n
unfoldable pub better : Option Path → ℕ → List Path → List Row → Option Path
unfolding count
better chosen n [] rs = chosen
better chosen n (p ∷ ps) rs = elim (ltb n (count p rs)) [ true ↦ better (some p) (count p rs) ps rs | false ↦ better chosen n ps rs ]

unfoldable pub choice : List Path → List Row → Option Path
unfolding better
choice ps rs = better none 0 ps rs
