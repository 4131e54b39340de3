-- The patterns that stand in columns, and taking a row's test out of it.
use Rattle.std.specs.Prelude.{ℕ, ◌+◌, ◌≡◌, Bool}
use Rattle.std.proofs.Math.Path.{refl}
use Rattle.std.proofs.Common.{sym, ap}
use Rattle.std.proofs.Math.Bool.{true, false}
use Rattle.std.proofs.lemmas.Bool.{false≢true}
use mathlib.Core.List.{List, [], ◌∷◌, ◌++◌}
use Rattle.std.proofs.Math.Option.{Option, none, some}
use Rattle.spec_rules.specs.Patterns.{Pat, Pats, discard, variable, assign, integer, bytestring, listed, tailed, constructor, opened, pnil, pcons, many}
use Rattle.spec_rules.specs.Rows.{Step, constr, list, listtail, Path, into, opening, same_path, Cell, Row, columns_of, columns_of_each, opened_columns, clause_rows}
use Rattle.spec_rules.specs.Columns.{test_at}
use Rattle.spec_rules.specs.Splitting.{Test, without_test, open_row, covers, case_rows, default_rows}
use Rattle.spec_rules.specs.SplittingLaws.{All}
use Rattle.spec_match.specs.Lists.{all_append, all_front, all_back}
use Rattle.spec_match.specs.Paths.{same_path_sound}

-- "Integer, byte string, list and constructor of a several-constructor type become one column"
unfoldable pub is_test : Pat → Bool
is_test (discard m) = false
is_test (variable m x) = false
is_test (assign m x q) = false
is_test (integer m at w) = true
is_test (bytestring m at w) = true
is_test (listed m qs) = true
is_test (tailed m qs q) = true
is_test (constructor m a qs) = true
is_test (opened m o qs) = false

abbrev pub HasTest : Cell → Type 0
HasTest c = is_test c.pattern ≡ true

-- each test of the row is one: so it is in every row that a tree is built from
abbrev pub TestRow : Row → Type 0
TestRow r = All HasTest r.tests

abbrev pub cell : Path → Pat → Cell
cell p q = record { path = p; pattern = q }

-- ---- taking the test at p out of a row's tests
pub record Taken (p : Path) (q : Pat) (cs : List Cell) : Type 0 where
  pub front : List Cell
  pub back : List Cell
  pub whole : cs ≡ front ++ cell p q ∷ back
  pub rest : without_test p cs ≡ front ++ back

pub take_test : (p : Path) (cs : List Cell) (q : Pat) → test_at p cs ≡ some q → Taken p q cs
unfolding test_at without_test
take_test p [] q e = absurd (no_none q e)
  where
    no_none : (q : Pat) → ◌≡◌ {A = Option Pat} none (some q) → ⊥
    no_none q e = let z : false ≡ true = cc in false≢true z
take_test p (c ∷ cs) q e = go (same_path p c.path) refl (take_test p cs q)
  where
    same_pattern : (a b : Pat) → ◌≡◌ {A = Option Pat} (some a) (some b) → a ≡ b
    same_pattern a b e = cc

    go : (b : Bool) → same_path p c.path ≡ b → (test_at p cs ≡ some q → Taken p q cs) → Taken p q (c ∷ cs)
    go true s ih =
        record {
          front = [];
          back = cs;
          whole = λ i. record { path = sym (same_path_sound p c.path s) i; pattern = same_pattern c.pattern q (rw (s, test_at) at e) i } ∷ cs;
          rest = rw (s, without_test);
        }
    go false s ih =
        let o = ih (rw (s, test_at) at e) in
        record {
          front = c ∷ o.front;
          back = o.back;
          whole = ap (λ l. c ∷ l) o.whole;
          rest = rw (s, without_test) (ap (λ l. c ∷ l) o.rest);
        }

-- what holds of every test holds of the one taken, and of the others
pub taken_has : (P : Cell → Type 0) (p : Path) (q : Pat) (cs : List Cell) → Taken p q cs → All P cs → P (cell p q)
taken_has P p q cs o h = (all_back P o.front (cell p q ∷ o.back) (rw o.whole at h)).0

pub others_have : (P : Cell → Type 0) (p : Path) (q : Pat) (cs : List Cell) → Taken p q cs → All P cs → All P (without_test p cs)
others_have P p q cs o h =
    let g : All P (o.front ++ cell p q ∷ o.back) = rw o.whole at h in
    rw o.rest
    (all_append P o.front o.back (all_front P o.front (cell p q ∷ o.back) g) (all_back P o.front (cell p q ∷ o.back) g).1)

pub row_test : (p : Path) (q : Pat) (r : Row) → test_at p r.tests ≡ some q → TestRow r → is_test q ≡ true
row_test p q r x g = taken_has HasTest p q r.tests (take_test p r.tests q x) g

-- ---- the rows of clauses have tests, and so do the rows of a case and the default's
mutual
  unfolding columns_of is_test

  pub columns_of_test : (p : Path) (q : Pat) → All HasTest (columns_of p q)
  columns_of_test p (discard m) = tt
  columns_of_test p (variable m x) = tt
  columns_of_test p (assign m x q) = columns_of_test p q
  columns_of_test p (integer m at w) = (refl, tt)
  columns_of_test p (bytestring m at w) = (refl, tt)
  columns_of_test p (listed m qs) = (refl, tt)
  columns_of_test p (tailed m qs q) = (refl, tt)
  columns_of_test p (constructor m a qs) = (refl, tt)
  columns_of_test p (opened m o qs) = columns_of_each_test p (opening o m.type) 0 qs

  pub columns_of_each_test : (p : Path) (step : ℕ → Step) (i : ℕ) (qs : Pats) → All HasTest (columns_of_each p step i qs)
  columns_of_each_test p step i pnil = tt
  columns_of_each_test p step i (pcons q qs) =
      all_append HasTest (columns_of (into p (step i)) q) (columns_of_each p step (i + 1) qs) (columns_of_test (into p (step i)) q) (columns_of_each_test p step (i + 1) qs)

pub opened_columns_test : (p : Path) (q : Pat) → All HasTest (opened_columns p q)
unfolding opened_columns
opened_columns_test p (discard m) = tt
opened_columns_test p (variable m x) = tt
opened_columns_test p (assign m x q) = tt
opened_columns_test p (integer m at w) = tt
opened_columns_test p (bytestring m at w) = tt
opened_columns_test p (listed m qs) = columns_of_each_test p (λ i. list i m.type) 0 qs
opened_columns_test p (tailed m qs q) =
    all_append HasTest (columns_of_each p (λ i. list i m.type) 0 qs) (columns_of (into p (listtail (many qs) m.type)) q)
    (columns_of_each_test p (λ i. list i m.type) 0 qs) (columns_of_test (into p (listtail (many qs) m.type)) q)
opened_columns_test p (constructor m a qs) = columns_of_each_test p (λ i. constr i false m.type) 0 qs
opened_columns_test p (opened m o qs) = tt

pub clause_rows_test : (c : ℕ) (qs : List Pat) → All TestRow (clause_rows c qs)
unfolding clause_rows
clause_rows_test c [] = tt
clause_rows_test c (q ∷ qs) = (columns_of_test [] q, clause_rows_test (c + 1) qs)

-- What goes over from each row to the default's, or to a case's.
module _ (P Q : Row → Type 0) (p : Path) (wild : (r : Row) → test_at p r.tests ≡ none → P r → Q r) where
  pub default_all : (rs : List Row) → All P rs → All Q (default_rows p rs)
  unfolding default_rows
  default_all [] g = tt
  default_all (r ∷ rs) g = go (test_at p r.tests) refl (default_all rs g.1)
    where
      go : (o : Option Pat) → test_at p r.tests ≡ o → All Q (default_rows p rs) → All Q (default_rows p (r ∷ rs))
      go none x ih = rw (x, default_rows) (wild r x g.0, ih)
      go (some q) x ih = rw (x, default_rows) ih

  pub case_all : (t : Test) → ((r : Row) (q : Pat) → test_at p r.tests ≡ some q → covers q t ≡ true → P r → Q (open_row p q r))
      → (rs : List Row) → All P rs → All Q (case_rows p t rs)
  unfolding case_rows
  case_all t tested [] g = tt
  case_all t tested (r ∷ rs) g = go (test_at p r.tests) refl (case_all t tested rs g.1)
    where
      go : (o : Option Pat) → test_at p r.tests ≡ o → All Q (case_rows p t rs) → All Q (case_rows p t (r ∷ rs))
      go none x ih = rw (x, case_rows) (wild r x g.0, ih)
      go (some q) x ih = test (covers q t) refl
        where
          test : (b : Bool) → covers q t ≡ b → All Q (case_rows p t (r ∷ rs))
          test true y = rw (x, y, case_rows) (tested r q x y g.0, ih)
          test false y = rw (x, y, case_rows) ih

pub default_test : (p : Path) (rs : List Row) → All TestRow rs → All TestRow (default_rows p rs)
default_test p rs g = default_all TestRow TestRow p (λ r x h. h) rs g

pub case_test : (p : Path) (t : Test) (rs : List Row) → All TestRow rs → All TestRow (case_rows p t rs)
case_test p t rs g = case_all TestRow TestRow p (λ r x h. h) t open_test rs g
  where
    open_test : (r : Row) (q : Pat) → test_at p r.tests ≡ some q → covers q t ≡ true → TestRow r → TestRow (open_row p q r)
    open_test r q x y h =
        unfold open_row in (all_append HasTest (opened_columns p q) (without_test p r.tests) (opened_columns_test p q)
        (others_have HasTest p q r.tests (take_test p r.tests q x) h))
