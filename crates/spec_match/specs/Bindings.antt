-- What is the same up to order, and the bindings of a pattern: all of them, wherever they stand in it, and those that a row has
-- collected beside those that are still inside its tests. Opening a test moves bindings and loses none.
use Rattle.std.specs.Prelude.{ℕ, ◌+◌, ◌≡◌, true, length}
use Rattle.std.proofs.Common.{zero-add, ap, ◌∙◌}
use native.Mathlib.Omega.{arith}
use Rattle.std.proofs.Math.Path.{refl, sym}
use Rattle.std.proofs.Math.Bool.{false}
use Rattle.std.proofs.lemmas.Bool.{false≢true}
use mathlib.Core.List.{List, [], ◌∷◌, ◌++◌}
use Rattle.std.proofs.Math.Option.{some}
use Rattle.spec_rules.specs.Patterns.{Pat, Pats, discard, variable, assign, integer, bytestring, listed, tailed, constructor, opened, pnil, pcons, many}
use Rattle.spec_rules.specs.Rows.{Step, constr, list, listtail, Path, into, opening, Binding, Cell, Row, columns_of, columns_of_each, bindings_of, bindings_of_each, opened_columns, opened_bindings, clause_row}
use Rattle.spec_rules.specs.Columns.{test_at}
use Rattle.spec_rules.specs.Splitting.{without_test, open_row}
use Rattle.spec_match.specs.Tests.{is_test, TestRow, cell, Taken, take_test, row_test}

-- ---- the same up to order: each way of weighing the elements gives both lists one sum
module _ {A : Type 0} where
  unfoldable pub total : (A → ℕ) → List A → ℕ
  total f [] = 0
  total f (x ∷ xs) = f x + total f xs

  abbrev pub SameUpToOrder : List A → List A → Type 0
  SameUpToOrder xs ys = (f : A → ℕ) → total f xs ≡ total f ys

  pub total_append : (f : A → ℕ) (xs ys : List A) → total f (xs ++ ys) ≡ total f xs + total f ys
  unfolding total
  total_append f [] ys = sym (zero-add (total f ys))
  total_append f (x ∷ xs) ys = let ih = total_append f xs ys in omega arith

  pub total_none : (f : A → ℕ) → total f [] ≡ 0
  unfolding total
  total_none f = refl

  pub total_first : (f : A → ℕ) (x : A) (xs : List A) → total f (x ∷ xs) ≡ f x + total f xs
  unfolding total
  total_first f x xs = refl

  pub length_total : (xs : List A) → length xs ≡ total (λ x. 1) xs
  unfolding total
  length_total [] = refl
  length_total (x ∷ xs) = let ih = length_total xs in omega arith

  -- lists that are the same up to order have the same length
  pub same_length : (xs ys : List A) → SameUpToOrder xs ys → length xs ≡ length ys
  same_length xs ys s = length_total xs ∙ s (λ x. 1) ∙ sym (length_total ys)

-- ---- all bindings of a pattern at p, from left to right
unfoldable mutual
  unfolding into opening many

  pub all_bindings : Path → Pat → List Binding
  all_bindings p (discard m) = []
  all_bindings p (variable m x) = record { name = x; path = p } ∷ []
  all_bindings p (assign m x q) = record { name = x; path = p } ∷ all_bindings p q
  all_bindings p (integer m at w) = []
  all_bindings p (bytestring m at w) = []
  all_bindings p (listed m qs) = all_bindings_of_each p (λ i. list i m.type) 0 qs
  all_bindings p (tailed m qs q) = all_bindings_of_each p (λ i. list i m.type) 0 qs ++ all_bindings (into p (listtail (many qs) m.type)) q
  all_bindings p (constructor m a qs) = all_bindings_of_each p (λ i. constr i false m.type) 0 qs
  all_bindings p (opened m o qs) = all_bindings_of_each p (opening o m.type) 0 qs

  pub all_bindings_of_each : Path → (ℕ → Step) → ℕ → Pats → List Binding
  all_bindings_of_each p step i pnil = []
  all_bindings_of_each p step i (pcons q qs) = all_bindings (into p (step i)) q ++ all_bindings_of_each p step (i + 1) qs

-- what is still inside the tests of a row
unfoldable pub bindings_inside : List Cell → List Binding
unfolding all_bindings
bindings_inside [] = []
bindings_inside (c ∷ cs) = all_bindings c.path c.pattern ++ bindings_inside cs

abbrev pub row_bindings : Row → List Binding
row_bindings r = r.bindings ++ bindings_inside r.tests

module _ (f : Binding → ℕ) where
  inside_append : (cs ds : List Cell) → total f (bindings_inside (cs ++ ds)) ≡ total f (bindings_inside cs) + total f (bindings_inside ds)
  unfolding bindings_inside
  inside_append [] ds = omega (arith, total_none f)
  inside_append (c ∷ cs) ds =
      omega (
        arith,
        total_append f (all_bindings c.path c.pattern) (bindings_inside (cs ++ ds)),
        total_append f (all_bindings c.path c.pattern) (bindings_inside cs),
        inside_append cs ds,
      )

  inside_none : total f (bindings_inside []) ≡ 0
  unfolding bindings_inside
  inside_none = total_none f

  inside_first : (p : Path) (q : Pat) (cs : List Cell) → total f (bindings_inside (cell p q ∷ cs)) ≡ total f (all_bindings p q) + total f (bindings_inside cs)
  unfolding bindings_inside
  inside_first p q cs = total_append f (all_bindings p q) (bindings_inside cs)

  one_test : (p : Path) (q : Pat) → total f (all_bindings p q) ≡ total f [] + total f (bindings_inside (cell p q ∷ []))
  one_test p q = omega (arith, total_none f, inside_first p q [], inside_none)

  mutual
    unfolding columns_of bindings_of all_bindings

    pub all_bindings_total : (p : Path) (q : Pat) → total f (all_bindings p q) ≡ total f (bindings_of p q) + total f (bindings_inside (columns_of p q))
    all_bindings_total p (discard m) = omega (arith, total_none f, inside_none)
    all_bindings_total p (variable m x) = omega (arith, inside_none)
    all_bindings_total p (assign m x q) =
        omega (
          arith,
          total_first f (record { name = x; path = p }) (all_bindings p q),
          total_first f (record { name = x; path = p }) (bindings_of p q),
          all_bindings_total p q,
        )
    all_bindings_total p (integer m at w) = one_test p (integer m at w)
    all_bindings_total p (bytestring m at w) = one_test p (bytestring m at w)
    all_bindings_total p (listed m qs) = one_test p (listed m qs)
    all_bindings_total p (tailed m qs q) = one_test p (tailed m qs q)
    all_bindings_total p (constructor m a qs) = one_test p (constructor m a qs)
    all_bindings_total p (opened m o qs) = all_bindings_of_each_total p (opening o m.type) 0 qs

    pub all_bindings_of_each_total : (p : Path) (step : ℕ → Step) (i : ℕ) (qs : Pats)
        → total f (all_bindings_of_each p step i qs) ≡ total f (bindings_of_each p step i qs) + total f (bindings_inside (columns_of_each p step i qs))
    all_bindings_of_each_total p step i pnil = omega (arith, total_none f, inside_none)
    all_bindings_of_each_total p step i (pcons q qs) =
        omega (
          arith,
          total_append f (all_bindings (into p (step i)) q) (all_bindings_of_each p step (i + 1) qs),
          total_append f (bindings_of (into p (step i)) q) (bindings_of_each p step (i + 1) qs),
          inside_append (columns_of (into p (step i)) q) (columns_of_each p step (i + 1) qs),
          all_bindings_total (into p (step i)) q,
          all_bindings_of_each_total p step (i + 1) qs,
        )

  opened_total : (p : Path) (q : Pat) → is_test q ≡ true → total f (all_bindings p q) ≡ total f (opened_bindings p q) + total f (bindings_inside (opened_columns p q))
  unfolding opened_columns opened_bindings all_bindings is_test
  opened_total p (discard m) i = absurd (false≢true i)
  opened_total p (variable m x) i = absurd (false≢true i)
  opened_total p (assign m x q) i = absurd (false≢true i)
  opened_total p (integer m at w) i = omega (arith, total_none f, inside_none)
  opened_total p (bytestring m at w) i = omega (arith, total_none f, inside_none)
  opened_total p (listed m qs) i = all_bindings_of_each_total p (λ i. list i m.type) 0 qs
  opened_total p (tailed m qs q) i =
      omega (
        arith,
        total_append f (all_bindings_of_each p (λ i. list i m.type) 0 qs) (all_bindings (into p (listtail (many qs) m.type)) q),
        total_append f (bindings_of_each p (λ i. list i m.type) 0 qs) (bindings_of (into p (listtail (many qs) m.type)) q),
        inside_append (columns_of_each p (λ i. list i m.type) 0 qs) (columns_of (into p (listtail (many qs) m.type)) q),
        all_bindings_of_each_total p (λ i. list i m.type) 0 qs,
        all_bindings_total (into p (listtail (many qs) m.type)) q,
      )
  opened_total p (constructor m a qs) i = all_bindings_of_each_total p (λ i. constr i false m.type) 0 qs
  opened_total p (opened m o qs) i = absurd (false≢true i)

  taken_total : (p : Path) (q : Pat) (cs : List Cell) → Taken p q cs → total f (bindings_inside cs) ≡ total f (all_bindings p q) + total f (bindings_inside (without_test p cs))
  taken_total p q cs o =
      let a : total f (bindings_inside cs) ≡ total f (bindings_inside (o.front ++ cell p q ∷ o.back)) = ap (λ l. total f (bindings_inside l)) o.whole in
      let b : total f (bindings_inside (without_test p cs)) ≡ total f (bindings_inside (o.front ++ o.back)) = ap (λ l. total f (bindings_inside l)) o.rest in
      omega (arith, a, b, inside_append o.front (cell p q ∷ o.back), inside_append o.front o.back, inside_first p q o.back)

-- LEMMA: a row has the same bindings when its test is opened
pub open_bindings : (p : Path) (q : Pat) (r : Row) → test_at p r.tests ≡ some q → TestRow r → SameUpToOrder (row_bindings (open_row p q r)) (row_bindings r)
unfolding open_row
open_bindings p q r x g f =
    omega (
      arith,
      total_append f (r.bindings ++ opened_bindings p q) (bindings_inside (opened_columns p q ++ without_test p r.tests)),
      total_append f r.bindings (opened_bindings p q),
      inside_append f (opened_columns p q) (without_test p r.tests),
      total_append f r.bindings (bindings_inside r.tests),
      taken_total f p q r.tests (take_test p r.tests q x),
      opened_total f p q (row_test p q r x g),
    )

pub clause_bindings : (c : ℕ) (q : Pat) → SameUpToOrder (row_bindings (clause_row c q)) (all_bindings [] q)
unfolding clause_row
clause_bindings c q f = omega (arith, total_append f (bindings_of [] q) (bindings_inside (columns_of [] q)), all_bindings_total f [] q)

-- a row with no test has collected all its bindings
pub collected : (r : Row) → r.tests ≡ [] → SameUpToOrder r.bindings (row_bindings r)
collected r e f =
    let z : total f (bindings_inside r.tests) ≡ total f (bindings_inside []) = ap (λ l. total f (bindings_inside l)) e in
    omega (arith, z, total_append f r.bindings (bindings_inside r.tests), inside_none f)
