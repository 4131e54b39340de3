-- A tree does not depend on how deep it may go, once that is at least the number of test places in its matrix; and that number is
-- what `plain_tree` hands over. So a tree has two equations, `tree_none` and `tree_some`, in the filters of rule 4, and nothing else
-- need be known of how it is built.
use Rattle.std.specs.Prelude.{ℕ, zero, suc, ◌+◌, ◌≤◌, ◌<◌, ◌≡◌, ◌⊎◌, Bool, ltb}
use Rattle.std.proofs.Common.{add-zero, zero-add, le_refl, arith, sym, ap₂, ◌∙◌, inl, inr, true≢false, ltb-true, ltb-false}
use Rattle.std.proofs.Math.Path.{refl, ap}
use Rattle.std.proofs.Math.Bool.{true, false, not}
use Rattle.std.proofs.lemmas.Bool.{false≢true}
use mathlib.Core.List.{List, [], ◌∷◌, ◌++◌}
use Rattle.std.proofs.Math.Option.{Option, none, some}
use Rattle.base_words.specs.Words.{both, either}
use Rattle.base_words.specs.WordsLaws.{both_true, both_second_false, either_first_true, either_second_true}
use Rattle.spec_rules.specs.Patterns.{Pat, Pats, discard, variable, assign, integer, bytestring, listed, tailed, constructor, opened, pnil, pcons, many}
use Rattle.spec_rules.specs.Rows.{Step, constr, list, listtail, Path, into, opening, Cell, Row, columns_of, columns_of_each, opened_columns, clause_rows}
use Rattle.spec_rules.specs.Columns.{union, columns, without, test_at, count, better, choice}
use Rattle.spec_rules.specs.Splitting.{Test, Constr, Int, Bytes, ListOf, ListWithTail, same_test, column, without_test, open_row, Group, Split, Met, is_met, cases_of, covers, default_rows, case_rows, case_opens, filtered, split_by_filters}
use Rattle.spec_rules.specs.SplittingLaws.{All, any_covers, same_test_refl, same_test_sound}
use Rattle.spec_rules.proofs.SplittingLaws.{case_covered, split_filters}
use Rattle.spec_rules.specs.Building.{Tree, Cases, switch, listswitch, cnil, ccons, leaf_of, has_list, is_tail_case, select, cases_by, node_by, tree_to, places, places_of, test_places, matrix_places, plain_tree}
use Rattle.spec_match.specs.Tests.{is_test, TestRow, cell, Taken, take_test, row_test, case_test, default_test}

-- ---- test places
pub test_places_append : (cs ds : List Cell) → test_places (cs ++ ds) ≡ test_places cs + test_places ds
unfolding test_places
test_places_append [] ds = sym (zero-add (test_places ds))
test_places_append (c ∷ cs) ds = let ih = test_places_append cs ds in omega arith

one_place : (p : Path) (q : Pat) → test_places (cell p q ∷ []) ≡ places q
unfolding test_places
one_place p q = add-zero (places q)

no_place : test_places [] ≡ 0
unfolding test_places
no_place = refl

mutual
  unfolding columns_of places

  pub columns_of_places : (p : Path) (q : Pat) → test_places (columns_of p q) ≡ places q
  columns_of_places p (discard m) = no_place
  columns_of_places p (variable m x) = no_place
  columns_of_places p (assign m x q) = columns_of_places p q
  columns_of_places p (integer m at w) = one_place p (integer m at w)
  columns_of_places p (bytestring m at w) = one_place p (bytestring m at w)
  columns_of_places p (listed m qs) = one_place p (listed m qs)
  columns_of_places p (tailed m qs q) = one_place p (tailed m qs q)
  columns_of_places p (constructor m a qs) = one_place p (constructor m a qs)
  columns_of_places p (opened m o qs) = columns_of_each_places p (opening o m.type) 0 qs

  pub columns_of_each_places : (p : Path) (step : ℕ → Step) (i : ℕ) (qs : Pats) → test_places (columns_of_each p step i qs) ≡ places_of qs
  columns_of_each_places p step i pnil = no_place
  columns_of_each_places p step i (pcons q qs) =
      test_places_append (columns_of (into p (step i)) q) (columns_of_each p step (i + 1) qs)
      ∙ ap₂ ◌+◌ (columns_of_places (into p (step i)) q) (columns_of_each_places p step (i + 1) qs)

-- a test that is opened is one place fewer
pub opened_columns_places : (p : Path) (q : Pat) → is_test q ≡ true → suc (test_places (opened_columns p q)) ≡ places q
unfolding opened_columns places is_test
opened_columns_places p (discard m) i = absurd (false≢true i)
opened_columns_places p (variable m x) i = absurd (false≢true i)
opened_columns_places p (assign m x q) i = absurd (false≢true i)
opened_columns_places p (integer m at w) i = ap suc no_place
opened_columns_places p (bytestring m at w) i = ap suc no_place
opened_columns_places p (listed m qs) i = ap suc (columns_of_each_places p (λ i. list i m.type) 0 qs)
opened_columns_places p (tailed m qs q) i =
    ap suc (test_places_append (columns_of_each p (λ i. list i m.type) 0 qs) (columns_of (into p (listtail (many qs) m.type)) q)
    ∙ ap₂ ◌+◌ (columns_of_each_places p (λ i. list i m.type) 0 qs) (columns_of_places (into p (listtail (many qs) m.type)) q))
opened_columns_places p (constructor m a qs) i = ap suc (columns_of_each_places p (λ i. constr i false m.type) 0 qs)
opened_columns_places p (opened m o qs) i = absurd (false≢true i)

taken_places : (p : Path) (q : Pat) (cs : List Cell) → Taken p q cs → test_places cs ≡ places q + test_places (without_test p cs)
taken_places p q cs o =
    let a : test_places cs ≡ test_places (o.front ++ cell p q ∷ o.back) = ap test_places o.whole in
    let b : test_places (without_test p cs) ≡ test_places (o.front ++ o.back) = ap test_places o.rest in
    let c : test_places (cell p q ∷ o.back) ≡ places q + test_places o.back = unfold test_places in refl in
    omega (arith, a, b, c, test_places_append o.front (cell p q ∷ o.back), test_places_append o.front o.back)

open_places : (p : Path) (q : Pat) (r : Row) → test_at p r.tests ≡ some q → TestRow r → test_places (open_row p q r).tests < test_places r.tests
unfolding open_row
open_places p q r x g =
    omega (
      arith,
      test_places_append (opened_columns p q) (without_test p r.tests),
      taken_places p q r.tests (take_test p r.tests q x),
      opened_columns_places p q (row_test p q r x g),
    )

pub matrix_places_first : (r : Row) (rs : List Row) → matrix_places (r ∷ rs) ≡ test_places r.tests + matrix_places rs
unfolding matrix_places
matrix_places_first r rs = refl

-- ---- a case has fewer test places, and so has the default
record CasePlaces (p : Path) (t : Test) (rs : List Row) : Type 0 where
  most : matrix_places (case_rows p t rs) ≤ matrix_places rs
  fewer : any_covers t (column p rs) ≡ true → matrix_places (case_rows p t rs) < matrix_places rs

case_places_of : (p : Path) (t : Test) (rs : List Row) → All TestRow rs → CasePlaces p t rs
unfolding case_rows column any_covers
case_places_of p t [] g = record { most = omega arith; fewer = λ e. absurd (false≢true e) }
case_places_of p t (r ∷ rs) g = go (test_at p r.tests) refl (case_places_of p t rs g.1)
  where
    go : (o : Option Pat) → test_at p r.tests ≡ o → CasePlaces p t rs → CasePlaces p t (r ∷ rs)
    go none x ih =
        record {
          most = rw (x, case_rows) (omega (arith, matrix_places_first r (case_rows p t rs), matrix_places_first r rs, ih.most));
          fewer = rw (x, case_rows, column) (λ a. omega (arith, matrix_places_first r (case_rows p t rs), matrix_places_first r rs, ih.fewer a));
        }
    go (some q) x ih = test (covers q t) refl
      where
        test : (b : Bool) → covers q t ≡ b → CasePlaces p t (r ∷ rs)
        test true y =
            let l : matrix_places (case_rows p t (r ∷ rs)) < matrix_places (r ∷ rs) =
            rw (x, y, case_rows) (omega (arith, matrix_places_first (open_row p q r) (case_rows p t rs), matrix_places_first r rs, ih.most, open_places p q r x g.0)) in
            record { most = omega (arith, l); fewer = λ a. l }
        test false y =
            record {
              most = rw (x, y, case_rows) (omega (arith, matrix_places_first r rs, ih.most));
              fewer = rw (x, case_rows, column) (rw y (λ a. omega (arith, matrix_places_first r rs, ih.fewer a)));
            }

default_most : (p : Path) (rs : List Row) → matrix_places (default_rows p rs) ≤ matrix_places rs
unfolding default_rows
default_most p [] = omega arith
default_most p (r ∷ rs) = go (test_at p r.tests) refl (default_most p rs)
  where
    go : (o : Option Pat) → test_at p r.tests ≡ o → matrix_places (default_rows p rs) ≤ matrix_places rs → matrix_places (default_rows p (r ∷ rs)) ≤ matrix_places (r ∷ rs)
    go none x ih = rw (x, default_rows) (omega (arith, matrix_places_first r (default_rows p rs), matrix_places_first r rs))
    go (some q) x ih = rw (x, default_rows) (omega (arith, matrix_places_first r rs))

default_fewer : (p : Path) (r : Row) (rs : List Row) (q : Pat) → test_at p r.tests ≡ some q → TestRow r → matrix_places (default_rows p (r ∷ rs)) < matrix_places (r ∷ rs)
unfolding default_rows
default_fewer p r rs q x g =
    rw (x, default_rows)
    (omega (
      arith,
      matrix_places_first r rs,
      default_most p rs,
      taken_places p q r.tests (take_test p r.tests q x),
      opened_columns_places p q (row_test p q r x g),
    ))

-- ---- the chosen column
pub count_first : (p : Path) (r : Row) (rs : List Row) → 0 < count p (r ∷ rs) → (q : Pat) × (test_at p r.tests ≡ some q)
unfolding count
count_first p r rs h = go (test_at p r.tests) refl
  where
    go : (o : Option Pat) → test_at p r.tests ≡ o → (q : Pat) × (test_at p r.tests ≡ some q)
    go none x = absurd (not_less (rw (x, count) at h))
      where
        not_less : 0 < 0 → ⊥
        not_less z = omega arith
    go (some q) x = (q, x)

better_some : (o : Option Path) (n : ℕ) (ps : List Path) (rs : List Row) (p : Path) → better o n ps rs ≡ some p → (o ≡ some p) ⊎ (0 < count p rs)
unfolding better
better_some o n [] rs p e = inl e
better_some o n (z ∷ ps) rs p e = go (ltb n (count z rs)) refl (better_some (some z) (count z rs) ps rs p) (better_some o n ps rs p)
  where
    same_path : (a b : Path) → ◌≡◌ {A = Option Path} (some a) (some b) → a ≡ b
    same_path a b y = cc

    go : (b : Bool) → ltb n (count z rs) ≡ b → (better (some z) (count z rs) ps rs ≡ some p → (some z ≡ some p) ⊎ (0 < count p rs))
        → (better o n ps rs ≡ some p → (o ≡ some p) ⊎ (0 < count p rs)) → (o ≡ some p) ⊎ (0 < count p rs)
    go true y ih jh = found (ih (rw (y, better) at e))
      where
        found : (◌≡◌ {A = Option Path} (some z) (some p)) ⊎ (0 < count p rs) → (o ≡ some p) ⊎ (0 < count p rs)
        found (inl a) = inr (rw (← same_path z p a) (omega (arith, ltb-true n (count z rs) y)))
        found (inr b) = inr b
    go false y ih jh = jh (rw (y, better) at e)

better_none : (o : Option Path) (n : ℕ) (ps : List Path) (rs : List Row) → better o n ps rs ≡ none → (o ≡ none) × All (λ p. count p rs ≤ n) ps
unfolding better
better_none o n [] rs e = (e, tt)
better_none o n (z ∷ ps) rs e = go (ltb n (count z rs)) refl (better_none (some z) (count z rs) ps rs) (better_none o n ps rs)
  where
    no_some : ◌≡◌ {A = Option Path} (some z) none → ⊥
    no_some y = let x : true ≡ false = cc in true≢false x

    go : (b : Bool) → ltb n (count z rs) ≡ b
        → (better (some z) (count z rs) ps rs ≡ none → (some z ≡ none) × All (λ p. count p rs ≤ count z rs) ps)
        → (better o n ps rs ≡ none → (o ≡ none) × All (λ p. count p rs ≤ n) ps) → (o ≡ none) × All (λ p. count p rs ≤ n) (z ∷ ps)
    go true y ih jh = absurd (no_some (ih (rw (y, better) at e)).0)
    go false y ih jh = let (a, b) = jh (rw (y, better) at e) in (a, (ltb-false n (count z rs) y, b))

no_path : (p : Path) → ◌≡◌ {A = Option Path} none (some p) → ⊥
no_path p e = let x : false ≡ true = cc in false≢true x

-- "All counts 0: a leaf"; else the first row has a test in the chosen column
pub choice_none : (ps : List Path) (rs : List Row) → choice ps rs ≡ none → All (λ p. count p rs ≤ 0) ps
unfolding choice
choice_none ps rs e = (better_none none 0 ps rs e).1

pub choice_counts : (ps : List Path) (rs : List Row) (p : Path) → choice ps rs ≡ some p → 0 < count p rs
unfolding choice
choice_counts ps rs p e = go (better_some none 0 ps rs p e)
  where
    go : (◌≡◌ {A = Option Path} none (some p)) ⊎ (0 < count p rs) → 0 < count p rs
    go (inl a) = absurd (no_path p a)
    go (inr b) = b

pub choice_nothing : (ps : List Path) → choice ps [] ≡ none
choice_nothing ps = go (choice ps []) refl
  where
    none_counts : (p : Path) → count p [] ≡ 0
    none_counts p = unfold count in refl

    go : (o : Option Path) → choice ps [] ≡ o → choice ps [] ≡ none
    go none x = x
    go (some p) x = absurd (omega (arith, choice_counts ps [] p x, none_counts p))

pub choice_first : (ps : List Path) (r : Row) (rs : List Row) (p : Path) → choice ps (r ∷ rs) ≡ some p → (q : Pat) × (test_at p r.tests ≡ some q)
choice_first ps r rs p e = count_first p r rs (choice_counts ps (r ∷ rs) p e)

-- LEMMA: "the number of untested columns' pattern places falls"
pub case_places : (p : Path) (t : Test) (rs : List Row) → All TestRow rs → is_met t (cases_of (column p rs)) ≡ true → matrix_places (case_rows p t rs) < matrix_places rs
case_places p t rs g s = (case_places_of p t rs g).fewer (case_covered t (column p rs) s)

pub default_places : (ps : List Path) (rs : List Row) (p : Path) → All TestRow rs → choice ps rs ≡ some p → matrix_places (default_rows p rs) < matrix_places rs
default_places ps [] p g e = absurd (no_path p (sym (choice_nothing ps) ∙ e))
default_places ps (r ∷ rs) p g e = let (q, x) = choice_first ps r rs p e in default_fewer p r rs q x g.0

-- ---- a switch by the filters
-- the cases with these tests, each with the tree that f gives its test
unfoldable pub cases_on : (Test → Tree) → List Met → Cases
cases_on f [] = cnil
cases_on f (m ∷ ms) = ccons m.test m.start (f m.test) (cases_on f ms)

unfoldable pub is_tail : Test → Bool
is_tail (Constr a) = false
is_tail (Int w) = false
is_tail (Bytes w) = false
is_tail (ListOf n) = false
is_tail (ListWithTail n) = true

unfoldable pub only : (Test → Bool) → List Met → List Met
only f [] = []
only f (m ∷ ms) = elim (f m.test) [ true ↦ m ∷ only f ms | false ↦ only f ms ]

abbrev pub is_exact : Test → Bool
is_exact t = not (is_tail t)

-- the switch at p on a column of the patterns qs
unfoldable pub node_on : Path → List Pat → (Test → Tree) → Tree → Tree
unfolding has_list cases_of cases_on is_tail only
node_on p qs f d =
    elim (has_list qs) [
      | true ↦ listswitch p (cases_on f (only is_exact (cases_of qs))) (cases_on f (only is_tail (cases_of qs))) d
      | false ↦ switch p (cases_on f (cases_of qs)) d
    ]

-- "Specialized columns, sorted alike, stand before the rest"
unfoldable pub case_columns : Path → Test → List Path → List Row → List Path
unfolding union case_opens without
case_columns p t ps rs = union (case_opens p t rs) ++ without p ps

module _ (p : Path) (rs : List Row) (f : List Cell → List Row → Tree) where
  abbrev of_group : Group → Tree
  of_group g = f g.opens g.rows

  abbrev of_test : Test → Tree
  of_test t = f (case_opens p t rs) (case_rows p t rs)

  cases_by_filtered : (ms : List Met) → cases_by of_group (filtered p rs ms) ≡ cases_on of_test ms
  unfolding cases_by filtered cases_on
  cases_by_filtered [] = refl
  cases_by_filtered (m ∷ ms) = ap (ccons m.test m.start (of_test m.test)) (cases_by_filtered ms)

  -- the groups that g holds of, where g goes by the test
  select_filtered : (g : Group → Bool) (h : Test → Bool) → ((x : Group) → g x ≡ h x.test) → (ms : List Met) → select g (filtered p rs ms) ≡ filtered p rs (only h ms)
  unfolding select filtered only
  select_filtered g h e [] = refl
  select_filtered g h e (m ∷ ms) = go (h m.test) refl (select_filtered g h e ms)
    where
      group : Group
      group = record { test = m.test; start = m.start; opens = case_opens p m.test rs; rows = case_rows p m.test rs }

      go : (b : Bool) → h m.test ≡ b → select g (filtered p rs ms) ≡ filtered p rs (only h ms) → select g (filtered p rs (m ∷ ms)) ≡ filtered p rs (only h (m ∷ ms))
      go true x ih = let y : g group ≡ true = e group ∙ x in rw (x, only) (rw (y, select) (ap (λ z. group ∷ z) ih))
      go false x ih = let y : g group ≡ false = e group ∙ x in rw (x, only) (rw (y, select) ih)

  tail_by_test : (x : Group) → is_tail_case x ≡ is_tail x.test
  tail_by_test x = go x.test refl
    where
      go : (t : Test) → x.test ≡ t → is_tail_case x ≡ is_tail x.test
      go (Constr a) e = unfold is_tail_case is_tail in (rw (e, is_tail_case))
      go (Int w) e = unfold is_tail_case is_tail in (rw (e, is_tail_case))
      go (Bytes w) e = unfold is_tail_case is_tail in (rw (e, is_tail_case))
      go (ListOf n) e = unfold is_tail_case is_tail in (rw (e, is_tail_case))
      go (ListWithTail n) e = unfold is_tail_case is_tail in (rw (e, is_tail_case))

  node_by_filtered : (qs : List Pat) (d : Tree) → node_by p (has_list qs) of_group (filtered p rs (cases_of qs)) d ≡ node_on p qs of_test d
  unfolding node_by node_on
  node_by_filtered qs d = go (has_list qs) refl
    where
      go : (b : Bool) → has_list qs ≡ b → node_by p (has_list qs) of_group (filtered p rs (cases_of qs)) d ≡ node_on p qs of_test d
      go true x =
          rw (x, node_on)
          (ap₂ (λ (cs ts : Cases). listswitch p cs ts d)
          (ap (cases_by of_group) (select_filtered (λ g. not (is_tail_case g)) is_exact (λ g. ap not (tail_by_test g)) (cases_of qs)) ∙ cases_by_filtered (only is_exact (cases_of qs)))
          (ap (cases_by of_group) (select_filtered is_tail_case is_tail tail_by_test (cases_of qs)) ∙ cases_by_filtered (only is_tail (cases_of qs))))
      go false x = rw (x, node_on) (ap (λ cs. switch p cs d) (cases_by_filtered (cases_of qs)))

-- ---- a test among the cases that f holds of; two ways to grow the cases that agree
pub is_met_only : (f : Test → Bool) (t : Test) (ms : List Met) → is_met t (only f ms) ≡ both (f t) (is_met t ms)
unfolding is_met only
is_met_only f t [] = sym (both_second_false (f t) false refl)
is_met_only f t (m ∷ ms) = go (f m.test) refl (same_test t m.test) refl (is_met_only f t ms)
  where
    as_first : same_test t m.test ≡ true → f t ≡ f m.test
    as_first s = ap f (same_test_sound t m.test s)

    go : (b : Bool) → f m.test ≡ b → (c : Bool) → same_test t m.test ≡ c → is_met t (only f ms) ≡ both (f t) (is_met t ms)
        → is_met t (only f (m ∷ ms)) ≡ both (f t) (either (same_test t m.test) (is_met t ms))
    go true x true s ih = rw (x, only) (rw (s, as_first s, x))
    go true x false s ih = rw (x, only) (rw s ih)
    go false x true s ih = let y : f t ≡ false = as_first s ∙ x in rw (x, only) (ih ∙ rw y)
    go false x false s ih = rw (x, only) (rw s ih)

pub met_here : (m : Met) (ms : List Met) → is_met m.test (m ∷ ms) ≡ true
unfolding is_met
met_here m ms = either_first_true (same_test m.test m.test) (is_met m.test ms) (same_test_refl m.test)

pub met_there : (t : Test) (m : Met) (ms : List Met) → is_met t ms ≡ true → is_met t (m ∷ ms) ≡ true
unfolding is_met
met_there t m ms e = either_second_true (same_test t m.test) (is_met t ms) e

cases_on_agree : (f g : Test → Tree) (ms : List Met) → ((t : Test) → is_met t ms ≡ true → f t ≡ g t) → cases_on f ms ≡ cases_on g ms
unfolding cases_on
cases_on_agree f g [] h = refl
cases_on_agree f g (m ∷ ms) h =
    ap₂ (ccons m.test m.start) (h m.test (met_here m ms)) (cases_on_agree f g ms (λ t e. h t (met_there t m ms e)))

pub only_met : (f : Test → Bool) (t : Test) (ms : List Met) → is_met t (only f ms) ≡ true → is_met t ms ≡ true
only_met f t ms e = (both_true (f t) (is_met t ms) (sym (is_met_only f t ms) ∙ e)).1

node_on_agree : (p : Path) (qs : List Pat) (f g : Test → Tree) (d e : Tree) → ((t : Test) → is_met t (cases_of qs) ≡ true → f t ≡ g t) → d ≡ e → node_on p qs f d ≡ node_on p qs g e
unfolding node_on
node_on_agree p qs f g d e h k = go (has_list qs) refl
  where
    go : (b : Bool) → has_list qs ≡ b → node_on p qs f d ≡ node_on p qs g e
    go true x =
        rw (x, node_on)
        (λ i. listswitch p
        (cases_on_agree f g (only is_exact (cases_of qs)) (λ t s. h t (only_met is_exact t (cases_of qs) s)) i)
        (cases_on_agree f g (only is_tail (cases_of qs)) (λ t s. h t (only_met is_tail t (cases_of qs) s)) i) (k i))
    go false x = rw (x, node_on) (λ i. switch p (cases_on_agree f g (cases_of qs) h i) (k i))

-- ---- the equations of `tree_to`
pub tree_to_none : (deep : ℕ) (ps : List Path) (rs : List Row) → choice ps rs ≡ none → tree_to deep ps rs ≡ leaf_of rs
unfolding tree_to
tree_to_none zero ps rs x = refl
tree_to_none (suc deep) ps rs x = rw (x, tree_to)

pub tree_to_some : (deep : ℕ) (ps : List Path) (rs : List Row) (p : Path) → choice ps rs ≡ some p
    → tree_to (suc deep) ps rs
    ≡ node_on p (column p rs) (λ t. tree_to deep (case_columns p t ps rs) (case_rows p t rs)) (tree_to deep (without p ps) (default_rows p rs))
unfolding tree_to case_columns
tree_to_some deep ps rs p x =
    rw (x, tree_to)
    (ap (λ (s : Split). node_by p (has_list (column p rs)) (of_group p rs sub) s.groups (tree_to deep (without p ps) s.rest)) (split_filters p rs ∙ by_filters)
    ∙ node_by_filtered p rs sub (column p rs) (tree_to deep (without p ps) (default_rows p rs)))
  where
    sub : List Cell → List Row → Tree
    sub cs ss = tree_to deep (union cs ++ without p ps) ss

    by_filters : split_by_filters p rs ≡ record { rest = default_rows p rs; groups = filtered p rs (cases_of (column p rs)) }
    by_filters = unfold split_by_filters in refl

-- where no test place is left no column is chosen
no_choice : (ps : List Path) (rs : List Row) → All TestRow rs → matrix_places rs ≤ 0 → choice ps rs ≡ none
no_choice ps rs g l = go (choice ps rs) refl
  where
    go : (o : Option Path) → choice ps rs ≡ o → choice ps rs ≡ none
    go none x = x
    go (some p) x = absurd (omega (arith, default_places ps rs p g x))

-- LEMMA: a tree of enough depth is one tree
pub enough_depth : (m n : ℕ) (ps : List Path) (rs : List Row) → All TestRow rs → matrix_places rs ≤ m → matrix_places rs ≤ n → tree_to m ps rs ≡ tree_to n ps rs
enough_depth zero n ps rs g l k = let x = no_choice ps rs g l in tree_to_none zero ps rs x ∙ sym (tree_to_none n ps rs x)
enough_depth (suc m) zero ps rs g l k = let x = no_choice ps rs g k in tree_to_none (suc m) ps rs x ∙ sym (tree_to_none zero ps rs x)
enough_depth (suc m) (suc n) ps rs g l k = go (choice ps rs) refl (enough_depth m n)
  where
    go : (o : Option Path) → choice ps rs ≡ o
        → ((ps : List Path) (rs : List Row) → All TestRow rs → matrix_places rs ≤ m → matrix_places rs ≤ n → tree_to m ps rs ≡ tree_to n ps rs)
        → tree_to (suc m) ps rs ≡ tree_to (suc n) ps rs
    go none x ih = tree_to_none (suc m) ps rs x ∙ sym (tree_to_none (suc n) ps rs x)
    go (some p) x ih =
        tree_to_some m ps rs p x
        ∙ node_on_agree p (column p rs)
        (λ t. tree_to m (case_columns p t ps rs) (case_rows p t rs)) (λ t. tree_to n (case_columns p t ps rs) (case_rows p t rs))
        (tree_to m (without p ps) (default_rows p rs)) (tree_to n (without p ps) (default_rows p rs))
        (λ t s. let z = case_places p t rs g s in ih (case_columns p t ps rs) (case_rows p t rs) (case_test p t rs g) (omega arith) (omega arith))
        (let z = default_places ps rs p g x in ih (without p ps) (default_rows p rs) (default_test p rs g) (omega arith) (omega arith))
        ∙ sym (tree_to_some n ps rs p x)

-- ---- the tree of a matrix
unfoldable pub matrix_tree : List Path → List Row → Tree
unfolding tree_to matrix_places
matrix_tree ps rs = tree_to (matrix_places rs) ps rs

pub plain_tree_matrix : (qs : List Pat) → plain_tree qs ≡ matrix_tree (columns (clause_rows 0 qs)) (clause_rows 0 qs)
unfolding plain_tree matrix_tree
plain_tree_matrix qs = refl

-- what is deep enough gives the tree of the matrix
pub tree_to_matrix : (deep : ℕ) (ps : List Path) (rs : List Row) → All TestRow rs → matrix_places rs ≤ deep → tree_to deep ps rs ≡ matrix_tree ps rs
unfolding matrix_tree
tree_to_matrix deep ps rs g l = enough_depth deep (matrix_places rs) ps rs g l (le_refl (matrix_places rs))

pub tree_none : (ps : List Path) (rs : List Row) → choice ps rs ≡ none → matrix_tree ps rs ≡ leaf_of rs
unfolding matrix_tree
tree_none ps rs x = tree_to_none (matrix_places rs) ps rs x

pub tree_some : (ps : List Path) (rs : List Row) (p : Path) → All TestRow rs → choice ps rs ≡ some p
    → matrix_tree ps rs
    ≡ node_on p (column p rs) (λ t. matrix_tree (case_columns p t ps rs) (case_rows p t rs)) (matrix_tree (without p ps) (default_rows p rs))
unfolding matrix_tree
tree_some ps rs p g x = go (matrix_places rs) refl
  where
    other : Tree
    other = matrix_tree (without p ps) (default_rows p rs)

    go : (n : ℕ) → matrix_places rs ≡ n
        → tree_to (matrix_places rs) ps rs ≡ node_on p (column p rs) (λ t. matrix_tree (case_columns p t ps rs) (case_rows p t rs)) other
    go zero e = absurd (omega (arith, default_places ps rs p g x))
    go (suc n) e =
        ap (λ deep. tree_to deep ps rs) e
        ∙ tree_to_some n ps rs p x
        ∙ node_on_agree p (column p rs)
        (λ t. tree_to n (case_columns p t ps rs) (case_rows p t rs)) (λ t. matrix_tree (case_columns p t ps rs) (case_rows p t rs))
        (tree_to n (without p ps) (default_rows p rs)) other
        (λ t s. let z = case_places p t rs g s in tree_to_matrix n (case_columns p t ps rs) (case_rows p t rs) (case_test p t rs g) (omega arith))
        (let z = default_places ps rs p g x in tree_to_matrix n (without p ps) (default_rows p rs) (default_test p rs g) (omega arith))

-- INDUCTION over the matrices that a tree is built from: what holds of a leaf where no column is chosen, and of a switch if it holds
-- of its cases and of its default, holds of every tree.
module _ (P : List Path → List Row → Tree → Type 0)
    (at_leaf : (ps : List Path) (rs : List Row) → choice ps rs ≡ none → P ps rs (leaf_of rs))
    (at_node : (ps : List Path) (rs : List Row) (p : Path) → All TestRow rs → choice ps rs ≡ some p
    → ((t : Test) → is_met t (cases_of (column p rs)) ≡ true → P (case_columns p t ps rs) (case_rows p t rs) (matrix_tree (case_columns p t ps rs) (case_rows p t rs)))
    → P (without p ps) (default_rows p rs) (matrix_tree (without p ps) (default_rows p rs))
    → P ps rs (node_on p (column p rs) (λ t. matrix_tree (case_columns p t ps rs) (case_rows p t rs)) (matrix_tree (without p ps) (default_rows p rs)))) where
  tree_below : (n : ℕ) (ps : List Path) (rs : List Row) → All TestRow rs → matrix_places rs < n → P ps rs (matrix_tree ps rs)
  tree_below zero ps rs g l = absurd (omega arith)
  tree_below (suc n) ps rs g l = go (choice ps rs) refl (tree_below n)
    where
      go : (o : Option Path) → choice ps rs ≡ o
          → ((ps : List Path) (rs : List Row) → All TestRow rs → matrix_places rs < n → P ps rs (matrix_tree ps rs)) → P ps rs (matrix_tree ps rs)
      go none x ih = rw (tree_none ps rs x) (at_leaf ps rs x)
      go (some p) x ih =
          rw (tree_some ps rs p g x)
          (at_node ps rs p g x
          (λ t s. let z = case_places p t rs g s in ih (case_columns p t ps rs) (case_rows p t rs) (case_test p t rs g) (omega arith))
          (let z = default_places ps rs p g x in ih (without p ps) (default_rows p rs) (default_test p rs g) (omega arith)))

  pub tree_induction : (ps : List Path) (rs : List Row) → All TestRow rs → P ps rs (matrix_tree ps rs)
  tree_induction ps rs g = tree_below (suc (matrix_places rs)) ps rs g (le_refl (suc (matrix_places rs)))
