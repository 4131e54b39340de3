-- A built tree is plain and well made: it has no hoist, its leaves are of the sheet's clauses, each switch has a case, and only a default is absent.
-- Rests on rules 1 to 4 by what they keep: each row of a matrix is of a clause, and tests what can be tested.
use Rattle.std.specs.Prelude.{◌≡◌, Bool, leb, ltb}
use Rattle.std.proofs.Math.Path.{refl, ap}
use Rattle.std.proofs.Common.{sym, ◌∙◌, subst, zero-add, length-append, leb-true, ltb-true}
use Rattle.std.proofs.Math.Bool.{true, false, not}
use Rattle.std.proofs.lemmas.Bool.{false≢true}
use mathlib.Core.List.{List, [], ◌∷◌, ◌++◌}
use Rattle.std.proofs.Math.Option.{Option, none, some}
use Prim.Native.Nat.{ℕ, zero, suc, ◌+◌, ◌-◌, ◌≤◌, ◌<◌}
use native.Mathlib.Omega.{arith}
use Rattle.std.proofs.Math.ListN.{length}
use Rattle.spec_rules.specs.Patterns.{Pat, Pats, discard, variable, assign, integer, bytestring, listed, tailed, constructor, opened, pnil, pcons, many}
use Rattle.spec_rules.specs.Rows.{Step, list, listtail, constr, Path, same_path, Cell, Row, into, opening, columns_of, columns_of_each, clause_row, clause_rows, opened_columns}
use Rattle.spec_rules.specs.Columns.{test_at, count, better, choice, columns, union, without}
use Rattle.spec_rules.specs.Splitting.{Test, ListOf, ListWithTail, same_test, rising, joined, tailless_length, tailed_length, larger, longest, column, without_test, open_row, Group, Split, add_row, join, join_each, add_to_all, go_down, split}
use Rattle.spec_rules.specs.Building.{Tree, leaf_of, has_list, is_tail_case, select, cases_by, node_by, tree_to, matrix_places, plain_tree}
use Rattle.spec_rules.specs.Hoisting.{how_many}
use Rattle.spec_hoist.specs.Trees.{Plain, PlainOf, is_present, WellMade, WellMadeOf}

-- ---- building, a level at a time
tree_to_zero : (ps : List Path) (rs : List Row) → tree_to zero ps rs ≡ leaf_of rs
unfolding tree_to
tree_to_zero ps rs = refl

tree_to_none : (deep : ℕ) (ps : List Path) (rs : List Row) → choice ps rs ≡ none → tree_to (suc deep) ps rs ≡ leaf_of rs
unfolding tree_to
tree_to_none deep ps rs e = rw (tree_to, e)

-- the tree of a case
case_tree : ℕ → List Path → Path → Group → Tree
case_tree deep ps p g = tree_to deep (union g.opens ++ without p ps) g.rows

tree_to_some : (deep : ℕ) (ps : List Path) (rs : List Row) (p : Path) → choice ps rs ≡ some p
    → tree_to (suc deep) ps rs ≡ node_by p (has_list (column p rs)) (case_tree deep ps p) (split p rs).groups (tree_to deep (without p ps) (split p rs).rest)
unfolding tree_to case_tree
tree_to_some deep ps rs p e = rw (tree_to, e)

-- ---- a built tree is plain
leaf_of_plain : (rs : List Row) → Plain (leaf_of rs)
unfolding leaf_of Plain
leaf_of_plain [] = tt
leaf_of_plain (r ∷ rs) = tt

cases_by_plain : (f : Group → Tree) → ((g : Group) → Plain (f g)) → (gs : List Group) → PlainOf (cases_by f gs)
unfolding cases_by Plain
cases_by_plain f h [] = tt
cases_by_plain f h (g ∷ gs) = (h g, cases_by_plain f h gs)

node_by_plain : (p : Path) (b : Bool) (f : Group → Tree) (gs : List Group) (d : Tree) → ((g : Group) → Plain (f g)) → Plain d → Plain (node_by p b f gs d)
unfolding node_by Plain
node_by_plain p true f gs d h k = (cases_by_plain f h (select (λ g. not (is_tail_case g)) gs), cases_by_plain f h (select is_tail_case gs), k)
node_by_plain p false f gs d h k = (cases_by_plain f h gs, k)

tree_to_plain : (deep : ℕ) (ps : List Path) (rs : List Row) → Plain (tree_to deep ps rs)
tree_to_plain zero ps rs = rw (tree_to_zero ps rs) (leaf_of_plain rs)
tree_to_plain (suc deep) ps rs = go (choice ps rs) refl (tree_to_plain deep)
  where
    go : (o : Option Path) → choice ps rs ≡ o → ((ps : List Path) (rs : List Row) → Plain (tree_to deep ps rs)) → Plain (tree_to (suc deep) ps rs)
    go none e ih = rw (tree_to_none deep ps rs e) (leaf_of_plain rs)
    go (some p) e ih =
        rw (tree_to_some deep ps rs p e)
        (node_by_plain p (has_list (column p rs)) (case_tree deep ps p) (split p rs).groups (tree_to deep (without p ps) (split p rs).rest)
        (λ g. unfold case_tree in ih (union g.opens ++ without p ps) g.rows) (ih (without p ps) (split p rs).rest))

-- THEOREM: the tree of the clauses with these patterns has no hoist
pub plain_tree_plain : (qs : List Pat) → Plain (plain_tree qs)
unfolding plain_tree
plain_tree_plain qs = tree_to_plain (matrix_places (clause_rows 0 qs)) (columns (clause_rows 0 qs)) (clause_rows 0 qs)

-- ---- what rows keep: their clause is one of n, and each of their tests is a pattern that can be tested
abbrev Every : {A : Type 0} → (A → Type 0) → List A → Type 0
Every P [] = Unit {0}
Every P (x ∷ xs) = P x × Every P xs

module _ {A : Type 0} (P : A → Type 0) where
  every_append : (xs ys : List A) → Every P xs → Every P ys → Every P (xs ++ ys)
  every_append [] ys h k = k
  every_append (x ∷ xs) ys h k = (h.0, every_append xs ys h.1 k)

  every_map : (Q : A → Type 0) → ((x : A) → P x → Q x) → (xs : List A) → Every P xs → Every Q xs
  every_map Q f [] h = tt
  every_map Q f (x ∷ xs) h = (f x h.0, every_map Q f xs h.1)

is_test : Pat → Bool
is_test (discard m) = false
is_test (variable m x) = false
is_test (assign m x q) = false
is_test (integer m at w) = true
is_test (bytestring m at w) = true
is_test (listed m qs) = true
is_test (tailed m qs q) = true
is_test (constructor m a qs) = true
is_test (opened m o qs) = false

abbrev Tests : List Cell → Type 0
Tests cs = Every (λ c. is_test c.pattern ≡ true) cs

mutual
  unfolding columns_of is_test

  columns_of_tests : (p : Path) (q : Pat) → Tests (columns_of p q)
  columns_of_tests p (discard m) = tt
  columns_of_tests p (variable m x) = tt
  columns_of_tests p (assign m x q) = columns_of_tests p q
  columns_of_tests p (integer m at w) = (refl, tt)
  columns_of_tests p (bytestring m at w) = (refl, tt)
  columns_of_tests p (listed m qs) = (refl, tt)
  columns_of_tests p (tailed m qs q) = (refl, tt)
  columns_of_tests p (constructor m a qs) = (refl, tt)
  columns_of_tests p (opened m o qs) = columns_of_each_tests p (opening o m.type) 0 qs

  columns_of_each_tests : (p : Path) (step : ℕ → Step) (i : ℕ) (qs : Pats) → Tests (columns_of_each p step i qs)
  columns_of_each_tests p step i pnil = tt
  columns_of_each_tests p step i (pcons q qs) =
      every_append (λ c. is_test c.pattern ≡ true) (columns_of (into p (step i)) q) (columns_of_each p step (i + 1) qs)
      (columns_of_tests (into p (step i)) q) (columns_of_each_tests p step (i + 1) qs)

opened_columns_tests : (p : Path) (q : Pat) → Tests (opened_columns p q)
unfolding opened_columns
opened_columns_tests p (discard m) = tt
opened_columns_tests p (variable m x) = tt
opened_columns_tests p (assign m x q) = tt
opened_columns_tests p (integer m at w) = tt
opened_columns_tests p (bytestring m at w) = tt
opened_columns_tests p (listed m qs) = columns_of_each_tests p (λ i. list i m.type) 0 qs
opened_columns_tests p (tailed m qs q) =
    every_append (λ c. is_test c.pattern ≡ true) (columns_of_each p (λ i. list i m.type) 0 qs) (columns_of (into p (listtail (many qs) m.type)) q)
    (columns_of_each_tests p (λ i. list i m.type) 0 qs) (columns_of_tests (into p (listtail (many qs) m.type)) q)
opened_columns_tests p (constructor m a qs) = columns_of_each_tests p (λ i. constr i false m.type) 0 qs
opened_columns_tests p (opened m o qs) = tt

without_test_tests : (p : Path) (cs : List Cell) → Tests cs → Tests (without_test p cs)
unfolding without_test
without_test_tests p [] h = tt
without_test_tests p (c ∷ cs) h = go (same_path p c.path) refl (without_test_tests p cs h.1)
  where
    go : (b : Bool) → same_path p c.path ≡ b → Tests (without_test p cs) → Tests (without_test p (c ∷ cs))
    go true e ih = rw (without_test, e) h.1
    go false e ih = rw (without_test, e) (h.0, ih)

test_at_test : (p : Path) (cs : List Cell) (q : Pat) → Tests cs → test_at p cs ≡ some q → is_test q ≡ true
unfolding test_at
test_at_test p [] q h e = let z : ◌≡◌ {A = ℕ} 0 1 = cc in absurd (omega arith)
test_at_test p (c ∷ cs) q h e = go (same_path p c.path) refl (test_at_test p cs q h.1)
  where
    go : (b : Bool) → same_path p c.path ≡ b → (test_at p cs ≡ some q → is_test q ≡ true) → is_test q ≡ true
    go true x ih = let y : c.pattern ≡ q = same (rw (test_at, x) at e) in ap is_test (sym y) ∙ h.0
      where
        same : ◌≡◌ {A = Option Pat} (some c.pattern) (some q) → c.pattern ≡ q
        same z = cc
    go false x ih = ih (rw (test_at, x) at e)

record RowOf (n : ℕ) (r : Row) : Type 0 where
  clause_below : r.clause < n
  tests_are : Tests r.tests

open_row_of : (n : ℕ) (p : Path) (q : Pat) (r : Row) → RowOf n r → RowOf n (open_row p q r)
unfolding open_row
open_row_of n p q r h = record {
  clause_below = h.clause_below;
  tests_are = every_append (λ c. is_test c.pattern ≡ true) (opened_columns p q) (without_test p r.tests) (opened_columns_tests p q) (without_test_tests p r.tests h.tests_are);
}

clause_rows_of : (c : ℕ) (qs : List Pat) → Every (RowOf (c + length qs)) (clause_rows c qs)
unfolding clause_rows clause_row
clause_rows_of c [] = tt
clause_rows_of c (q ∷ qs) = (
  record { clause_below = omega arith; tests_are = columns_of_tests [] q },
  subst (λ k. Every (RowOf k) (clause_rows (c + 1) qs)) (turn (length qs)) (clause_rows_of (c + 1) qs),
)
  where
    turn : (k : ℕ) → c + 1 + k ≡ c + suc k
    turn k = omega arith

-- ---- what splitting keeps: each case has a row, and its rows are such rows
record GroupOf (n : ℕ) (g : Group) : Type 0 where
  has_row : 0 < length g.rows
  rows_of : Every (RowOf n) g.rows

snoc_some : {A : Type 0} (xs : List A) (x : A) → 0 < length (xs ++ x ∷ [])
snoc_some xs x = omega (arith, length-append xs (x ∷ []))

add_row_of : (n : ℕ) (r : Row) (cs : List Cell) (g : Group) → RowOf n r → GroupOf n g → GroupOf n (add_row r cs g)
unfolding add_row
add_row_of n r cs g h k = record {
  has_row = snoc_some g.rows r;
  rows_of = every_append (RowOf n) g.rows (r ∷ []) k.rows_of (h, tt);
}

module _ (n : ℕ) (p : Path) where
  join_of : (q : Pat) (r : Row) (rest : List Row) (t : Test) (gs : List Group) → RowOf n r → Every (RowOf n) rest → Every (GroupOf n) gs
      → Every (GroupOf n) (join p q r rest t gs)
  unfolding join
  join_of q r rest t [] h k g = (
    record {
      has_row = snoc_some rest (open_row p q r);
      rows_of = every_append (RowOf n) rest (open_row p q r ∷ []) k (open_row_of n p q r h, tt);
    },
    tt,
  )
  join_of q r rest t (x ∷ gs) h k g = go (same_test t x.test) refl (join_of q r rest t gs h k g.1)
    where
      go : (b : Bool) → same_test t x.test ≡ b → Every (GroupOf n) (join p q r rest t gs) → Every (GroupOf n) (join p q r rest t (x ∷ gs))
      go true e ih = rw (join, e) (add_row_of n (open_row p q r) (opened_columns p q) x (open_row_of n p q r h) g.0, g.1)
      go false e ih = rw (join, e) (g.0, ih)

  join_some : (q : Pat) (r : Row) (rest : List Row) (t : Test) (gs : List Group) → 0 < length (join p q r rest t gs)
  unfolding join
  join_some q r rest t [] = omega arith
  join_some q r rest t (x ∷ gs) = go (same_test t x.test) refl
    where
      go : (b : Bool) → same_test t x.test ≡ b → 0 < length (join p q r rest t (x ∷ gs))
      go true e = rw (join, e) (omega arith)
      go false e = rw (join, e) (omega arith)

  join_each_of : (q : Pat) (r : Row) (rest : List Row) (ts : List Test) (gs : List Group) → RowOf n r → Every (RowOf n) rest → Every (GroupOf n) gs
      → Every (GroupOf n) (join_each p q r rest ts gs)
  unfolding join_each
  join_each_of q r rest [] gs h k g = g
  join_each_of q r rest (t ∷ ts) gs h k g = join_each_of q r rest ts (join p q r rest t gs) h k (join_of q r rest t gs h k g)

  join_each_some : (q : Pat) (r : Row) (rest : List Row) (ts : List Test) (gs : List Group) → 0 < length ts + length gs → 0 < length (join_each p q r rest ts gs)
  unfolding join_each
  join_each_some q r rest [] gs l = omega arith
  join_each_some q r rest (t ∷ ts) gs l = join_each_some q r rest ts (join p q r rest t gs) (omega (arith, join_some q r rest t gs))

  add_to_all_of : (r : Row) (gs : List Group) → RowOf n r → Every (GroupOf n) gs → Every (GroupOf n) (add_to_all r gs)
  unfolding add_to_all
  add_to_all_of r [] h g = tt
  add_to_all_of r (x ∷ gs) h g = (add_row_of n r [] x h g.0, add_to_all_of r gs h g.1)

  length_add_to_all : (r : Row) (gs : List Group) → length (add_to_all r gs) ≡ length gs
  unfolding add_to_all
  length_add_to_all r [] = refl
  length_add_to_all r (x ∷ gs) = ap suc (length_add_to_all r gs)

  record SplitOf (s : Split) : Type 0 where
    rest_of : Every (RowOf n) s.rest
    groups_of : Every (GroupOf n) s.groups

  go_down_of : (tailless tails : ℕ) (rs rest : List Row) (gs : List Group) → Every (RowOf n) rs → Every (RowOf n) rest → Every (GroupOf n) gs
      → SplitOf (go_down tailless tails p rs rest gs)
  unfolding go_down
  go_down_of tailless tails [] rest gs h k g = record { rest_of = k; groups_of = g }
  go_down_of tailless tails (r ∷ rs) rest gs h k g = go (test_at p r.tests) refl (go_down_of tailless tails rs)
    where
      go : (o : Option Pat) → test_at p r.tests ≡ o
          → ((rest : List Row) (gs : List Group) → Every (RowOf n) rs → Every (RowOf n) rest → Every (GroupOf n) gs → SplitOf (go_down tailless tails p rs rest gs))
          → SplitOf (go_down tailless tails p (r ∷ rs) rest gs)
      go none e ih = rw (go_down, e) (ih (rest ++ r ∷ []) (add_to_all r gs) h.1 (every_append (RowOf n) rest (r ∷ []) k (h.0, tt)) (add_to_all_of r gs h.0 g))
      go (some q) e ih =
          rw (go_down, e) (ih rest (join_each p q r rest (joined tailless tails q) gs) h.1 k (join_each_of q r rest (joined tailless tails q) gs h.0 k g))

  -- cases are never lost
  go_down_some : (tailless tails : ℕ) (rs rest : List Row) (gs : List Group) → 0 < length gs → 0 < length (go_down tailless tails p rs rest gs).groups
  unfolding go_down
  go_down_some tailless tails [] rest gs l = l
  go_down_some tailless tails (r ∷ rs) rest gs l = go (test_at p r.tests) refl (go_down_some tailless tails rs)
    where
      go : (o : Option Pat) → test_at p r.tests ≡ o
          → ((rest : List Row) (gs : List Group) → 0 < length gs → 0 < length (go_down tailless tails p rs rest gs).groups)
          → 0 < length (go_down tailless tails p (r ∷ rs) rest gs).groups
      go none e ih = rw (go_down, e) (ih (rest ++ r ∷ []) (add_to_all r gs) (omega (arith, length_add_to_all r gs)))
      go (some q) e ih =
          rw (go_down, e) (ih rest (join_each p q r rest (joined tailless tails q) gs) (join_each_some q r rest (joined tailless tails q) gs (omega arith)))

-- a test joins a case
length_rising : (f : ℕ → Test) (k n : ℕ) → length (rising f k n) ≡ n
unfolding rising
length_rising f k zero = refl
length_rising f k (suc n) = ap suc (length_rising f (k + 1) n)

joined_some : (tailless tails : ℕ) (q : Pat) → is_test q ≡ true → tailed_length q ≤ tails → 0 < length (joined tailless tails q)
unfolding joined is_test tailed_length
joined_some tailless tails (discard m) e l = absurd (false≢true e)
joined_some tailless tails (variable m x) e l = absurd (false≢true e)
joined_some tailless tails (assign m x q) e l = absurd (false≢true e)
joined_some tailless tails (integer m at w) e l = omega arith
joined_some tailless tails (bytestring m at w) e l = omega arith
joined_some tailless tails (listed m qs) e l = omega arith
joined_some tailless tails (tailed m qs q) e l =
    omega (
      arith,
      length-append (rising ListOf (many qs) (tailless - many qs)) (rising ListWithTail (many qs) (tails - many qs)),
      length_rising ListWithTail (many qs) (tails - many qs),
    )
joined_some tailless tails (constructor m a qs) e l = omega arith
joined_some tailless tails (opened m o qs) e l = absurd (false≢true e)

larger_first : (a b : ℕ) → a ≤ larger a b
unfolding larger
larger_first a b = go (leb a b) refl
  where
    go : (x : Bool) → leb a b ≡ x → a ≤ larger a b
    go true e = rw (larger, e) (leb-true a b e)
    go false e = rw (larger, e) (omega arith)

-- ---- a column is chosen only where the first row has a test, so that there is a case
better_count : (chosen : Option Path) (n : ℕ) (ps : List Path) (rs : List Row) (p : Path) → ((q : Path) → chosen ≡ some q → 0 < count q rs)
    → better chosen n ps rs ≡ some p → 0 < count p rs
unfolding better
better_count chosen n [] rs p h e = h p e
better_count chosen n (x ∷ ps) rs p h e = go (ltb n (count x rs)) refl (λ o m. better_count o m ps rs p)
  where
    go : (b : Bool) → ltb n (count x rs) ≡ b
        → ((o : Option Path) (m : ℕ) → ((q : Path) → o ≡ some q → 0 < count q rs) → better o m ps rs ≡ some p → 0 < count p rs) → 0 < count p rs
    go true y ih = ih (some x) (count x rs) (λ q z. subst (λ w. 0 < count w rs) (same q z) (omega (arith, ltb-true n (count x rs) y))) (rw (better, y) at e)
      where
        same : (q : Path) → ◌≡◌ {A = Option Path} (some x) (some q) → x ≡ q
        same q z = cc
    go false y ih = ih chosen n h (rw (better, y) at e)

choice_count : (ps : List Path) (rs : List Row) (p : Path) → choice ps rs ≡ some p → 0 < count p rs
unfolding choice
choice_count ps rs p e = better_count none 0 ps rs p (λ q z. absurd (no_path q z)) e
  where
    no_path : (q : Path) → ◌≡◌ {A = Option Path} none (some q) → ⊥
    no_path q z = let w : ◌≡◌ {A = ℕ} 0 1 = cc in omega arith

count_first : (p : Path) (r : Row) (rs : List Row) → 0 < count p (r ∷ rs) → (q : Pat) × (test_at p r.tests ≡ some q)
unfolding count
count_first p r rs l = go (test_at p r.tests) refl
  where
    go : (o : Option Pat) → test_at p r.tests ≡ o → (q : Pat) × (test_at p r.tests ≡ some q)
    go none e = absurd (zero_less (rw (count, e) at l))
      where
        zero_less : 0 < 0 → ⊥
        zero_less h = omega arith
    go (some q) e = (q, e)

split_some : (n : ℕ) (p : Path) (rs : List Row) → Every (RowOf n) rs → 0 < count p rs → 0 < length (split p rs).groups
unfolding split go_down count
split_some n p [] h l = absurd (omega arith)
split_some n p (r ∷ rs) h l =
    let (q, e) = count_first p r rs l in
    let tailless : ℕ = longest tailless_length (column p (r ∷ rs)) in
    let tails : ℕ = longest tailed_length (column p (r ∷ rs)) in
    rw (go_down, e)
    (go_down_some n p tailless tails rs [] (join_each p q r [] (joined tailless tails q) [])
    (join_each_some n p q r [] (joined tailless tails q) []
    (omega (arith, joined_some tailless tails q (test_at_test p r.tests q h.0.tests_are e) (first_longest q e)))))
  where
    first_longest : (q : Pat) → test_at p r.tests ≡ some q → tailed_length q ≤ longest tailed_length (column p (r ∷ rs))
    first_longest q e = unfold column longest in rw (column, e) (larger_first (tailed_length q) (longest tailed_length (column p rs)))

-- ---- a built tree is well made
leaf_of_made : (n : ℕ) (rs : List Row) → Every (RowOf n) rs → WellMade n (leaf_of rs)
unfolding leaf_of WellMade
leaf_of_made n [] h = tt
leaf_of_made n (r ∷ rs) h = h.0.clause_below

leaf_of_present : (rs : List Row) → 0 < length rs → is_present (leaf_of rs) ≡ true
unfolding leaf_of is_present
leaf_of_present [] l = absurd (omega arith)
leaf_of_present (r ∷ rs) l = refl

node_by_present : (p : Path) (b : Bool) (f : Group → Tree) (gs : List Group) (d : Tree) → is_present (node_by p b f gs d) ≡ true
unfolding node_by is_present
node_by_present p true f gs d = refl
node_by_present p false f gs d = refl

tree_to_present : (deep : ℕ) (ps : List Path) (rs : List Row) → 0 < length rs → is_present (tree_to deep ps rs) ≡ true
tree_to_present zero ps rs l = rw (tree_to_zero ps rs) (leaf_of_present rs l)
tree_to_present (suc deep) ps rs l = go (choice ps rs) refl
  where
    go : (o : Option Path) → choice ps rs ≡ o → is_present (tree_to (suc deep) ps rs) ≡ true
    go none e = rw (tree_to_none deep ps rs e) (leaf_of_present rs l)
    go (some p) e = rw (tree_to_some deep ps rs p e) (node_by_present p (has_list (column p rs)) (case_tree deep ps p) (split p rs).groups (tree_to deep (without p ps) (split p rs).rest))

-- each case is of one sort or of the other
length_select : (test : Group → Bool) (gs : List Group) → length (select (λ g. not (test g)) gs) + length (select test gs) ≡ length gs
unfolding select
length_select test [] = refl
length_select test (g ∷ gs) = go (test g) refl (length_select test gs)
  where
    go : (b : Bool) → test g ≡ b → length (select (λ g. not (test g)) gs) + length (select test gs) ≡ length gs
        → length (select (λ g. not (test g)) (g ∷ gs)) + length (select test (g ∷ gs)) ≡ suc (length gs)
    go true e ih = rw (select, e) (omega arith)
    go false e ih = rw (select, e) (omega arith)

module _ (n : ℕ) (f : Group → Tree) where
  abbrev Made : Group → Type 0
  Made g = (is_present (f g) ≡ true) × WellMade n (f g)

  cases_by_made : (gs : List Group) → Every Made gs → WellMadeOf n (cases_by f gs)
  unfolding cases_by WellMade
  cases_by_made [] h = tt
  cases_by_made (g ∷ gs) h = (h.0.0, h.0.1, cases_by_made gs h.1)

  how_many_cases_by : (gs : List Group) → how_many (cases_by f gs) ≡ length gs
  unfolding cases_by how_many
  how_many_cases_by [] = refl
  how_many_cases_by (g ∷ gs) = ap suc (how_many_cases_by gs)

  select_made : (test : Group → Bool) (gs : List Group) → Every Made gs → Every Made (select test gs)
  unfolding select
  select_made test [] h = tt
  select_made test (g ∷ gs) h = go (test g) refl (select_made test gs h.1)
    where
      go : (b : Bool) → test g ≡ b → Every Made (select test gs) → Every Made (select test (g ∷ gs))
      go true e ih = rw (select, e) (h.0, ih)
      go false e ih = rw (select, e) ih

  node_by_made : (p : Path) (b : Bool) (gs : List Group) (d : Tree) → 0 < length gs → Every Made gs → WellMade n d → WellMade n (node_by p b f gs d)
  unfolding node_by WellMade
  node_by_made p true gs d l h k = (
    omega (
      arith,
      how_many_cases_by (select (λ g. not (is_tail_case g)) gs),
      how_many_cases_by (select is_tail_case gs),
      length_select is_tail_case gs,
    ),
    cases_by_made (select (λ g. not (is_tail_case g)) gs) (select_made (λ g. not (is_tail_case g)) gs h),
    cases_by_made (select is_tail_case gs) (select_made is_tail_case gs h),
    k,
  )
  node_by_made p false gs d l h k = (omega (arith, how_many_cases_by gs), cases_by_made gs h, k)

tree_to_made : (n deep : ℕ) (ps : List Path) (rs : List Row) → Every (RowOf n) rs → WellMade n (tree_to deep ps rs)
tree_to_made n zero ps rs h = rw (tree_to_zero ps rs) (leaf_of_made n rs h)
tree_to_made n (suc deep) ps rs h = go (choice ps rs) refl (tree_to_made n deep)
  where
    go : (o : Option Path) → choice ps rs ≡ o → ((ps : List Path) (rs : List Row) → Every (RowOf n) rs → WellMade n (tree_to deep ps rs))
        → WellMade n (tree_to (suc deep) ps rs)
    go none e ih = rw (tree_to_none deep ps rs e) (leaf_of_made n rs h)
    go (some p) e ih =
        rw (tree_to_some deep ps rs p e)
        (node_by_made n (case_tree deep ps p) p (has_list (column p rs)) (split p rs).groups (tree_to deep (without p ps) (split p rs).rest)
        (split_some n p rs h (choice_count ps rs p e))
        (every_map (GroupOf n) (Made n (case_tree deep ps p)) case_made (split p rs).groups kept.groups_of)
        (ih (without p ps) (split p rs).rest kept.rest_of))
      where
        kept : SplitOf n p (split p rs)
        kept = unfold split in go_down_of n p (longest tailless_length (column p rs)) (longest tailed_length (column p rs)) rs [] [] h tt tt

        case_made : (g : Group) → GroupOf n g → Made n (case_tree deep ps p) g
        case_made g k = unfold case_tree in (
          tree_to_present deep (union g.opens ++ without p ps) g.rows k.has_row,
          ih (union g.opens ++ without p ps) g.rows k.rows_of,
        )

length_clause_rows : (c : ℕ) (qs : List Pat) → length (clause_rows c qs) ≡ length qs
unfolding clause_rows
length_clause_rows c [] = refl
length_clause_rows c (q ∷ qs) = ap suc (length_clause_rows (c + 1) qs)

-- THEOREM: the tree of the clauses with these patterns is well made
pub plain_tree_made : (qs : List Pat) → WellMade (length qs) (plain_tree qs)
unfolding plain_tree
plain_tree_made qs =
    tree_to_made (length qs) (matrix_places (clause_rows 0 qs)) (columns (clause_rows 0 qs)) (clause_rows 0 qs)
    (subst (λ k. Every (RowOf k) (clause_rows 0 qs)) (zero-add (length qs)) (clause_rows_of 0 qs))

-- THEOREM: where there is a clause, there is a tree
pub plain_tree_present : (qs : List Pat) → 0 < length qs → is_present (plain_tree qs) ≡ true
unfolding plain_tree
plain_tree_present qs l =
    tree_to_present (matrix_places (clause_rows 0 qs)) (columns (clause_rows 0 qs)) (clause_rows 0 qs) (omega (arith, length_clause_rows 0 qs))
