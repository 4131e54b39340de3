-- 01, "How a tree is built", rules 3 and 5: the tree of a matrix, before hoisting.
-- `absent` stands only where there is no default.
use Rattle.std.specs.Prelude.{ℕ, zero, suc, ◌+◌, Bool, true, false, not, List, [], ◌∷◌, ◌++◌}
use Rattle.std.proofs.Math.Option.{none, some}
use Rattle.base_words.specs.Words.{either}
use Rattle.spec_rules.specs.Patterns.{Pat, Pats, discard, variable, assign, integer, bytestring, listed, tailed, constructor, opened, pnil, pcons}
use Rattle.spec_rules.specs.Rows.{Path, Binding, Cell, Row, clause_rows}
use Rattle.spec_rules.specs.Columns.{union, columns, without, choice}
use Rattle.spec_rules.specs.Splitting.{Test, Constr, Int, Bytes, ListOf, ListWithTail, column, Group, split}

-- A case holds its test, where its text starts, and its subtree.
mutual
  pub data Tree : Type 0 where
    absent : Tree
    leaf : ℕ → List Binding → Tree
    hoist : ℕ → List Binding → Tree → Tree
    switch : Path → Cases → Tree → Tree
    listswitch : Path → Cases → Cases → Tree → Tree

  pub data Cases : Type 0 where
    cnil : Cases
    ccons : Test → ℕ → Tree → Cases → Cases

-- "a leaf of the first row, with its bindings in the order they were collected"; "No default rows: no default"
unfoldable pub leaf_of : List Row → Tree
leaf_of [] = absent
leaf_of (r ∷ rs) = leaf r.clause r.bindings

unfoldable pub is_list : Pat → Bool
is_list (discard m) = false
is_list (variable m x) = false
is_list (assign m x q) = false
is_list (integer m at w) = false
is_list (bytestring m at w) = false
is_list (listed m qs) = true
is_list (tailed m qs q) = true
is_list (constructor m a qs) = false
is_list (opened m o qs) = false

unfoldable pub has_list : List Pat → Bool
unfolding is_list
has_list [] = false
has_list (q ∷ qs) = either (is_list q) (has_list qs)

unfoldable pub is_tail_case : Group → Bool
is_tail_case g = elim g.test [ Constr a ↦ false | Int w ↦ false | Bytes w ↦ false | ListOf n ↦ false | ListWithTail n ↦ true ]

unfoldable pub select : (Group → Bool) → List Group → List Group
select f [] = []
select f (g ∷ gs) = elim (f g) [ true ↦ g ∷ select f gs | false ↦ select f gs ]

unfoldable pub cases_by : (Group → Tree) → List Group → Cases
cases_by f [] = cnil
cases_by f (g ∷ gs) = ccons g.test g.start (f g) (cases_by f gs)

-- a switch on the column at p, or a list switch with its tail cases apart
unfoldable pub node_by : Path → Bool → (Group → Tree) → List Group → Tree → Tree
unfolding is_tail_case select cases_by
node_by p true f gs d = listswitch p (cases_by f (select (λ g. not (is_tail_case g)) gs)) (cases_by f (select is_tail_case gs)) d
node_by p false f gs d = switch p (cases_by f gs) d

-- The tree of the matrix with columns ps and rows rs; `deep` bounds how many tests follow one another.
unfoldable pub tree_to : ℕ → List Path → List Row → Tree
unfolding choice leaf_of node_by has_list column split union without
tree_to zero ps rs = leaf_of rs
tree_to (suc deep) ps rs =
    elim (choice ps rs) [
      | none ↦ leaf_of rs
      | some p ↦
          node_by p (has_list (column p rs)) (λ g. tree_to deep (union g.opens ++ without p ps) g.rows)
          (split p rs).groups
          (tree_to deep (without p ps) (split p rs).rest)
    ]

-- Each test takes one pattern place out of the matrix, so the number of its test places is deep enough.
unfoldable mutual
  pub places : Pat → ℕ
  places (discard m) = 0
  places (variable m x) = 0
  places (assign m x q) = places q
  places (integer m at w) = 1
  places (bytestring m at w) = 1
  places (listed m qs) = suc (places_of qs)
  places (tailed m qs q) = suc (places_of qs + places q)
  places (constructor m a qs) = suc (places_of qs)
  places (opened m o qs) = places_of qs

  pub places_of : Pats → ℕ
  places_of pnil = 0
  places_of (pcons q qs) = places q + places_of qs

unfoldable pub test_places : List Cell → ℕ
unfolding places
test_places [] = 0
test_places (c ∷ cs) = places c.pattern + test_places cs

unfoldable pub matrix_places : List Row → ℕ
unfolding test_places
matrix_places [] = 0
matrix_places (r ∷ rs) = test_places r.tests + matrix_places rs

unfoldable pub plain_tree : List Pat → Tree
unfolding clause_rows columns matrix_places tree_to
plain_tree qs = let rs = clause_rows 0 qs in tree_to (matrix_places rs) (columns rs) rs
