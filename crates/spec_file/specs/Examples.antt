-- The tree of 01's listing, written: it is writable, and its file, computed, fits and reads back as the laws say.
-- The types of the steps are those of its sheet, 0 for the list.
use Rattle.std.specs.Prelude.{◌≡◌, refl, true, List, [], ◌∷◌, ℕ, length}
use Rattle.std.proofs.Common.{arith}
use Rattle.spec_rules.specs.Rows.{list, listtail, Binding}
use Rattle.spec_rules.specs.Splitting.{Int, ListOf, ListWithTail}
use Rattle.spec_rules.specs.Building.{Tree, leaf, hoist, switch, listswitch, cnil, ccons}
use Rattle.spec_rules.specs.Hoisting.{how_many, nodes_in, bindings_in}
use Rattle.spec_rules.specs.TreeFile.{cases_in, tree_file}
use Rattle.spec_rules.specs.TreeReader.{nodes, bindings, tree_fits, tree_of}
use Rattle.spec_file.specs.Writable.{InPool, Writable}

-- the texts `1` and `2`
unfoldable pub pool : List ℕ
pool = 49 ∷ 50 ∷ []

unfoldable pub rest : List Binding
rest = record { name = 1; path = listtail 1 0 ∷ [] } ∷ []

unfoldable pub element : List Binding
element = record { name = 2; path = list 0 0 ∷ [] } ∷ []

-- `[1, ..n1]`, else the discard
unfoldable pub first_is_one : Tree
unfolding rest
first_is_one = switch (list 0 0 ∷ []) (ccons (Int (49 ∷ [])) 0 (leaf 0 rest) cnil) (leaf 2 [])

-- the same at length 2, where `[n2, 2]` stands between
unfoldable pub of_two : Tree
unfolding rest element
of_two =
    switch (list 0 0 ∷ []) (ccons (Int (49 ∷ [])) 0 (leaf 0 rest) cnil)
    (switch (list 1 0 ∷ []) (ccons (Int (50 ∷ [])) 1 (hoist 1 element (leaf 1 element)) cnil) (leaf 2 []))

unfoldable pub listing : Tree
unfolding rest first_is_one of_two
listing =
    hoist 0 rest
    (hoist 2 []
    (listswitch [] (ccons (ListOf 1) 0 first_is_one (ccons (ListOf 2) 0 of_two cnil)) (ccons (ListWithTail 1) 0 first_is_one cnil) (leaf 2 [])))

pub listing_counts : (nodes_in listing ≡ 16) × (length (bindings_in listing) ≡ 6) × (cases_in listing ≡ 7)
unfolding listing nodes_in bindings_in cases_in
listing_counts = (refl, refl, refl)

one_in_pool : InPool pool 0 (49 ∷ [])
unfolding pool
one_in_pool = record { inside = omega arith; text = refl; empty_first = λ z. refl }

two_in_pool : InPool pool 1 (50 ∷ [])
unfolding pool
two_in_pool = record { inside = omega arith; text = refl; empty_first = λ z. absurd (omega arith) }

first_writable : Writable pool first_is_one
unfolding first_is_one Writable
first_writable = ((omega arith, tt), (one_in_pool, refl, omega arith, tt), omega arith)

two_writable : Writable pool of_two
unfolding of_two Writable
two_writable = (
  (omega arith, tt),
  (one_in_pool, refl, omega arith, tt),
  ((omega arith, tt), (two_in_pool, refl, (omega arith, refl, omega arith), tt), omega arith),
)

pub listing_writable : Writable pool listing
unfolding listing Writable how_many
listing_writable = (
  omega arith,
  refl,
  (
    omega arith,
    refl,
    (
      record { some_case = omega arith; exact = (refl, (refl, tt)); tailed = (refl, tt) },
      (refl, refl, first_writable, (refl, refl, two_writable, tt)),
      (refl, refl, first_writable, tt),
      omega arith,
    ),
  ),
)

pub listing_file : (length (tree_file pool listing) ≡ 322) × (nodes (tree_file pool listing) ≡ 16) × (bindings (tree_file pool listing) ≡ 6)
unfolding pool listing tree_file nodes bindings
listing_file = (refl, refl, refl)

pub listing_fits : tree_fits (tree_file pool listing) ≡ true
unfolding pool listing tree_file tree_fits
listing_fits = refl

pub listing_read : tree_of (tree_file pool listing) ≡ listing
unfolding pool listing tree_file tree_of
listing_read = refl
