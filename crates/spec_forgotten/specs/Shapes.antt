-- Which branches of a switch some part of the tested type takes, by trying every shape that such a part has with the walk's own rule:
-- every constructor of the type; every case's text, and a text longer than all of them; every length up to one past the largest number.
use Rattle.std.specs.Prelude.{ℕ, zero, suc, ◌+◌, Bool, false, List, [], ◌∷◌, ◌++◌, eqb, length}
use Rattle.std.proofs.Math.Option.{Option, none, some}
use Rattle.base_words.specs.Words.{either, pick}
use Rattle.spec_rules.specs.SheetFile.{type_kind, type_count}
use Rattle.spec_rules.specs.Patterns.{Text}
use Rattle.spec_rules.specs.Splitting.{Test, Constr, Int, Bytes, ListOf, ListWithTail, larger}
use Rattle.spec_rules.specs.Building.{Tree, Cases, absent, leaf, hoist, switch, listswitch, cnil, ccons}
use Rattle.spec_rules.specs.Hoisting.{Fallback, Case}
use Rattle.spec_forgotten.specs.Values.{Value, shows, length_of}
use Rattle.spec_forgotten.specs.Choosing.{Chosen, by_test, by_length}

-- what a part shows to a test, and how long it is
pub record Shape : Type 0 where
  pub shown : Option Test
  pub long : Option ℕ

unfoldable pub shape_of : Value → Shape
unfolding shows length_of
shape_of x = record { shown = shows x; long = length_of x }

-- ---- the shapes of a type's parts at a switch
-- n constructors from a on; n lengths from m on
unfoldable pub numbers_from : ℕ → ℕ → List Shape
numbers_from a zero = []
numbers_from a (suc n) = record { shown = some (Constr a); long = none } ∷ numbers_from (a + 1) n

unfoldable pub lengths_from : ℕ → ℕ → List Shape
lengths_from m zero = []
lengths_from m (suc n) = record { shown = none; long = some m } ∷ lengths_from (m + 1) n

-- each case's own test
unfoldable pub tests_of : Cases → List Shape
tests_of cnil = []
tests_of (ccons u at a cs) = record { shown = some u; long = none } ∷ tests_of cs

-- a text longer than each case's: 1 and as many zeros as the longest has bytes
unfoldable pub text_length : Test → ℕ
text_length (Constr a) = 0
text_length (Int w) = length w
text_length (Bytes w) = length w
text_length (ListOf n) = 0
text_length (ListWithTail n) = 0

unfoldable pub longest_text : Cases → ℕ
unfolding text_length larger
longest_text cnil = 0
longest_text (ccons u at a cs) = larger (text_length u) (longest_text cs)

unfoldable pub tens : ℕ → Text
tens zero = []
tens (suc n) = 48 ∷ tens n

unfoldable pub new_text : ℕ → Text
unfolding tens
new_text n = 49 ∷ tens n

unfoldable pub new_test : ℕ → ℕ → Test
unfolding new_text
new_test kind n = pick (eqb kind 0) (Int (new_text n)) (Bytes (new_text n))

-- the largest number of a list's cases
unfoldable pub test_number : Test → ℕ
test_number (Constr a) = 0
test_number (Int w) = 0
test_number (Bytes w) = 0
test_number (ListOf n) = n
test_number (ListWithTail n) = n

unfoldable pub largest_number : Cases → ℕ
unfolding test_number larger
largest_number cnil = 0
largest_number (ccons u at a cs) = larger (test_number u) (largest_number cs)

unfoldable pub shapes_of : List ℕ → ℕ → Tree → List Shape
unfolding type_kind type_count numbers_from lengths_from tests_of new_test longest_text largest_number larger
shapes_of s t absent = []
shapes_of s t (leaf c bs) = []
shapes_of s t (hoist c bs a) = []
shapes_of s t (switch p cs d) =
    pick (eqb (type_kind s t) 5) (numbers_from 0 (type_count s t))
    (tests_of cs ++ record { shown = some (new_test (type_kind s t) (longest_text cs)); long = none } ∷ [])
shapes_of s t (listswitch p cs ts d) = lengths_from 0 (larger (largest_number cs) (largest_number ts) + 2)

-- ---- the walk's rule at node k, and the branch that it takes: Fallback or Case(i)
unfoldable pub choose_in : ℕ → Tree → Shape → Option (Option Chosen)
unfolding by_test by_length
choose_in k absent x = none
choose_in k (leaf c bs) x = none
choose_in k (hoist c bs a) x = none
choose_in k (switch p cs d) x = by_test k cs x.shown
choose_in k (listswitch p cs ts d) x = by_length k cs ts x.long

unfoldable pub branch_is : Option (Option Chosen) → ℕ → Bool
branch_is none b = false
branch_is (some none) b = eqb b Fallback
branch_is (some (some c)) b = eqb b (Case c.index)

unfoldable pub any_shape : (Shape → Bool) → List Shape → Bool
any_shape f [] = false
any_shape f (x ∷ xs) = either (f x) (any_shape f xs)

-- some part of type t takes branch b of node k
unfoldable pub possible : List ℕ → ℕ → ℕ → Tree → ℕ → Bool
unfolding shapes_of choose_in branch_is any_shape
possible s t k a b = any_shape (λ x. branch_is (choose_in k a x) b) (shapes_of s t a)
