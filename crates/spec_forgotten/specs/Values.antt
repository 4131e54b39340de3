-- Request 7, "The definition speaks of panels of any size": a value is finite data, without records, bytes of a file or limits.
-- Whether it is of a type, the part that a path leads to, and the walk of a tree on it. What is said of values here is what Fitting and
-- Walking say of the records of a panel file, word for word.
use Rattle.std.specs.Prelude.{ℕ, zero, suc, ◌+◌, Bool, true, false, List, [], ◌∷◌, eqb, leb}
use Rattle.std.proofs.Math.Option.{Option, none, some}
use Rattle.base_words.specs.Words.{both, pick}
use Rattle.spec_rules.specs.SheetFile.{type_kind, type_first, type_count, constructor_first, entry}
use Rattle.spec_rules.specs.Patterns.{Text, constructor_of, takes_arguments}
use Rattle.spec_rules.specs.Texts.{canonical}
use Rattle.spec_rules.specs.Rows.{Step, pair, tuple, constr, list, listtail, Path}
use Rattle.spec_rules.specs.Columns.{step_index}
use Rattle.spec_rules.specs.Splitting.{Test, Constr, Int, Bytes, ListOf, ListWithTail, same_test}
use Rattle.spec_rules.specs.Building.{Tree, Cases, absent, leaf, hoist, switch, listswitch, cnil, ccons}
use Rattle.spec_rules.specs.Hoisting.{Fallback, Case, how_many, nodes_in, nodes_in_of}
use Rattle.spec_rules.specs.Walking.{test_kind, first_kind, largest_tail}

-- ---- values: a text, or something whole with its parts. The kinds are those of a panel's records.
pub data Whole : Type 0 where
  a_list a_pair a_tuple : Whole
  a_constructor : ℕ → Whole

mutual
  pub data Value : Type 0 where
    an_integer : Text → Value
    a_byte_string : Text → Value
    whole : Whole → Values → Value

  pub data Values : Type 0 where
    vnil : Values
    vcons : Value → Values → Values

-- "0 integer, 1 bytes, 2 list, 3 pair, 4 tuple, 5 constructor"
unfoldable pub whole_kind : Whole → ℕ
whole_kind a_list = 2
whole_kind a_pair = 3
whole_kind a_tuple = 4
whole_kind (a_constructor a) = 5

unfoldable pub many_values : Values → ℕ
many_values vnil = 0
many_values (vcons v vs) = suc (many_values vs)

-- every number is a byte
unfoldable pub are_bytes : Text → Bool
are_bytes [] = true
are_bytes (b ∷ bs) = both (leb b 255) (are_bytes bs)

-- ---- the value is of type t of the sheet s: refusal 25 without a file. By the value's structure, so that a type may contain itself.
-- An integer's text is canonical, as 24 asks of a panel; a text may be of any length.
-- the type's own count of parts, and where the types of the parts stand: the first at an entry, each next one `step` further on (0: all at
-- one entry, as the elements of a list are)
unfoldable pub takes_parts : List ℕ → ℕ → Whole → ℕ → Bool
unfolding type_kind type_count takes_arguments
takes_parts s t a_list n = eqb (type_kind s t) 2
takes_parts s t a_pair n = both (eqb (type_kind s t) 3) (eqb (type_count s t) n)
takes_parts s t a_tuple n = both (eqb (type_kind s t) 4) (eqb (type_count s t) n)
takes_parts s t (a_constructor a) n = takes_arguments s t a n

unfoldable pub parts_first : List ℕ → ℕ → Whole → ℕ
unfolding type_first constructor_first constructor_of
parts_first s t a_list = type_first s t
parts_first s t a_pair = type_first s t
parts_first s t a_tuple = type_first s t
parts_first s t (a_constructor a) = constructor_first s (constructor_of s t a)

unfoldable pub parts_step : Whole → ℕ
parts_step a_list = 0
parts_step a_pair = 1
parts_step a_tuple = 1
parts_step (a_constructor a) = 1

unfoldable mutual
  unfolding type_kind entry takes_parts parts_first parts_step canonical are_bytes many_values

  pub of_type : List ℕ → ℕ → Value → Bool
  of_type s t (an_integer w) = both (eqb (type_kind s t) 0) (canonical w)
  of_type s t (a_byte_string w) = both (eqb (type_kind s t) 1) (are_bytes w)
  of_type s t (whole k vs) = both (takes_parts s t k (many_values vs)) (of_types s (parts_first s t k) (parts_step k) vs)

  pub of_types : List ℕ → ℕ → ℕ → Values → Bool
  of_types s e step vnil = true
  of_types s e step (vcons v vs) = both (of_type s (entry s e) v) (of_types s (e + step) step vs)

-- ---- the part that a path leads to; none where a step can't be taken
unfoldable pub nth_of : Values → ℕ → Option Value
nth_of vnil i = none
nth_of (vcons v vs) zero = some v
nth_of (vcons v vs) (suc i) = nth_of vs i

-- what is left of a list after its first i elements
unfoldable pub rest_of : Values → ℕ → Option Value
rest_of vs zero = some (whole a_list vs)
rest_of vnil (suc i) = none
rest_of (vcons v vs) (suc i) = rest_of vs i

-- the kind that a step asks
unfoldable pub into_kind : Step → ℕ
into_kind (pair i t) = 3
into_kind (tuple i t) = 4
into_kind (constr i b t) = 5
into_kind (list i t) = 2
into_kind (listtail i t) = 2

unfoldable pub is_tail : Step → Bool
is_tail (pair i t) = false
is_tail (tuple i t) = false
is_tail (constr i b t) = false
is_tail (list i t) = false
is_tail (listtail i t) = true

unfoldable pub step_into : Step → Value → Option Value
unfolding whole_kind into_kind is_tail step_index nth_of rest_of
step_into s (an_integer w) = none
step_into s (a_byte_string w) = none
step_into s (whole k vs) = pick (eqb (whole_kind k) (into_kind s)) (pick (is_tail s) (rest_of vs (step_index s)) (nth_of vs (step_index s))) none

unfoldable pub part_along : Path → Value → Option Value
unfolding step_into
part_along [] v = some v
part_along (s ∷ p) v = elim (step_into s v) [ none ↦ none | some x ↦ part_along p x ]

-- ---- what a part shows to a test; a list's length
unfoldable pub shows_whole : Whole → Option Test
shows_whole a_list = none
shows_whole a_pair = none
shows_whole a_tuple = none
shows_whole (a_constructor a) = some (Constr a)

unfoldable pub shows : Value → Option Test
unfolding shows_whole
shows (an_integer w) = some (Int w)
shows (a_byte_string w) = some (Bytes w)
shows (whole k vs) = shows_whole k

unfoldable pub length_of : Value → Option ℕ
unfolding whole_kind many_values
length_of (an_integer w) = none
length_of (a_byte_string w) = none
length_of (whole k vs) = pick (eqb (whole_kind k) 2) (some (many_values vs)) none

-- ---- how a walk on a value ends. A test taken on the way: the switch's node number, and Fallback or Case(i) of rule 6, "tail cases are
-- numbered after cases".
pub record Passed : Type 0 where
  pub node : ℕ
  pub branch : ℕ

-- at a leaf of a clause; at a switch without a leaf, after these tests; stuck; where no node is (a default that is absent)
pub data Ended : Type 0 where
  at_clause : ℕ → Ended
  without : ℕ → List Passed → Ended
  stuck_on : Ended
  no_node : Ended

-- the tests below switch k, with its own before them
unfoldable pub took : ℕ → ℕ → Ended → Ended
took k b (at_clause c) = at_clause c
took k b (without n ts) = without n (record { node = k; branch = b } ∷ ts)
took k b stuck_on = stuck_on
took k b no_node = no_node

-- "Else the default; with none, No leaf": then the walk ends at switch k
unfoldable pub fell : ℕ → Ended → Ended
unfolding took
fell k (at_clause c) = at_clause c
fell k (without n ts) = took k Fallback (without n ts)
fell k stuck_on = stuck_on
fell k no_node = without k []

unfoldable pub on_test : ℕ → Option Test → (Test → Ended) → Ended
unfolding test_kind
on_test kind none go = stuck_on
on_test kind (some t) go = elim (eqb (test_kind t) kind) [ true ↦ go t | false ↦ stuck_on ]

unfoldable pub on_part : ℕ → Option Value → (Test → Ended) → Ended
unfolding shows on_test
on_part kind none go = stuck_on
on_part kind (some x) go = on_test kind (shows x) go

unfoldable pub on_count : Option ℕ → (ℕ → Ended) → Ended
on_count none go = stuck_on
on_count (some n) go = go n

unfoldable pub on_length : Option Value → (ℕ → Ended) → Ended
unfolding length_of on_count
on_length none go = stuck_on
on_length (some x) go = on_count (length_of x) go

unfoldable pub on_tail : ℕ → (ℕ → Ended) → (Unit {0} → Ended) → Ended
on_tail zero go otherwise = otherwise tt
on_tail (suc k) go otherwise = go k

unfoldable pub on_same : Bool → (Unit {0} → Ended) → (Unit {0} → Ended) → Ended
on_same true go otherwise = go tt
on_same false go otherwise = otherwise tt

-- The walk of Walking, on a value, of a tree whose first node is number k ("Nodes in pre-order"). A hoist is passed over.
unfoldable mutual
  unfolding part_along on_part on_length on_tail on_same took fell first_kind largest_tail same_test how_many nodes_in nodes_in_of

  pub walk_on : ℕ → Tree → Value → Ended
  walk_on k absent v = no_node
  walk_on k (leaf c bs) v = at_clause c
  walk_on k (hoist c bs a) v = walk_on (k + 1) a v
  walk_on k (switch p cs d) v =
      on_part (first_kind cs) (part_along p v) (λ t. cases_on k 0 (k + 1) cs t v (λ else. fell k (walk_on (k + 1 + nodes_in_of cs) d v)))
  walk_on k (listswitch p cs ts d) v =
      on_length (part_along p v)
      (λ n. cases_on k 0 (k + 1) cs (ListOf n) v
      (λ else. on_tail (largest_tail n ts)
      (λ j. cases_on k (how_many cs) (k + 1 + nodes_in_of cs) ts (ListWithTail j) v (λ else. fell k (walk_on (k + 1 + nodes_in_of cs + nodes_in_of ts) d v)))
      (λ else. fell k (walk_on (k + 1 + nodes_in_of cs + nodes_in_of ts) d v))))

  -- the first case of this test, or else: the cases of switch k from case i on, the first of them with its child at node j
  pub cases_on : ℕ → ℕ → ℕ → Cases → Test → Value → (Unit {0} → Ended) → Ended
  cases_on k i j cnil t v otherwise = otherwise tt
  cases_on k i j (ccons u at a cs) t v otherwise =
      on_same (same_test t u) (λ go. took k (Case i) (walk_on j a v)) (λ on. cases_on k (i + 1) (j + nodes_in a) cs t v otherwise)
