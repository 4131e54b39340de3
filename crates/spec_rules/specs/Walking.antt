-- 01, "Panels and the walk": following a path, and the walk of a tree on a panel.
-- The panel is bytes, the tree is the one that its file stands for; positions and answers are those of Positions.
use Rattle.std.specs.Prelude.{ℕ, zero, suc, ◌+◌, ◌-◌, Bool, true, false, List, [], ◌∷◌, eqb, leb, ltb}
use Rattle.std.proofs.Math.Option.{Option, none, some}
use Rattle.base_words.specs.Words.{both, pick}
use Rattle.spec_rules.specs.Kinds.{list_record, pair_record, tuple_record, constructor_record, constr_case, int_case, bytes_case, list_case, list_with_tail_case}
use Rattle.spec_rules.specs.PanelFile.{record_kind, record_a, record_first, record_count, part, record_text, RecordKind, Integer_record, Bytes_record, List_record, Pair_record, Tuple_record, Constructor_record, Unknown_record, record_kind_of}
pub use Rattle.spec_rules.specs.Positions.{Position, panel_root, Bound, Walked, reached, no_leaf, stuck}
use Rattle.spec_rules.specs.Rows.{Step, pair, tuple, constr, list, listtail, Path, Binding}
use Rattle.spec_rules.specs.Splitting.{Test, Constr, Int, Bytes, ListOf, ListWithTail, same_test}
use Rattle.spec_rules.specs.Building.{Tree, Cases, absent, leaf, hoist, switch, listswitch, cnil, ccons}

-- ---- following a path: "Wrong kind or missing part: 32" is none
-- part i of record r, which must be of this kind and have it
unfoldable pub part_of : List ℕ → ℕ → ℕ → ℕ → Option Position
unfolding record_kind record_first record_count part
part_of v kind r i =
    pick (both (eqb (record_kind v r) kind) (ltb i (record_count v r))) (some (record { place = part v (record_first v r + i); dropped = 0 })) none

-- what is left of a list after its first i elements
unfoldable pub tail_of : List ℕ → ℕ → ℕ → Option Position
unfolding record_kind record_count
tail_of v r i =
    pick (both (eqb (record_kind v r) list_record) (leb i (record_count v r))) (some (record { place = r; dropped = i })) none

unfoldable pub take_step : List ℕ → Step → Position → Option Position
unfolding part_of tail_of
take_step v (pair i t) x = part_of v pair_record x.place i
take_step v (tuple i t) x = part_of v tuple_record x.place i
take_step v (constr i b t) x = part_of v constructor_record x.place i
take_step v (list i t) x = part_of v list_record x.place (x.dropped + i)
take_step v (listtail i t) x = tail_of v x.place (x.dropped + i)

unfoldable pub follow : List ℕ → Path → Position → Option Position
unfolding take_step
follow v [] x = some x
follow v (s ∷ p) x = elim (take_step v s x) [ none ↦ none | some y ↦ follow v p y ]

-- ---- bindings at a leaf
unfoldable pub bound : List ℕ → List Binding → Option (List Bound)
unfolding follow
bound v [] = some []
bound v (b ∷ bs) =
    elim (follow v b.path panel_root) [
      | none ↦ none
      | some x ↦ elim (bound v bs) [ none ↦ none | some xs ↦ some (record { name = b.name; position = x } ∷ xs) ]
    ]

unfoldable pub at_leaf : ℕ → Option (List Bound) → Walked
at_leaf c none = stuck
at_leaf c (some xs) = reached c xs

-- ---- what a part shows to a test
unfoldable pub shown : List ℕ → ℕ → RecordKind → Option Test
unfolding record_a record_text
shown v r Integer_record = some (Int (record_text v r))
shown v r Bytes_record = some (Bytes (record_text v r))
shown v r List_record = none
shown v r Pair_record = none
shown v r Tuple_record = none
shown v r Constructor_record = some (Constr (record_a v r))
shown v r Unknown_record = none

unfoldable pub shown_at : List ℕ → Position → Option Test
unfolding record_kind record_kind_of shown
shown_at v x = shown v x.place (record_kind_of (record_kind v x.place))

-- the length of the list at a position, less the dropped ones
unfoldable pub length_at : List ℕ → Position → Option ℕ
unfolding record_kind record_count
length_at v x = pick (eqb (record_kind v x.place) list_record) (some (record_count v x.place - x.dropped)) none

unfoldable pub test_kind : Test → ℕ
test_kind (Constr a) = constr_case
test_kind (Int w) = int_case
test_kind (Bytes w) = bytes_case
test_kind (ListOf n) = list_case
test_kind (ListWithTail n) = list_with_tail_case

-- the kind of a switch is that of its cases, which are all alike
unfoldable pub first_kind : Cases → ℕ
unfolding test_kind
first_kind cnil = 5
first_kind (ccons t at a cs) = test_kind t

-- ---- where a switch goes on, by the part at its path; "Wrong kind or missing part: 32"
unfoldable pub of_this_kind : ℕ → Option Test → (Test → Walked) → Walked
unfolding test_kind
of_this_kind k none go = stuck
of_this_kind k (some t) go = elim (eqb (test_kind t) k) [ true ↦ go t | false ↦ stuck ]

unfoldable pub at_part : List ℕ → ℕ → Option Position → (Test → Walked) → Walked
unfolding shown_at of_this_kind
at_part v k none go = stuck
at_part v k (some x) go = of_this_kind k (shown_at v x) go

unfoldable pub of_length : Option ℕ → (ℕ → Walked) → Walked
of_length none go = stuck
of_length (some n) go = go n

unfoldable pub at_list : List ℕ → Option Position → (ℕ → Walked) → Walked
unfolding length_at of_length
at_list v none go = stuck
at_list v (some x) go = of_length (length_at v x) go

-- ---- "List switch: the first of the exact length, else the first of the largest tail number not above it"
-- one more than a tail case's number if that is not above n; 0 for any other case
unfoldable pub tail_number : ℕ → Test → ℕ
tail_number n (Constr a) = 0
tail_number n (Int w) = 0
tail_number n (Bytes w) = 0
tail_number n (ListOf k) = 0
tail_number n (ListWithTail k) = pick (leb k n) (suc k) 0

unfoldable pub largest_tail : ℕ → Cases → ℕ
unfolding tail_number
largest_tail n cnil = 0
largest_tail n (ccons t at a cs) = elim (leb (tail_number n t) (largest_tail n cs)) [ true ↦ largest_tail n cs | false ↦ tail_number n t ]

unfoldable pub at_tail : ℕ → (ℕ → Walked) → (Unit {0} → Walked) → Walked
at_tail zero go otherwise = otherwise tt
at_tail (suc k) go otherwise = go k

unfoldable pub if_same : Bool → (Unit {0} → Walked) → (Unit {0} → Walked) → Walked
if_same true go otherwise = go tt
if_same false go otherwise = otherwise tt

-- "Switch: the first case that holds. .. Else the default; with none, No leaf." A hoist is passed over.
unfoldable mutual
  unfolding follow bound at_leaf at_part at_list at_tail if_same first_kind largest_tail same_test

  pub walk : Tree → List ℕ → Walked
  walk absent v = no_leaf
  walk (leaf c bs) v = at_leaf c (bound v bs)
  walk (hoist c bs a) v = walk a v
  walk (switch p cs d) v = at_part v (first_kind cs) (follow v p panel_root) (λ t. walk_cases cs t v (λ else. walk d v))
  walk (listswitch p cs ts d) v =
      at_list v (follow v p panel_root)
      (λ n. walk_cases cs (ListOf n) v (λ else. at_tail (largest_tail n ts) (λ k. walk_cases ts (ListWithTail k) v (λ else. walk d v)) (λ else. walk d v)))

  -- the first case of this test, or else
  pub walk_cases : Cases → Test → List ℕ → (Unit {0} → Walked) → Walked
  walk_cases cnil t v otherwise = otherwise tt
  walk_cases (ccons u at a cs) t v otherwise = if_same (same_test t u) (λ go. walk a v) (λ on. walk_cases cs t v otherwise)
