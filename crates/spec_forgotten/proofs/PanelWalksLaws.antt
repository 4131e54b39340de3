-- The walk on a panel file and the walk on the value that it holds end alike, in every tree: each switch takes the same branch
-- (`walks_alike`). Only a binding whose part is missing stops the walk on the file and not the one on the value.
use Prim.Native.Nat.{ℕ, zero, suc, ◌+◌, ◌-◌, ◌<◌}
use Rattle.std.proofs.Common.{◌∙◌}
use native.Mathlib.Omega.{arith}
use Rattle.std.specs.Prelude.{◌≡◌, Bool}
use Rattle.std.proofs.Math.Path.{refl, sym, ap}
use Rattle.std.proofs.Math.Bool.{true, false}
use mathlib.Core.List.{List}
use Rattle.std.proofs.Math.Option.{Option, none, some}
use Rattle.std.proofs.Math.Dec.{eqb}
use borrow.Author.Tests.{eqb-true}
use Rattle.base_words.specs.Words.{pick}
use Rattle.spec_rules.specs.PanelFile.{records, record_kind, record_count, RecordKind, Integer_record, Bytes_record, List_record, Pair_record, Tuple_record, Constructor_record, Unknown_record, record_kind_of}
use Rattle.spec_rules.specs.Rows.{Path}
use Rattle.spec_rules.specs.Splitting.{Test, ListOf, ListWithTail, same_test}
use Rattle.spec_rules.specs.Building.{Tree, Cases, absent, leaf, hoist, switch, listswitch, cnil, ccons}
use Rattle.spec_rules.specs.Hoisting.{Case, how_many, nodes_in, nodes_in_of}
use Rattle.spec_rules.specs.Walking.{Position, panel_root, Bound, Walked, reached, no_leaf, stuck, follow, bound, at_leaf, shown, shown_at, length_at, test_kind, first_kind, of_this_kind, at_part, of_length, at_list, largest_tail, at_tail, if_same, walk, walk_cases}
use Rattle.spec_accepted.specs.PanelFacts.{PanelAccepted}
use Rattle.spec_forgotten.specs.Values.{Value, an_integer, a_byte_string, whole, a_list, a_pair, a_tuple, a_constructor, whole_kind, part_along, shows_whole, shows, length_of, Ended, at_clause, without, stuck_on, no_node, took, fell, on_test, on_part, on_count, on_length, on_tail, on_same, walk_on, cases_on}
use Rattle.spec_forgotten.specs.PanelValues.{value_of_kind, panel_value}
use Rattle.spec_forgotten.specs.PanelFitsLaws.{value_here}
use Rattle.spec_forgotten.specs.PanelWalksLaws.{kind_of, drop_of, drop_zero, val, value_at, InFile, at_kind, as_list, many_at, of_position, follow_agrees, EndsAlike}

-- ---- kinds
shows_drop : (d : ℕ) (y : Value) → shows (drop_of d y) ≡ shows y
unfolding shows drop_of
shows_drop d (an_integer w) = refl
shows_drop d (a_byte_string w) = refl
shows_drop d (whole a_list vs) = refl
shows_drop d (whole a_pair vs) = refl
shows_drop d (whole a_tuple vs) = refl
shows_drop d (whole (a_constructor a) vs) = refl

no_length : (y : Value) → eqb (kind_of y) 2 ≡ false → length_of y ≡ none
unfolding kind_of length_of
no_length (an_integer w) h = refl
no_length (a_byte_string w) h = refl
no_length (whole k vs) h = rw h

module _ (v : List ℕ) (a : PanelAccepted v) where
  -- ---- what a position shows
  shows_at : (x : Position) → x.place < records v → shows (value_at v a x) ≡ shown_at v x
  unfolding value_at shown_at
  shows_at x h =
      shows_drop x.dropped (val v a x.place) ∙ ap shows (value_here v a x.place h) ∙ go (record_kind_of (record_kind v x.place))
    where
      go : (kind : RecordKind) → shows (value_of_kind (val v a) v x.place kind) ≡ shown v x.place kind
      go Integer_record = unfold shows value_of_kind shown in refl
      go Bytes_record = unfold shows value_of_kind shown in refl
      go List_record = unfold shows shows_whole value_of_kind shown in refl
      go Pair_record = unfold shows shows_whole value_of_kind shown in refl
      go Tuple_record = unfold shows shows_whole value_of_kind shown in refl
      go Constructor_record = unfold shows shows_whole value_of_kind shown in refl
      go Unknown_record = unfold shows shows_whole value_of_kind shown in refl

  length_at_lem : (x : Position) → x.place < records v → length_of (value_at v a x) ≡ length_at v x
  unfolding length_at
  length_at_lem x h = go (eqb (record_kind v x.place) 2) refl
    where
      go : (b : Bool) → eqb (record_kind v x.place) 2 ≡ b → length_of (value_at v a x) ≡ pick b (some (record_count v x.place - x.dropped)) none
      go true e =
          ap length_of (as_list v a x h (eqb-true (record_kind v x.place) 2 e)) ∙ (unfold length_of whole_kind in (ap some (many_at v a x)))
      go false e = no_length (value_at v a x) (ap (λ n. eqb n 2) (at_kind v a x h) ∙ e)

  -- ---- the walks
  took_alike : (w : Walked) (k b : ℕ) (e : Ended) → EndsAlike v a w e → EndsAlike v a w (took k b e)
  unfolding took
  took_alike (reached c xs) k b (at_clause d) h = h
  took_alike (reached c xs) k b (without n ts) h = h
  took_alike (reached c xs) k b stuck_on h = h
  took_alike (reached c xs) k b no_node h = h
  took_alike no_leaf k b (at_clause d) h = h
  took_alike no_leaf k b (without n ts) h = h
  took_alike no_leaf k b stuck_on h = h
  took_alike no_leaf k b no_node h = h
  took_alike stuck k b (at_clause d) h = h
  took_alike stuck k b (without n ts) h = h
  took_alike stuck k b stuck_on h = h
  took_alike stuck k b no_node h = h

  fell_alike : (w : Walked) (k : ℕ) (e : Ended) → EndsAlike v a w e → EndsAlike v a w (fell k e)
  unfolding fell took
  fell_alike (reached c xs) k (at_clause d) h = h
  fell_alike (reached c xs) k (without n ts) h = h
  fell_alike (reached c xs) k stuck_on h = h
  fell_alike (reached c xs) k no_node h = h
  fell_alike no_leaf k (at_clause d) h = h
  fell_alike no_leaf k (without n ts) h = h
  fell_alike no_leaf k stuck_on h = h
  fell_alike no_leaf k no_node h = h
  fell_alike stuck k (at_clause d) h = h
  fell_alike stuck k (without n ts) h = h
  fell_alike stuck k stuck_on h = h
  fell_alike stuck k no_node h = h

  leaf_alike : (c : ℕ) (o : Option (List Bound)) → EndsAlike v a (at_leaf c o) (at_clause c)
  unfolding at_leaf
  leaf_alike c none = tt
  leaf_alike c (some xs) = refl

  test_alike : (kind : ℕ) (o : Option Test) (f : Test → Walked) (g : Test → Ended) → ((t : Test) → EndsAlike v a (f t) (g t)) → EndsAlike v a (of_this_kind kind o f) (on_test kind o g)
  unfolding of_this_kind on_test
  test_alike kind none f g h = tt
  test_alike kind (some t) f g h = go (eqb (test_kind t) kind)
    where
      go : (b : Bool) → EndsAlike v a (elim b as (λ z. Walked) [ true ↦ f t | false ↦ stuck ]) (elim b as (λ z. Ended) [ true ↦ g t | false ↦ stuck_on ])
      go true = h t
      go false = tt

  count_alike : (o : Option ℕ) (f : ℕ → Walked) (g : ℕ → Ended) → ((n : ℕ) → EndsAlike v a (f n) (g n)) → EndsAlike v a (of_length o f) (on_count o g)
  unfolding of_length on_count
  count_alike none f g h = tt
  count_alike (some n) f g h = h n

  tail_alike : (m : ℕ) (f : ℕ → Walked) (g : ℕ → Ended) (x : Unit {0} → Walked) (y : Unit {0} → Ended) → ((n : ℕ) → EndsAlike v a (f n) (g n)) → EndsAlike v a (x tt) (y tt)
      → EndsAlike v a (at_tail m f x) (on_tail m g y)
  unfolding at_tail on_tail
  tail_alike zero f g x y h k = k
  tail_alike (suc m) f g x y h k = h m

  same_alike : (b : Bool) (f : Unit {0} → Walked) (g : Unit {0} → Ended) (x : Unit {0} → Walked) (y : Unit {0} → Ended) → EndsAlike v a (f tt) (g tt) → EndsAlike v a (x tt) (y tt)
      → EndsAlike v a (if_same b f x) (on_same b g y)
  unfolding if_same on_same
  same_alike true f g x y h k = h
  same_alike false f g x y h k = k

  -- the panel's root
  root_in : InFile v a panel_root
  root_in = record { known = a.is_laid.some_record; fewer = omega arith }

  root_value : value_at v a panel_root ≡ panel_value v
  unfolding value_at panel_value
  root_value = drop_zero (val v a 0)

  part_alike : (kind : ℕ) (p : Path) (f : Test → Walked) (g : Test → Ended) → ((t : Test) → EndsAlike v a (f t) (g t)) → EndsAlike v a (at_part v kind (follow v p panel_root) f) (on_part kind (part_along p (panel_value v)) g)
  unfolding at_part on_part
  part_alike kind p f g h =
      let r = follow_agrees v a p panel_root root_in in
      let same : part_along p (panel_value v) ≡ of_position v a (follow v p panel_root) = ap (part_along p) (sym root_value) ∙ r.same in
      rw same (go (follow v p panel_root) r.inside)
    where
      go : (o : Option Position) → ((y : Position) → o ≡ some y → InFile v a y) → EndsAlike v a (at_part v kind o f) (on_part kind (of_position v a o) g)
      go none i = tt
      go (some y) i =
          rw (shows_at y (i y refl).known) (test_alike kind (shown_at v y) f g h)

  length_alike : (p : Path) (f : ℕ → Walked) (g : ℕ → Ended) → ((n : ℕ) → EndsAlike v a (f n) (g n)) → EndsAlike v a (at_list v (follow v p panel_root) f) (on_length (part_along p (panel_value v)) g)
  unfolding at_list on_length
  length_alike p f g h =
      let r = follow_agrees v a p panel_root root_in in
      let same : part_along p (panel_value v) ≡ of_position v a (follow v p panel_root) = ap (part_along p) (sym root_value) ∙ r.same in
      rw same (go (follow v p panel_root) r.inside)
    where
      go : (o : Option Position) → ((y : Position) → o ≡ some y → InFile v a y) → EndsAlike v a (at_list v o f) (on_length (of_position v a o) g)
      go none i = tt
      go (some y) i =
          rw (length_at_lem y (i y refl).known) (count_alike (length_at v y) f g h)

  mutual
    unfolding walk walk_on

    -- THEOREM: in every tree the two walks end alike
    pub walks_alike : (b : Tree) (k : ℕ) → EndsAlike v a (walk b v) (walk_on k b (panel_value v))
    walks_alike absent k = tt
    walks_alike (leaf c bs) k = leaf_alike c (bound v bs)
    walks_alike (hoist c bs b) k = walks_alike b (k + 1)
    walks_alike (switch p cs d) k =
        part_alike (first_kind cs) p (λ t. walk_cases cs t v (λ else. walk d v)) (λ t. cases_on k 0 (k + 1) cs t (panel_value v) (λ else. fell k (walk_on (k + 1 + nodes_in_of cs) d (panel_value v))))
        (λ t. cases_alike cs k 0 (k + 1) t (λ else. walk d v) (λ else. fell k (walk_on (k + 1 + nodes_in_of cs) d (panel_value v)))
        (fell_alike (walk d v) k (walk_on (k + 1 + nodes_in_of cs) d (panel_value v)) (walks_alike d (k + 1 + nodes_in_of cs))))
    walks_alike (listswitch p cs ts d) k =
        length_alike p
        (λ n. walk_cases cs (ListOf n) v (λ else. at_tail (largest_tail n ts) (λ j. walk_cases ts (ListWithTail j) v (λ else. walk d v)) (λ else. walk d v)))
        (λ n. cases_on k 0 (k + 1) cs (ListOf n) (panel_value v)
        (λ else. on_tail (largest_tail n ts)
        (λ j. cases_on k (how_many cs) (k + 1 + nodes_in_of cs) ts (ListWithTail j) (panel_value v) (λ else. fell k (walk_on (k + 1 + nodes_in_of cs + nodes_in_of ts) d (panel_value v))))
        (λ else. fell k (walk_on (k + 1 + nodes_in_of cs + nodes_in_of ts) d (panel_value v)))))
        (λ n. cases_alike cs k 0 (k + 1) (ListOf n)
        (λ else. at_tail (largest_tail n ts) (λ j. walk_cases ts (ListWithTail j) v (λ else. walk d v)) (λ else. walk d v))
        (λ else. on_tail (largest_tail n ts)
        (λ j. cases_on k (how_many cs) (k + 1 + nodes_in_of cs) ts (ListWithTail j) (panel_value v) (λ else. fell k (walk_on (k + 1 + nodes_in_of cs + nodes_in_of ts) d (panel_value v))))
        (λ else. fell k (walk_on (k + 1 + nodes_in_of cs + nodes_in_of ts) d (panel_value v))))
        (tail_alike (largest_tail n ts) (λ j. walk_cases ts (ListWithTail j) v (λ else. walk d v))
        (λ j. cases_on k (how_many cs) (k + 1 + nodes_in_of cs) ts (ListWithTail j) (panel_value v) (λ else. fell k (walk_on (k + 1 + nodes_in_of cs + nodes_in_of ts) d (panel_value v))))
        (λ else. walk d v) (λ else. fell k (walk_on (k + 1 + nodes_in_of cs + nodes_in_of ts) d (panel_value v)))
        (λ j. cases_alike ts k (how_many cs) (k + 1 + nodes_in_of cs) (ListWithTail j) (λ else. walk d v) (λ else. fell k (walk_on (k + 1 + nodes_in_of cs + nodes_in_of ts) d (panel_value v)))
        (fell_alike (walk d v) k (walk_on (k + 1 + nodes_in_of cs + nodes_in_of ts) d (panel_value v)) (walks_alike d (k + 1 + nodes_in_of cs + nodes_in_of ts))))
        (fell_alike (walk d v) k (walk_on (k + 1 + nodes_in_of cs + nodes_in_of ts) d (panel_value v)) (walks_alike d (k + 1 + nodes_in_of cs + nodes_in_of ts)))))

    cases_alike : (cs : Cases) (k i j : ℕ) (t : Test) (x : Unit {0} → Walked) (y : Unit {0} → Ended) → EndsAlike v a (x tt) (y tt)
        → EndsAlike v a (walk_cases cs t v x) (cases_on k i j cs t (panel_value v) y)
    cases_alike cnil k i j t x y h = h
    cases_alike (ccons u at b cs) k i j t x y h =
        same_alike (same_test t u) (λ go. walk b v) (λ go. took k (Case i) (walk_on j b (panel_value v))) (λ on. walk_cases cs t v x) (λ on. cases_on k (i + 1) (j + nodes_in b) cs t (panel_value v) y)
        (took_alike (walk b v) k (Case i) (walk_on j b (panel_value v)) (walks_alike b j)) (cases_alike cs k (i + 1) (j + nodes_in b) t x y h)
