-- Rule 4's pass down the rows is the filters:
--
--     split-filters : (p : Path) (rs : List Row) → split p rs ≡ split_by_filters p rs
--
-- for all rows. With it, what the filters say of a case: its test is that of a pattern in the column, and a pattern's own test is a case.
use Prim.Native.Nat.{ℕ, ◌≤◌}
use Rattle.std.proofs.Math.Path.{◌≡◌, refl, sym, ap, ap₂, fun_ext}
use Rattle.std.proofs.Common.{◌∙◌, inl, inr, true≢false}
use Rattle.std.specs.Prelude.{◌⊎◌, Bool}
use Rattle.std.proofs.Math.Bool.{true, false}
use Rattle.std.proofs.lemmas.Bool.{false≢true}
use mathlib.Core.List.{List, [], ◌∷◌, ◌++◌, map, append-nil, append_assoc}
use Rattle.std.proofs.Math.Option.{Option, none, some}
use Rattle.base_words.specs.Words.{either}
use Rattle.base_words.specs.WordsLaws.{either_true, either_false, either_first_true, either_second_true}
use Rattle.spec_rules.specs.Patterns.{Pat}
use Rattle.spec_rules.specs.Rows.{Path, Cell, Row, opened_columns}
use Rattle.spec_rules.specs.Columns.{test_at}
use Rattle.spec_rules.specs.Splitting.{Test, same_test, joined, tailless_length, tailed_length, longest, column, open_row, text_start, Group, add_row, join, join_each, add_to_all, go_down, split, Met, is_met, meet, meet_all, cases_of, covers, default_rows, case_rows, case_opens, filtered, split_by_filters}
use Rattle.spec_rules.specs.SplittingLaws.{same_test_sound, same_test_refl, same_test_sym, either_none, either_assoc, not_true_false, among, met_at, is_met_append, is_met_meet, InRange, covers_joined, joined_in_range, Distinct, DistinctMet, joined_distinct, All, any_covers, met, meet_all_append, column_append, default_append, rows_append, opens_append, rows_new, opens_new, Short, by_filters, longest_bounds}

-- ---- no test twice
distinct_more : (start : ℕ) (t : Test) (ms : List Met) → DistinctMet ms → is_met t ms ≡ false → DistinctMet (ms ++ met_at start t ∷ [])
unfolding is_met
distinct_more start t [] d e = (refl, tt)
distinct_more start t (m ∷ ms) d e =
    let (s, f) = either_false (same_test t m.test) (is_met t ms) e in
    (is_met_append m.test ms (met_at start t) ∙ ap₂ either d.0 (same_test_sym m.test t ∙ s), distinct_more start t ms d.1 f)

meet_distinct : (start : ℕ) (ms : List Met) (ts : List Test) → DistinctMet ms → DistinctMet (meet start ms ts)
unfolding meet
meet_distinct start ms [] d = d
meet_distinct start ms (t ∷ ts) d = go (is_met t ms) refl (λ ns. meet_distinct start ns ts)
  where
    go : (b : Bool) → is_met t ms ≡ b → ((ns : List Met) → DistinctMet ns → DistinctMet (meet start ns ts)) → DistinctMet (meet start ms (t ∷ ts))
    go true x ih = rw (x, meet) (ih ms d)
    go false x ih = rw (x, meet) (ih (ms ++ met_at start t ∷ []) (distinct_more start t ms d x))

meet_all_distinct : (tailless tails : ℕ) (ms : List Met) (qs : List Pat) → DistinctMet ms → DistinctMet (meet_all tailless tails ms qs)
unfolding meet_all
meet_all_distinct tailless tails ms [] d = d
meet_all_distinct tailless tails ms (q ∷ qs) d =
    meet_all_distinct tailless tails (meet (text_start q) ms (joined tailless tails q)) qs (meet_distinct (text_start q) ms (joined tailless tails q) d)

-- ---- the cases of a column
module _ (tailless tails : ℕ) where
  any_joins : Test → List Pat → Bool
  any_joins t [] = false
  any_joins t (q ∷ qs) = either (among t (joined tailless tails q)) (any_joins t qs)

  is_met_meet_all : (t : Test) (ms : List Met) (qs : List Pat) → is_met t (meet_all tailless tails ms qs) ≡ either (is_met t ms) (any_joins t qs)
  unfolding meet_all any_joins
  is_met_meet_all t ms [] = sym (either_none (is_met t ms))
  is_met_meet_all t ms (q ∷ qs) =
      is_met_meet_all t (meet (text_start q) ms (joined tailless tails q)) qs
      ∙ ap (λ b. either b (any_joins t qs)) (is_met_meet t (text_start q) ms (joined tailless tails q))
      ∙ either_assoc (is_met t ms) (among t (joined tailless tails q)) (any_joins t qs)

  any_joins_covers : (t : Test) (qs : List Pat) → InRange tailless tails t → any_joins t qs ≡ any_covers t qs
  unfolding any_joins any_covers
  any_joins_covers t [] h = refl
  any_joins_covers t (q ∷ qs) h = ap₂ either (sym (covers_joined tailless tails q t h)) (any_joins_covers t qs h)

  any_joins_in_range : (t : Test) (qs : List Pat) → All (λ q. tailless_length q ≤ tailless) qs → any_joins t qs ≡ true → InRange tailless tails t
  unfolding any_joins
  any_joins_in_range t [] l e = absurd (false≢true e)
  any_joins_in_range t (q ∷ qs) l e = go (either_true (among t (joined tailless tails q)) (any_joins t qs) e) (any_joins_in_range t qs l.1)
    where
      go : (among t (joined tailless tails q) ≡ true) ⊎ (any_joins t qs ≡ true) → (any_joins t qs ≡ true → InRange tailless tails t) → InRange tailless tails t
      go (inl x) ih = joined_in_range tailless tails q t l.0 x
      go (inr x) ih = ih x

  is_met_met : (t : Test) (qs : List Pat) → is_met t (met tailless tails qs) ≡ any_joins t qs
  unfolding is_met
  is_met_met t qs = is_met_meet_all t [] qs

  met_in_range : (t : Test) (qs : List Pat) → All (λ q. tailless_length q ≤ tailless) qs → is_met t (met tailless tails qs) ≡ true → InRange tailless tails t
  met_in_range t qs l e = any_joins_in_range t qs l (sym (is_met_met t qs) ∙ e)

  met_covers : (t : Test) (qs : List Pat) → InRange tailless tails t → is_met t (met tailless tails qs) ≡ any_covers t qs
  met_covers t qs h = is_met_met t qs ∙ any_joins_covers t qs h

-- ---- the groups of the cases met
abbrev group_of : Path → List Row → Met → Group
group_of p rs m = record { test = m.test; start = m.start; opens = case_opens p m.test rs; rows = case_rows p m.test rs }

filtered_map : (p : Path) (rs : List Row) (ms : List Met) → filtered p rs ms ≡ map (group_of p rs) ms
unfolding filtered
filtered_map p rs [] = refl
filtered_map p rs (m ∷ ms) = ap (λ z. group_of p rs m ∷ z) (filtered_map p rs ms)

map_agree : (f g : Met → Group) (ms : List Met) → ((m : Met) → is_met m.test ms ≡ true → f m ≡ g m) → map f ms ≡ map g ms
unfolding is_met
map_agree f g [] h = refl
map_agree f g (m ∷ ms) h =
    ap₂ (λ (x : Group) (xs : List Group). x ∷ xs) (h m (either_first_true (same_test m.test m.test) (is_met m.test ms) (same_test_refl m.test)))
    (map_agree f g ms (λ n e. h n (either_second_true (same_test n.test m.test) (is_met n.test ms) e)))

-- Row r, with q in the column, joins the cases with the tests that f holds of; d are the rows of a new case.
module _ (p : Path) (done : List Row) (q : Pat) (r : Row) (d : List Row) where
  abbrev gain : Group → Group
  gain = add_row (open_row p q r) (opened_columns p q)

  gained : Bool → Group → Group
  gained true g = gain g
  gained false g = g

  gained_test : (b : Bool) (g : Group) → (gained b g).test ≡ g.test
  unfolding gained add_row
  gained_test true g = refl
  gained_test false g = refl

  groups : (Test → Bool) → List Met → List Group
  groups f ms = map (λ m. gained (f m.test) (group_of p done m)) ms

  abbrev also : (Test → Bool) → Test → Test → Bool
  also f t u = either (f u) (same_test u t)

  groups_also : (f : Test → Bool) (t : Test) (ms : List Met) → is_met t ms ≡ false → groups f ms ≡ groups (also f t) ms
  unfolding groups is_met
  groups_also f t [] e = refl
  groups_also f t (m ∷ ms) e =
      let (s, h) = either_false (same_test t m.test) (is_met t ms) e in
      ap₂ (λ (b : Bool) (gs : List Group). gained b (group_of p done m) ∷ gs)
      (sym (ap (either (f m.test)) (same_test_sym m.test t ∙ s) ∙ either_none (f m.test)))
      (groups_also f t ms h)

  join_met : (f : Test → Bool) (t : Test) (ms : List Met) → f t ≡ false → DistinctMet ms → is_met t ms ≡ true
      → join p q r d t (groups f ms) ≡ groups (also f t) ms
  unfolding groups is_met join
  join_met f t [] x n e = absurd (false≢true e)
  join_met f t (m ∷ ms) x n e = go (same_test t m.test) refl (join_met f t ms x n.1)
    where
      first : same_test t m.test ≡ true → gain (gained (f m.test) (group_of p done m)) ≡ gained (also f t m.test) (group_of p done m)
      first s =
          let u : t ≡ m.test = same_test_sound t m.test s in
          let y : f m.test ≡ false = ap f (sym u) ∙ x in
          rw (y, same_test_sym m.test t, s) (unfold gained in refl)

      go : (b : Bool) → same_test t m.test ≡ b → (is_met t ms ≡ true → join p q r d t (groups f ms) ≡ groups (also f t) ms)
          → join p q r d t (groups f (m ∷ ms)) ≡ groups (also f t) (m ∷ ms)
      go true s ih =
          rw (gained_test (f m.test) (group_of p done m), s, join)
          (ap₂ (λ (g : Group) (gs : List Group). g ∷ gs) (first s) (groups_also f t ms (rw (same_test_sound t m.test s) n.0)))
      go false s ih =
          rw (gained_test (f m.test) (group_of p done m), s, join)
          (ap₂ (λ (b : Bool) (gs : List Group). gained b (group_of p done m) ∷ gs)
          (sym (ap (either (f m.test)) (same_test_sym m.test t ∙ s) ∙ either_none (f m.test)))
          (ih (rw s at e)))

  -- a case not met yet, which no pattern of the column belongs to
  abbrev IsNew : Test → Type 0
  IsNew t = ◌≡◌ {A = Group} (group_of p done (met_at (text_start q) t)) (record { test = t; start = text_start q; opens = []; rows = d })

  join_new : (f : Test → Bool) (t : Test) (ms : List Met) → f t ≡ false → IsNew t → is_met t ms ≡ false
      → join p q r d t (groups f ms) ≡ groups (also f t) (ms ++ met_at (text_start q) t ∷ [])
  unfolding groups is_met join gained
  join_new f t [] x n e = rw (x, same_test_refl t) (ap (λ (g : Group). gain g ∷ []) (sym n))
  join_new f t (m ∷ ms) x n e =
      let (s, h) = either_false (same_test t m.test) (is_met t ms) e in
      rw (gained_test (f m.test) (group_of p done m), s, join)
      (ap₂ (λ (b : Bool) (gs : List Group). gained b (group_of p done m) ∷ gs)
      (sym (ap (either (f m.test)) (same_test_sym m.test t ∙ s) ∙ either_none (f m.test)))
      (join_new f t ms x n h))

  join_each_lem : (f : Test → Bool) (ts : List Test) (ms : List Met) → Distinct ts → ((t : Test) → among t ts ≡ true → f t ≡ false) → DistinctMet ms
      → ((t : Test) → among t ts ≡ true → is_met t ms ≡ false → IsNew t)
      → join_each p q r d ts (groups f ms) ≡ groups (λ t. either (f t) (among t ts)) (meet (text_start q) ms ts)
  unfolding join_each meet among
  join_each_lem f [] ms a x b n = ap (λ g. groups g ms) (fun_ext (λ t. sym (either_none (f t))))
  join_each_lem f (t ∷ ts) ms a x b n = go (is_met t ms) refl (join_each_lem (also f t) ts)
    where
      here : f t ≡ false
      here = x t (either_first_true (same_test t t) (among t ts) (same_test_refl t))

      later : (u : Test) → among u ts ≡ true → also f t u ≡ false
      later u e =
          ap₂ either (x u (either_second_true (same_test u t) (among u ts) e))
          (not_true_false (same_test u t) (λ s. true≢false (sym e ∙ ap (λ z. among z ts) (same_test_sound u t s) ∙ a.0)))

      regroup : (ns : List Met) → groups (λ u. either (also f t u) (among u ts)) ns ≡ groups (λ u. either (f u) (either (same_test u t) (among u ts))) ns
      regroup ns = ap (λ g. groups g ns) (fun_ext (λ u. either_assoc (f u) (same_test u t) (among u ts)))

      new : (u : Test) → among u ts ≡ true → is_met u ms ≡ false → IsNew u
      new u e k = n u (either_second_true (same_test u t) (among u ts) e) k

      go : (c : Bool) → is_met t ms ≡ c
          → ((ns : List Met) → Distinct ts → ((u : Test) → among u ts ≡ true → also f t u ≡ false) → DistinctMet ns
          → ((u : Test) → among u ts ≡ true → is_met u ns ≡ false → IsNew u)
          → join_each p q r d ts (groups (also f t) ns) ≡ groups (λ u. either (also f t u) (among u ts)) (meet (text_start q) ns ts))
          → join_each p q r d ts (join p q r d t (groups f ms)) ≡ groups (λ u. either (f u) (either (same_test u t) (among u ts))) (meet (text_start q) ms (t ∷ ts))
      go true y ih =
          rw (y, meet)
          (ap (join_each p q r d ts) (join_met f t ms here b y) ∙ ih ms a.1 later b new ∙ regroup (meet (text_start q) ms ts))
      go false y ih =
          rw (y, meet)
          (ap (join_each p q r d ts) (join_new f t ms here (n t (either_first_true (same_test t t) (among t ts) (same_test_refl t)) y) y)
          ∙ ih (ms ++ met_at (text_start q) t ∷ []) a.1 later (distinct_more (text_start q) t ms b y)
          (λ u e k. new u e (either_false (is_met u ms) (same_test u t) (sym (is_met_append u ms (met_at (text_start q) t)) ∙ k)).0)
          ∙ regroup (meet (text_start q) (ms ++ met_at (text_start q) t ∷ []) ts))

  -- the row stands in the column with q, so that the filters give it to the cases that q covers
  gained_one : (m : Met) → test_at p r.tests ≡ some q → gained (covers q m.test) (group_of p done m) ≡ group_of p (done ++ r ∷ []) m
  unfolding gained add_row
  gained_one m x = go (covers q m.test) refl
    where
      both_append : (cs : List Cell) (ss : List Row) → case_opens p m.test (r ∷ []) ≡ cs → case_rows p m.test (r ∷ []) ≡ ss
          → ◌≡◌ {A = Group}
          (record { test = m.test; start = m.start; opens = case_opens p m.test done ++ cs; rows = case_rows p m.test done ++ ss })
          (group_of p (done ++ r ∷ []) m)
      both_append cs ss e f =
          λ i. record {
            test = m.test;
            start = m.start;
            opens = (ap (λ z. case_opens p m.test done ++ z) (sym e) ∙ sym (opens_append p m.test done (r ∷ []))) i;
            rows = (ap (λ z. case_rows p m.test done ++ z) (sym f) ∙ sym (rows_append p m.test done (r ∷ []))) i;
          }

      go : (b : Bool) → covers q m.test ≡ b → gained b (group_of p done m) ≡ group_of p (done ++ r ∷ []) m
      go true y =
          both_append (opened_columns p q) (open_row p q r ∷ [])
          (unfold case_opens in (rw (x, y, case_opens) (append-nil (opened_columns p q))))
          (unfold case_rows in (rw (x, y, case_rows)))
      go false y =
          (λ i. record {
            test = m.test;
            start = m.start;
            opens = sym (append-nil (case_opens p m.test done)) i;
            rows = sym (append-nil (case_rows p m.test done)) i;
          })
          ∙ both_append [] [] (unfold case_opens in (rw (x, y, case_opens))) (unfold case_rows in (rw (x, y, case_rows)))

-- ---- one row
groups_none : (p : Path) (done : List Row) (q : Pat) (r : Row) (d : List Row) (ms : List Met) → filtered p done ms ≡ groups p done q r d (λ t. false) ms
unfolding groups gained
groups_none p done q r d ms = filtered_map p done ms

wildcard_row : (p : Path) (done : List Row) (r : Row) (ms : List Met) → test_at p r.tests ≡ none → add_to_all r (filtered p done ms) ≡ filtered p (done ++ r ∷ []) ms
unfolding add_to_all filtered add_row
wildcard_row p done r [] x = refl
wildcard_row p done r (m ∷ ms) x = λ i. first i ∷ wildcard_row p done r ms x i
  where
    no_opens : case_opens p m.test (r ∷ []) ≡ []
    no_opens = unfold case_opens in (rw (x, case_opens))

    the_row : case_rows p m.test (r ∷ []) ≡ r ∷ []
    the_row = unfold case_rows in (rw (x, case_rows))

    first : ◌≡◌ {A = Group}
        (record { test = m.test; start = m.start; opens = case_opens p m.test done ++ []; rows = case_rows p m.test done ++ r ∷ [] })
        (group_of p (done ++ r ∷ []) m)
    first =
        λ i. record {
          test = m.test;
          start = m.start;
          opens = (ap (λ z. case_opens p m.test done ++ z) (sym no_opens) ∙ sym (opens_append p m.test done (r ∷ []))) i;
          rows = (ap (λ z. case_rows p m.test done ++ z) (sym the_row) ∙ sym (rows_append p m.test done (r ∷ []))) i;
        }

module _ (tailless tails : ℕ) (p : Path) where
  tested_row : (done : List Row) (r : Row) (q : Pat) → test_at p r.tests ≡ some q → All (Short tailless tails p) (column p done) → Short tailless tails p q
      → join_each p q r (default_rows p done) (joined tailless tails q) (filtered p done (met tailless tails (column p done)))
      ≡ filtered p (done ++ r ∷ []) (meet (text_start q) (met tailless tails (column p done)) (joined tailless tails q))
  tested_row done r q x l s =
      ap (join_each p q r (default_rows p done) (joined tailless tails q)) (groups_none p done q r (default_rows p done) before_it)
      ∙ join_each_lem p done q r (default_rows p done) (λ t. false) (joined tailless tails q) before_it (joined_distinct tailless tails q) (λ t e. refl)
      (meet_all_distinct tailless tails [] (column p done) tt) new
      ∙ unfold groups in (map_agree
      (λ m. gained p done q r (default_rows p done) (among m.test (joined tailless tails q)) (group_of p done m)) (group_of p (done ++ r ∷ [])) after_it
      (λ m e. ap (λ b. gained p done q r (default_rows p done) b (group_of p done m)) (sym (covers_joined tailless tails q m.test (in_range m.test e))) ∙ gained_one p done q r (default_rows p done) m x))
      ∙ sym (filtered_map p (done ++ r ∷ []) after_it)
    where
      before_it : List Met
      before_it = met tailless tails (column p done)

      after_it : List Met
      after_it = meet (text_start q) before_it (joined tailless tails q)

      in_range : (t : Test) → is_met t after_it ≡ true → InRange tailless tails t
      in_range t e = go (either_true (is_met t before_it) (among t (joined tailless tails q)) (sym (is_met_meet t (text_start q) before_it (joined tailless tails q)) ∙ e))
        where
          go : (is_met t before_it ≡ true) ⊎ (among t (joined tailless tails q) ≡ true) → InRange tailless tails t
          go (inl y) = met_in_range tailless tails t (column p done) l y
          go (inr y) = joined_in_range tailless tails q t s y

      new : (t : Test) → among t (joined tailless tails q) ≡ true → is_met t before_it ≡ false → IsNew p done q r (default_rows p done) t
      new t e k =
          let c : any_covers t (column p done) ≡ false = sym (met_covers tailless tails t (column p done) (joined_in_range tailless tails q t s e)) ∙ k in
          λ i. record { test = t; start = text_start q; opens = opens_new p t done c i; rows = rows_new p t done c i }

  all_back : (xs ys : List Pat) → All (Short tailless tails p) (xs ++ ys) → All (Short tailless tails p) xs × All (Short tailless tails p) ys
  all_back [] ys h = (tt, h)
  all_back (x ∷ xs) ys h = let (a, b) = all_back xs ys h.1 in ((h.0, a), b)

  -- after the rows `done`, the pass has what the filters make of them
  pub go_down_filters : (rs done : List Row) → All (Short tailless tails p) (column p (done ++ rs))
      → go_down tailless tails p rs (default_rows p done) (filtered p done (met tailless tails (column p done))) ≡ by_filters tailless tails p (done ++ rs)
  unfolding go_down
  go_down_filters [] done l = ap (by_filters tailless tails p) (sym (append-nil done))
  go_down_filters (r ∷ rs) done l = go (test_at p r.tests) refl (go_down_filters rs (done ++ r ∷ []) (rw append_assoc l))
    where
      with_r : by_filters tailless tails p ((done ++ r ∷ []) ++ rs) ≡ by_filters tailless tails p (done ++ r ∷ rs)
      with_r = ap (by_filters tailless tails p) (append_assoc done (r ∷ []) rs)

      go : (o : Option Pat) → test_at p r.tests ≡ o
          → go_down tailless tails p rs (default_rows p (done ++ r ∷ [])) (filtered p (done ++ r ∷ []) (met tailless tails (column p (done ++ r ∷ [])))) ≡ by_filters tailless tails p ((done ++ r ∷ []) ++ rs)
          → go_down tailless tails p (r ∷ rs) (default_rows p done) (filtered p done (met tailless tails (column p done))) ≡ by_filters tailless tails p (done ++ r ∷ rs)
      go none x ih =
          rw (x, go_down)
          (ap₂ (go_down tailless tails p rs)
          (sym (default_append p done (r ∷ []) ∙ ap (λ z. default_rows p done ++ z) the_row))
          (wildcard_row p done r (met tailless tails (column p done)) x ∙ ap (λ z. filtered p (done ++ r ∷ []) (met tailless tails z)) (sym same_column))
          ∙ ih ∙ with_r)
        where
          the_row : default_rows p (r ∷ []) ≡ r ∷ []
          the_row = unfold default_rows in (rw (x, default_rows))

          one_none : column p (r ∷ []) ≡ []
          one_none = unfold column in (rw (x, column))

          same_column : column p (done ++ r ∷ []) ≡ column p done
          same_column = column_append p done (r ∷ []) ∙ ap (λ z. column p done ++ z) one_none ∙ append-nil (column p done)
      go (some q) x ih =
          rw (x, go_down)
          (ap₂ (go_down tailless tails p rs)
          (sym (default_append p done (r ∷ []) ∙ ap (λ z. default_rows p done ++ z) no_default ∙ append-nil (default_rows p done)))
          (tested_row done r q x parts.0 (rw first at parts.1).0
          ∙ ap (filtered p (done ++ r ∷ [])) (sym (ap (met tailless tails) (column_append p done (r ∷ []) ∙ ap (λ z. column p done ++ z) one_some) ∙ meet_all_append tailless tails [] (column p done) q)))
          ∙ ih ∙ with_r)
        where
          no_default : default_rows p (r ∷ []) ≡ []
          no_default = unfold default_rows in (rw (x, default_rows))

          one_some : column p (r ∷ []) ≡ q ∷ []
          one_some = unfold column in (rw (x, column))

          first : column p (r ∷ rs) ≡ q ∷ column p rs
          first = unfold column in (rw (x, column))

          parts : All (Short tailless tails p) (column p done) × All (Short tailless tails p) (column p (r ∷ rs))
          parts = all_back (column p done) (column p (r ∷ rs)) (rw column_append at l)

-- ---- the longest lengths
-- THEOREM: the pass is the filters
pub split_filters : (p : Path) (rs : List Row) → split p rs ≡ split_by_filters p rs
unfolding split split_by_filters cases_of
split_filters p rs = start (go_down_filters (longest tailless_length (column p rs)) (longest tailed_length (column p rs)) p rs [] (longest_bounds tailless_length (column p rs)))
  where
    tailless : ℕ
    tailless = longest tailless_length (column p rs)

    tails : ℕ
    tails = longest tailed_length (column p rs)

    start : go_down tailless tails p rs (default_rows p []) (filtered p [] (met tailless tails (column p []))) ≡ by_filters tailless tails p rs
        → go_down tailless tails p rs [] [] ≡ by_filters tailless tails p rs
    start e = unfold default_rows filtered meet_all column in e

-- ---- what the filters say of a case
pub cases_of_in_range : (t : Test) (qs : List Pat) → is_met t (cases_of qs) ≡ true → InRange (longest tailless_length qs) (longest tailed_length qs) t
unfolding cases_of
cases_of_in_range t qs e = met_in_range (longest tailless_length qs) (longest tailed_length qs) t qs (longest_bounds tailless_length qs) e

-- a test up to the longest lengths is a case exactly if a pattern of the column belongs to it
pub cases_of_covers : (t : Test) (qs : List Pat) → InRange (longest tailless_length qs) (longest tailed_length qs) t → is_met t (cases_of qs) ≡ any_covers t qs
unfolding cases_of
cases_of_covers t qs h = met_covers (longest tailless_length qs) (longest tailed_length qs) t qs h

pub case_covered : (t : Test) (qs : List Pat) → is_met t (cases_of qs) ≡ true → any_covers t qs ≡ true
case_covered t qs e = sym (cases_of_covers t qs (cases_of_in_range t qs e)) ∙ e
