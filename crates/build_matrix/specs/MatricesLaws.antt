-- The clauses' matrix is sound, and with a sound one its default's and each case's; and rules 2 to 4 give the rows and columns of these.
-- Rests on the states of rows in LiveLaws, on the filters of HeldRows and on the order of Ordered.
use Rattle.std.specs.Prelude.{◌≡◌, Bool, leb, length, get_or, set, Some, None}
use Rattle.std.proofs.Math.Path.{refl, sym, ap, ap₂}
use Rattle.std.proofs.Common.{◌∙◌, true≢false, length-set, get_or-set_same, get_or-set_other}
use Rattle.std.proofs.Math.Bool.{true, false}
use mathlib.Core.List.{List, [], ◌∷◌, ◌++◌, map, map-append}
use Prim.Native.Nat.{ℕ, zero, suc, ◌+◌, ◌-◌, ◌≤◌, ◌<◌}
use native.Mathlib.Omega.{arith}
use borrow.Author.Tests.{lt-ltb, leb-true, leb-false, le-leb, lt-leb, eqb-true, eqb-false}
use Rattle.std.proofs.Math.Dec.{eqb}
use Rattle.std.proofs.Math.ListN.{length-append}
use Rattle.base_words.specs.Words.{both, pick}
use Rattle.spec_rules.specs.Limits.{patterns_most}
use Rattle.spec_rules.specs.Searching.{times}
use Rattle.spec_rules.specs.SearchingLaws.{times_agree}
use Rattle.spec_rules.specs.SheetFile.{patterns, clauses, root}
use Rattle.spec_rules.specs.SheetRefusals.{is_in}
use Rattle.spec_rules.specs.Patterns.{clause_patterns}
use Rattle.spec_rules.specs.Rows.{Path, bit, clause_row, clause_rows, opened_columns}
use Rattle.spec_rules.specs.Columns.{union, all_tests, columns, without, choice}
use Rattle.spec_rules.specs.Splitting.{Test, column, default_rows, case_rows, case_opens}
use Rattle.spec_rules.specs.SplittingLaws.{All, either_none}
use Rattle.spec_accepted.specs.SheetFacts.{Accepted}
use Rattle.spec_match.specs.Lists.{all_append, all_map}
use Rattle.build_table.specs.Standing.{clause_of, path_of, owner_of, pattern_of, is_test, class_of}
use Rattle.build_table.specs.ClassLaws.{same_class_path}
use Rattle.build_table.specs.Seen.{opened_tests, cell_at}
use Rattle.build_table.specs.MembersLaws.{test_at, test_inside}
use Rattle.build_matrix.specs.Columns.{Held}
use Rattle.build_matrix.specs.RowStates.{row_after, row_of, rows_of, up_from, clause_rows_lem}
use Rattle.build_matrix.specs.Numbers.{length_times, times_add, all_copies}
use Rattle.build_matrix.specs.Live.{available, live_in, is_test_of, is_inside, IsClass, State}
use Rattle.build_matrix.specs.MeetingLaws.{meeting, copies_in}
use Rattle.build_matrix.specs.LiveLaws.{TestOf, IsCell, Live, live_test_lem, inside_shut, inside_free, elsewhere, state_agree, state_first, held, state_wild, state_open, paths_next, length_next}
use Rattle.build_matrix.specs.HeldRows.{count_of, best_of, path_chosen, held_tests, wild_of, join_of, opens_of, joins_case, opened_at, Told, count_states, column_states, default_states, case_states, opens_states, best_is}
use Rattle.build_matrix.specs.Ordered.{path_before, classes_for, without_class, each_classes, each_union, each_most, without_classes, without_paths, without_one}
use Rattle.build_matrix.specs.Matrices.{TestIn, rows_at, columns_at, Rising, reached, Sound, gather, root_tests, marked}

-- ---- rising clauses
pub rising_later : (n from later : ℕ) (cs : List ℕ) → from ≤ later → Rising n later cs → Rising n from cs
rising_later n from later [] h r = tt
rising_later n from later (c ∷ cs) h r = (omega (arith, r.0), r.1, r.2)

pub rising_up : (n c k : ℕ) → c + k ≤ n → Rising n c (up_from c k)
unfolding up_from
rising_up n c zero h = tt
rising_up n c (suc k) h = (omega arith, omega arith, rising_up n (c + 1) k (omega arith))

rising_wild : (held : ℕ → Held) (n from : ℕ) (cs : List ℕ) → Rising n from cs → Rising n from (wild_of held cs)
unfolding wild_of
rising_wild held n from [] r = tt
rising_wild held n from (c ∷ cs) r = go (held c) refl (rising_wild held n (c + 1) cs r.2)
  where
    go : (h : Held) → held c ≡ h → Rising n (c + 1) (wild_of held cs) → Rising n from (wild_of held (c ∷ cs))
    go (Some p) e ih = rw (e, wild_of) (rising_later n from (c + 1) (wild_of held cs) (omega (arith, r.0)) ih)
    go None e ih = rw (e, wild_of) (r.0, r.1, ih)

rising_join : (joins : ℕ → Bool) (held : ℕ → Held) (n from : ℕ) (cs : List ℕ) → Rising n from cs → Rising n from (join_of joins held cs)
unfolding join_of
rising_join joins held n from [] r = tt
rising_join joins held n from (c ∷ cs) r = go (held c) refl (rising_join joins held n (c + 1) cs r.2)
  where
    tested : (b : Bool) → Rising n (c + 1) (join_of joins held cs) → Rising n from (pick b (c ∷ join_of joins held cs) (join_of joins held cs))
    tested true ih = (r.0, r.1, ih)
    tested false ih = rising_later n from (c + 1) (join_of joins held cs) (omega (arith, r.0)) ih

    go : (h : Held) → held c ≡ h → Rising n (c + 1) (join_of joins held cs) → Rising n from (join_of joins held (c ∷ cs))
    go (Some p) e ih = rw (e, join_of) (tested (joins p) ih)
    go None e ih = rw (e, join_of) (r.0, r.1, ih)

-- ---- what each has
all_next : (P : ℕ → Type 0) (xs : List ℕ) (x : ℕ) → All P xs → P x → All P (xs ++ x ∷ [])
all_next P [] x h p = (p, tt)
all_next P (y ∷ xs) x h p = (h.0, all_next P xs x h.1 p)

pub all_in : (P : ℕ → Type 0) (k : ℕ) (xs : List ℕ) → All P xs → is_in k xs ≡ true → P k
unfolding is_in
all_in P k [] h i = absurd (true≢false (sym i))
all_in P k (x ∷ xs) h i = go (eqb k x) refl (all_in P k xs h.1)
  where
    go : (b : Bool) → eqb k x ≡ b → (is_in k xs ≡ true → P k) → P k
    go true e ih = rw (eqb-true k x e) h.0
    go false e ih = ih (rw e at i)

length_gather : (f : ℕ → List ℕ) (x : ℕ) (xs : List ℕ) → length (gather f (x ∷ xs)) ≡ length (f x) + length (gather f xs)
unfolding gather
length_gather f x xs = length-append (f x) (gather f xs)

-- of those from c on, those at c and those from c + 1 on
one_less : (a b : Bool) (w c : ℕ) → bit (both (both a b) (leb c w)) ≡ bit (both (both a (eqb w c)) b) + bit (both (both a b) (leb (c + 1) w))
unfolding bit
one_less false b w c = refl
one_less true b w c = go b (eqb w c) refl (leb c w) refl
  where
    go : (b e : Bool) → eqb w c ≡ e → (f : Bool) → leb c w ≡ f → bit (both b (leb c w)) ≡ bit (both (eqb w c) b) + bit (both b (leb (c + 1) w))
    go false true x f y = rw x
    go false false x f y = rw x
    go true true x f y =
        let d = eqb-true w c x in
        rw (x, le-leb c w (omega arith), lt-leb (c + 1) w (omega arith))
    go true false x true y =
        let d = eqb-false w c x in
        let l = leb-true c w y in
        rw (x, y, le-leb (c + 1) w (below d l))
      where
        below : (w ≡ c → ⊥) → c ≤ w → c + 1 ≤ w
        below d l = omega arith
    go true false x false y = let l = leb-false c w y in rw (x, y, lt-leb (c + 1) w (omega arith))

-- ---- the tests of the column of a class
live_in_lem : (s opened : List ℕ) (k c p : ℕ) → live_in s opened k c ≡ Some p → TestIn s k p
live_in_lem s opened k c p e = let l = (live_test_lem s opened c k p e).0 in record { known = l.test_of.known; test = l.test_of.test; class = l.class_of_holds }

pub tests_in : (s opened : List ℕ) (k : ℕ) (cs : List ℕ) → All (TestIn s k) (held_tests (live_in s opened k) cs)
unfolding held_tests
tests_in s opened k [] = tt
tests_in s opened k (c ∷ cs) = go (live_in s opened k c) refl (tests_in s opened k cs)
  where
    go : (o : Held) → live_in s opened k c ≡ o → All (TestIn s k) (held_tests (live_in s opened k) cs) → All (TestIn s k) (held_tests (live_in s opened k) (c ∷ cs))
    go (Some p) e ih = rw (e, held_tests) (live_in_lem s opened k c p e, ih)
    go None e ih = rw (e, held_tests) ih

pub opens_in_lem : (s : List ℕ) (joins : ℕ → Bool) (opened : List ℕ) (k : ℕ) (cs : List ℕ) → All (TestIn s k) (opens_of joins (live_in s opened k) cs)
unfolding opens_of
opens_in_lem s joins opened k [] = tt
opens_in_lem s joins opened k (c ∷ cs) = go (live_in s opened k c) refl (opens_in_lem s joins opened k cs)
  where
    test : (p : ℕ) → live_in s opened k c ≡ Some p → (b : Bool) → All (TestIn s k) (opens_of joins (live_in s opened k) cs)
        → All (TestIn s k) (pick b (p ∷ opens_of joins (live_in s opened k) cs) (opens_of joins (live_in s opened k) cs))
    test p e true ih = (live_in_lem s opened k c p e, ih)
    test p e false ih = ih

    go : (o : Held) → live_in s opened k c ≡ o → All (TestIn s k) (opens_of joins (live_in s opened k) cs) → All (TestIn s k) (opens_of joins (live_in s opened k) (c ∷ cs))
    go (Some p) e ih = rw (e, opens_of) (test p e (joins p) ih)
    go None e ih = rw (e, opens_of) ih

-- ---- how many tests are reached
module _ {s : List ℕ} (ok : Accepted s) where
  abbrev Known : ℕ → Type 0
  Known q = q < patterns s

  opened_known : (p : ℕ) → p < patterns s → is_test s p ≡ true → All Known (opened_tests s p)
  opened_known p h t = all_copies Known (opened_tests s p) (λ q l. (test_inside ok.is_shaped ok.is_counted p q h t (copies_in q (opened_tests s p) l)).1.known)

  root_known : (c : ℕ) → c < clauses s → All Known (root_tests s c)
  root_known c h =
      all_copies Known (root_tests s c)
      (λ q l. (test_at ok.is_shaped ok.is_counted (root s c) q (ok.is_shaped.root_pattern c h) (copies_in q (root_tests s c) l)).1.known)

  opened_length : (p : ℕ) → p < patterns s → is_test s p ≡ true → length (opened_tests s p) ≡ times (is_inside s p) 0 (patterns s)
  opened_length p h t = length_times (is_inside s p) (patterns s) (opened_tests s p) (opened_known p h t) (λ q l. (meeting ok).opened_once p q h t)

  -- opening p reaches what it opens
  reached_more : (opened : List ℕ) (p v : ℕ) → p < length opened → (v ≡ 0 → ⊥) → get_or opened p 0 ≡ 0 → p < patterns s → is_test s p ≡ true
      → times (reached s (set opened p v)) 0 (patterns s) ≡ times (reached s opened) 0 (patterns s) + length (opened_tests s p)
  unfolding bit reached is_inside
  reached_more opened p v room some_time shut h t =
      times_add (reached s (set opened p v)) (reached s opened) (is_inside s p) (patterns s) bits
      ∙ ap (λ (n : ℕ). times (reached s opened) 0 (patterns s) + n) (sym (opened_length p h t))
    where
      bits : (q : ℕ) → q < patterns s → bit (reached s (set opened p v) q) ≡ bit (reached s opened q) + bit (is_inside s p q)
      bits q l = go (is_test s q) refl (eqb (owner_of s q) (p + 1)) refl
        where
          go : (x : Bool) → is_test s q ≡ x → (y : Bool) → eqb (owner_of s q) (p + 1) ≡ y
              → bit (reached s (set opened p v) q) ≡ bit (reached s opened q) + bit (is_inside s p q)
          go false e y f = rw (e, lt-ltb q (patterns s) l)
          go true e true f =
              let o = eqb-true (owner_of s q) (p + 1) f in
              rw (e, lt-ltb q (patterns s) l, f, inside_free s opened p v room some_time shut q o, inside_shut s opened p v room some_time shut q o)
          go true e false f =
              let o = eqb-false (owner_of s q) (p + 1) f in
              rw (e, lt-ltb q (patterns s) l, f, elsewhere s opened p v room some_time shut q o) (omega arith)

  -- ---- the columns of a sound matrix's rows
  module _ {rows columns tested opened : List ℕ} (x : Sound s rows columns tested opened) where
    pub told : (k : ℕ) → IsClass s k → All (Told s (map (path_of s) tested) (path_of s k) (live_in s opened k)) rows
    told k class =
        all_map (State s tested opened) (Told s (map (path_of s) tested) (path_of s k) (live_in s opened k))
        (λ c st. held ok (meeting ok) tested opened c k class st) rows x.states

    -- rule 3
    pub choice_is : choice (columns_at s columns) (rows_at s tested rows)
        ≡ path_chosen s (best_of (λ k. count_of (live_in s opened k) rows) None 0 columns)
    unfolding choice
    choice_is =
        best_is s (rows_at s tested rows) (λ k. count_of (live_in s opened k) rows) None 0 columns
        (all_map (IsClass s) _ (λ k class. count_states s (map (path_of s) tested) (path_of s k) (live_in s opened k) rows (told k class)) columns x.are_classes)

    pub column_is : (k : ℕ) → IsClass s k → column (path_of s k) (rows_at s tested rows) ≡ map (pattern_of s) (held_tests (live_in s opened k) rows)
    column_is k class = column_states s (map (path_of s) tested) (path_of s k) (live_in s opened k) rows (told k class)

    module _ (k : ℕ) (there : is_in k columns ≡ true) where
      pub column_class : IsClass s k
      column_class = all_in (IsClass s) k columns x.are_classes there

      -- ---- the default
      wild_states : (cs : List ℕ) → All (State s tested opened) cs → All (State s (tested ++ k ∷ []) opened) (wild_of (live_in s opened k) cs)
      unfolding wild_of
      wild_states [] h = tt
      wild_states (c ∷ cs) h = go (live_in s opened k c) refl (wild_states cs h.1)
        where
          go : (o : Held) → live_in s opened k c ≡ o → All (State s (tested ++ k ∷ []) opened) (wild_of (live_in s opened k) cs) → All (State s (tested ++ k ∷ []) opened) (wild_of (live_in s opened k) (c ∷ cs))
          go (Some p) e ih = rw (e, wild_of) ih
          go None e ih = rw (e, wild_of) (state_wild ok (meeting ok) tested opened c k column_class h.0 e, ih)

      pub default_sound : Sound s (wild_of (live_in s opened k) rows) (without_class k columns) (tested ++ k ∷ []) opened
      default_sound = record {
        rising = rising_wild (live_in s opened k) (clauses s) 0 rows x.rising;
        are_classes = without_classes s k columns x.are_classes;
        were_classes = all_next (IsClass s) tested k x.were_classes column_class;
        long = x.long;
        states = wild_states rows x.states;
        room = omega (arith, x.room, without_one k columns there, length_next tested k);
      }

      pub default_rows_lem : rows_at s (tested ++ k ∷ []) (wild_of (live_in s opened k) rows) ≡ default_rows (path_of s k) (rows_at s tested rows)
      default_rows_lem =
          ap (λ (ps : List Path). rows_of s ps (wild_of (live_in s opened k) rows)) (paths_next s tested k)
          ∙ sym (default_states s (map (path_of s) tested) (path_of s k) (live_in s opened k) rows (told k column_class))

      pub default_columns : columns_at s (without_class k columns) ≡ without (path_of s k) (columns_at s columns)
      default_columns = without_paths s k columns column_class x.are_classes

  -- ---- a case
  module _ (joins : ℕ → Bool) (tested opened : List ℕ) (k : ℕ) (class : IsClass s k) (room : patterns s ≤ length opened) where
    abbrev time : ℕ
    time = length tested + 1

    -- the tests that clauses cs open, and the rows that join
    abbrev opens_by : List ℕ → List ℕ
    opens_by cs = opens_of joins (live_in s opened k) cs

    abbrev join_by : List ℕ → List ℕ
    join_by cs = join_of joins (live_in s opened k) cs

    -- the tests ps, of clauses from a first on, are opened: what they reach, what they leave as it was, and the rows js
    record Marks (from : ℕ) (acc ps js : List ℕ) : Type 0 where
      reaches : times (reached s (marked time acc ps)) 0 (patterns s) ≡ times (reached s acc) 0 (patterns s) + length (gather (opened_tests s) ps)
      keeps : (q : ℕ) → q < patterns s → clause_of s q < from → get_or (marked time acc ps) q 0 ≡ get_or acc q 0
      long : length (marked time acc ps) ≡ length acc
      states : All (State s (tested ++ k ∷ []) (marked time acc ps)) js

    marks : (cs : List ℕ) (from : ℕ) (acc : List ℕ) → Rising (clauses s) from cs → All (State s tested opened) cs → length acc ≡ length opened
        → ((q : ℕ) → q < patterns s → from ≤ clause_of s q → get_or acc q 0 ≡ get_or opened q 0)
        → Marks from acc (opens_by cs) (join_by cs)
    unfolding opens_of join_of marked gather
    marks [] from acc r h l same = record { reaches = omega arith; keeps = λ q a b. refl; long = refl; states = tt }
    marks (c ∷ cs) from acc r h l same =
        go (live_in s opened k c) refl (marks cs (c + 1) acc r.2 h.1 l (λ q a b. same q a (omega (arith, r.0))))
        (λ acc' l' same'. marks cs (c + 1) acc' r.2 h.1 l' same')
      where
        -- a row with a wildcard
        wild : live_in s opened k c ≡ None → Marks (c + 1) acc (opens_by cs) (join_by cs)
            → Marks from acc (opens_by cs) (c ∷ join_by cs)
        wild e ih = record {
          reaches = ih.reaches;
          keeps = λ q a b. ih.keeps q a (omega (arith, r.0));
          long = ih.long;
          states = (
            state_agree ok opened (marked time acc (opens_by cs)) c
                (λ q a f. sym (ih.keeps q a (omega arith) ∙ same q a (omega (arith, r.0)))) (tested ++ k ∷ [])
                (state_wild ok (meeting ok) tested opened c k class h.0 e),
            ih.states,
          );
        }

        -- a row with a test that is not of the case
        passed : Marks (c + 1) acc (opens_by cs) (join_by cs)
            → Marks from acc (opens_by cs) (join_by cs)
        passed ih = record { reaches = ih.reaches; keeps = λ q a b. ih.keeps q a (omega (arith, r.0)); long = ih.long; states = ih.states }

        -- a row with a test that is opened
        opens : (p : ℕ) → live_in s opened k c ≡ Some p → Marks (c + 1) (set acc p time) (opens_by cs) (join_by cs)
            → Marks from acc (p ∷ opens_by cs) (c ∷ join_by cs)
        opens p e ih = record {
          reaches = omega (arith, ih.reaches, reached_more acc p time inside some_time shut t.known t.test, length_gather (opened_tests s) p (opens_by cs));
          keeps = λ q a b. ih.keeps q a (omega (arith, r.0)) ∙ get_or-set_other acc p q time 0 (λ d. apart q b d);
          long = ih.long ∙ length-set acc p time;
          states = (
            state_agree ok (set opened p time) (marked time (set acc p time) (opens_by cs)) c
                (λ q a f. sym (ih.keeps q a (omega arith) ∙ same_set q a f (eqb q p) refl)) (tested ++ k ∷ [])
                (state_open ok (meeting ok) tested opened c k class h.0 room p e),
            ih.states,
          );
        }
          where
            l2 : IsCell s c k p × Live s opened p
            l2 = live_test_lem s opened c k p e

            t : TestOf s c p
            t = l2.0.test_of

            inside : p < length acc
            inside = omega (arith, t.known, room, l)

            some_time : time ≡ 0 → ⊥
            some_time z = omega arith

            shut : get_or acc p 0 ≡ 0
            shut = same p t.known (omega (arith, r.0, t.clause)) ∙ l2.1.shut

            apart : (q : ℕ) → clause_of s q < from → q ≡ p → ⊥
            apart q b d = omega (arith, r.0, t.clause, ap (clause_of s) d)

            same_set : (q : ℕ) → q < patterns s → clause_of s q ≡ c → (b : Bool) → eqb q p ≡ b → get_or (set acc p time) q 0 ≡ get_or (set opened p time) q 0
            same_set q a f true x =
                let d = eqb-true q p x in
                rw d (get_or-set_same acc p time 0 inside ∙ sym (get_or-set_same opened p time 0 (omega (arith, t.known, room))))
            same_set q a f false x =
                let n = eqb-false q p x in
                get_or-set_other acc p q time 0 n ∙ same q a (omega (arith, r.0)) ∙ sym (get_or-set_other opened p q time 0 n)

        go : (o : Held) → live_in s opened k c ≡ o → Marks (c + 1) acc (opens_by cs) (join_by cs)
            → ((a : List ℕ) → length a ≡ length opened → ((q : ℕ) → q < patterns s → c + 1 ≤ clause_of s q → get_or a q 0 ≡ get_or opened q 0)
            → Marks (c + 1) a (opens_by cs) (join_by cs))
            → Marks from acc (opens_by (c ∷ cs)) (join_by (c ∷ cs))
        go None e ih next = rw (e, opens_of, join_of) (wild e ih)
        go (Some p) e ih next = rw (e, opens_of, join_of) (test (joins p))
          where
            further : Marks (c + 1) (set acc p time) (opens_by cs) (join_by cs)
            further =
                next (set acc p time) (length-set acc p time ∙ l)
                (λ q a b. get_or-set_other acc p q time 0 (λ d. omega (arith, (live_test_lem s opened c k p e).0.test_of.clause, ap (clause_of s) d)) ∙ same q a (omega (arith, r.0)))

            test : (b : Bool) → Marks from acc (pick b (p ∷ opens_by cs) (opens_by cs)) (pick b (c ∷ join_by cs) (join_by cs))
            test true = opens p e further
            test false = passed ih

  gather_known : (k : ℕ) (ps : List ℕ) → All (TestIn s k) ps → All Known (gather (opened_tests s) ps)
  unfolding gather
  gather_known k [] h = tt
  gather_known k (p ∷ ps) h = all_append Known (opened_tests s p) (gather (opened_tests s) ps) (opened_known p h.0.known h.0.test) (gather_known k ps h.1)

  opened_cells : (k : ℕ) → IsClass s k → (ps : List ℕ) → All (TestIn s k) ps → opened_at s (path_of s k) ps ≡ map (cell_at s) (gather (opened_tests s) ps)
  unfolding opened_at gather
  opened_cells k class [] h = refl
  opened_cells k class (p ∷ ps) h =
      let t = h.0 in
      let path : path_of s k ≡ path_of s p = same_class_path s k p class.known t.known (class.itself ∙ sym t.class) in
      ap₂ ◌++◌ (ap (λ (z : Path). opened_columns z (pattern_of s p)) path ∙ (meeting ok).opened_cells p t.known t.test) (opened_cells k class ps h.1)
      ∙ sym (map-append (cell_at s) (opened_tests s p) (gather (opened_tests s) ps))

  -- the columns that tests open, in order
  abbrev opened_classes : List ℕ → List ℕ
  opened_classes ps = classes_for s (gather (opened_tests s) ps)

  module _ {rows columns tested opened : List ℕ} (x : Sound s rows columns tested opened) (k : ℕ) (there : is_in k columns ≡ true) where
    enough : patterns s ≤ length opened
    enough = omega (arith, x.long, ok.is_counted.patterns_most_holds)

    pub case_sound : (joins : ℕ → Bool) → Sound s (join_of joins (live_in s opened k) rows)
        (opened_classes (opens_of joins (live_in s opened k) rows) ++ without_class k columns) (tested ++ k ∷ [])
        (marked (length tested + 1) opened (opens_of joins (live_in s opened k) rows))
    case_sound joins =
        let class = column_class x k there in
        let ps = opens_of joins (live_in s opened k) rows in
        let m = marks joins tested opened k class enough rows 0 opened x.rising x.states refl (λ q a b. refl) in
        let known = gather_known k ps (opens_in_lem s joins opened k rows) in
        record {
          rising = rising_join joins (live_in s opened k) (clauses s) 0 rows x.rising;
          are_classes =
              all_append (IsClass s) (opened_classes ps) (without_class k columns) (each_classes s (gather (opened_tests s) ps) [] known tt)
              (without_classes s k columns x.are_classes);
          were_classes = all_next (IsClass s) tested k x.were_classes class;
          long = m.long ∙ x.long;
          states = m.states;
          room = omega (
            arith,
            x.room,
            m.reaches,
            without_one k columns there,
            length_next tested k,
            length-append (opened_classes ps) (without_class k columns),
            each_most (path_before s) (class_of s) (gather (opened_tests s) ps) [],
          );
        }

    module _ (t : Test) where
      pub case_rows_lem : rows_at s (tested ++ k ∷ []) (join_of (joins_case s t) (live_in s opened k) rows) ≡ case_rows (path_of s k) t (rows_at s tested rows)
      case_rows_lem =
          ap (λ (ps : List Path). rows_of s ps (join_of (joins_case s t) (live_in s opened k) rows)) (paths_next s tested k)
          ∙ sym (case_states s (map (path_of s) tested) (path_of s k) (live_in s opened k) t rows (told x k (column_class x k there)))

      pub case_columns_lem : columns_at s (opened_classes (opens_of (joins_case s t) (live_in s opened k) rows) ++ without_class k columns)
          ≡ union (case_opens (path_of s k) t (rows_at s tested rows)) ++ without (path_of s k) (columns_at s columns)
      case_columns_lem =
          let class = column_class x k there in
          let ps = opens_of (joins_case s t) (live_in s opened k) rows in
          let are = opens_in_lem s (joins_case s t) opened k rows in
          map-append (path_of s) (opened_classes ps) (without_class k columns)
          ∙ ap₂ ◌++◌
          (each_union s (gather (opened_tests s) ps) (gather_known k ps are)
          ∙ ap union (sym (opens_states s (map (path_of s) tested) (path_of s k) (live_in s opened k) t rows (told x k class) ∙ opened_cells k class ps are)))
          (without_paths s k columns class x.are_classes)

  -- ---- the matrix of the clauses
  root_length : (c : ℕ) → c < clauses s → length (root_tests s c) ≡ times (λ q. both (is_test_of s c q) (eqb (owner_of s q) 0)) 0 (patterns s)
  root_length c h =
      length_times (λ q. both (is_test_of s c q) (eqb (owner_of s q) 0)) (patterns s) (root_tests s c) (root_known c h) (λ q l. (meeting ok).root_once c q h)

  roots_known : (c n : ℕ) → c + n ≤ clauses s → All Known (gather (root_tests s) (up_from c n))
  unfolding gather up_from
  roots_known c zero h = tt
  roots_known c (suc n) h =
      all_append Known (root_tests s c) (gather (root_tests s) (up_from (c + 1) n)) (root_known c (omega arith)) (roots_known (c + 1) n (omega arith))

  module _ (opened : List ℕ) (none_opened : (q : ℕ) → get_or opened q 0 ≡ 0) where
    -- the tests reached of clauses from c on
    abbrev from : ℕ → ℕ → Bool
    from c q = both (reached s opened q) (leb c (clause_of s q))

    reached_root : (q : ℕ) → reached s opened q ≡ both (is_test s q) (eqb (owner_of s q) 0)
    unfolding reached available
    reached_root q = rw (none_opened (owner_of s q - 1), either_none (eqb (owner_of s q) 0))

    one_clause_less : (c q : ℕ) → q < patterns s → bit (from c q) ≡ bit (both (is_test_of s c q) (eqb (owner_of s q) 0)) + bit (from (c + 1) q)
    unfolding is_test_of
    one_clause_less c q l = rw (reached_root q, lt-ltb q (patterns s) l) (one_less (is_test s q) (eqb (owner_of s q) 0) (clause_of s q) c)

    roots_few : (c n : ℕ) → c + n ≤ clauses s → length (gather (root_tests s) (up_from c n)) ≤ times (from c) 0 (patterns s)
    unfolding gather up_from
    roots_few c zero h = omega arith
    roots_few c (suc n) h =
        omega (
          arith,
          length-append (root_tests s c) (gather (root_tests s) (up_from (c + 1) n)),
          root_length c (omega arith),
          times_add (from c) (λ q. both (is_test_of s c q) (eqb (owner_of s q) 0)) (from (c + 1)) (patterns s) (one_clause_less c),
          roots_few (c + 1) n (omega arith),
        )

    from_all : times (from 0) 0 (patterns s) ≡ times (reached s opened) 0 (patterns s)
    from_all = times_agree (from 0) (reached s opened) 0 (patterns s) (λ q low high. whole (reached s opened q) (clause_of s q))
      where
        whole : (b : Bool) (n : ℕ) → both b (leb 0 n) ≡ b
        whole true n = le-leb 0 n (omega arith)
        whole false n = refl

    first_states : (c n : ℕ) → c + n ≤ clauses s → All (State s [] opened) (up_from c n)
    unfolding up_from
    first_states c zero h = tt
    first_states c (suc n) h = (state_first ok (meeting ok) opened none_opened c (omega arith), first_states (c + 1) n (omega arith))

    pub first_sound : length opened ≡ patterns_most
        → Sound s (up_from 0 (clauses s)) (classes_for s (gather (root_tests s) (up_from 0 (clauses s)))) [] opened
    first_sound long = record {
      rising = rising_up (clauses s) 0 (clauses s) (omega arith);
      are_classes = each_classes s (gather (root_tests s) (up_from 0 (clauses s))) [] (roots_known 0 (clauses s) (omega arith)) tt;
      were_classes = tt;
      long = long;
      states = first_states 0 (clauses s) (omega arith);
      room = omega (arith, roots_few 0 (clauses s) (omega arith), from_all, each_most (path_before s) (class_of s) (gather (root_tests s) (up_from 0 (clauses s))) []);
    }

  pub first_rows : rows_at s [] (up_from 0 (clauses s)) ≡ clause_rows 0 (clause_patterns s 0 (clauses s))
  first_rows = sym (clause_rows_lem s 0 (clauses s))

  root_tests_lem : (c : ℕ) → c < clauses s → (row_of s [] c).tests ≡ map (cell_at s) (root_tests s c)
  unfolding row_of row_after clause_row
  root_tests_lem c h = (meeting ok).root_cells c h

  all_tests_lem : (c n : ℕ) → c + n ≤ clauses s → all_tests (rows_of s [] (up_from c n)) ≡ map (cell_at s) (gather (root_tests s) (up_from c n))
  unfolding all_tests gather up_from
  all_tests_lem c zero h = refl
  all_tests_lem c (suc n) h =
      ap₂ ◌++◌ (root_tests_lem c (omega arith)) (all_tests_lem (c + 1) n (omega arith)) ∙ sym (map-append (cell_at s) (root_tests s c) (gather (root_tests s) (up_from (c + 1) n)))

  pub first_columns : columns_at s (classes_for s (gather (root_tests s) (up_from 0 (clauses s))))
      ≡ columns (clause_rows 0 (clause_patterns s 0 (clauses s)))
  unfolding columns
  first_columns =
      each_union s (gather (root_tests s) (up_from 0 (clauses s))) (roots_known 0 (clauses s) (omega arith))
      ∙ ap union (sym (ap all_tests (clause_rows_lem s 0 (clauses s)) ∙ all_tests_lem 0 (clauses s) (omega arith)))
