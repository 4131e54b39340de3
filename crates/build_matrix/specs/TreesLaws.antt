-- The tree of a sound matrix, by numbers: the clauses' matrix gives the sheet's tree; where no column is chosen the tree is the first
-- row's leaf, else a switch on that column's tests, whose subtrees are those of the cases' matrices and of the default's, all sound.
-- Rests on MatricesLaws, and on the two equations of a tree in crate spec_match.
use Rattle.std.proofs.Math.Path.{◌≡◌, sym, ap, ap₂, fun_ext}
use Rattle.std.specs.Prelude.{refl, ◌⊎◌, Bool, true, false, ℕ, zero, suc, ◌+◌, ◌≤◌, ◌<◌, ltb, length, get_or, Some, None}
use Rattle.std.proofs.Common.{◌∙◌, inl, inr, arith, ltb-true}
use Rattle.std.proofs.lemmas.Bool.{false≢true}
use mathlib.Core.List.{List, [], ◌∷◌, map}
use Rattle.std.proofs.Math.Option.{Option, none, some}
use Rattle.std.proofs.lemmas.List.{length-replicate}
use Rattle.base_words.specs.Words.{either, zeros}
use Rattle.spec_rules.specs.Limits.{patterns_most}
use Rattle.spec_rules.specs.SearchingLaws.{times_most}
use Rattle.spec_rules.specs.SheetFile.{patterns, clauses}
use Rattle.spec_rules.specs.SheetRefusals.{is_in}
use Rattle.spec_rules.specs.Patterns.{Pat, clause_pattern}
use Rattle.spec_rules.specs.Rows.{Path, Row, clause_row, opened_columns}
use Rattle.spec_rules.specs.Columns.{test_at, choice, without}
use Rattle.spec_rules.specs.Splitting.{Test, open_row, column, without_test, is_met, cases_of, covers, default_rows, case_rows}
use Rattle.spec_rules.specs.SplittingLaws.{All, any_covers}
use Rattle.spec_rules.proofs.SplittingLaws.{case_covered}
use Rattle.spec_rules.specs.Building.{Tree, absent, leaf_of, has_list, plain_tree}
use Rattle.spec_rules.specs.Hoisting.{nodes_in}
use Rattle.spec_rules.specs.Calls.{sheet_patterns}
use Rattle.spec_accepted.specs.SheetFacts.{Accepted}
use Rattle.spec_match.specs.Lists.{all_append}
use Rattle.spec_match.specs.Tests.{HasTest, TestRow, take_test, others_have, columns_of_test, opened_columns_test}
use Rattle.spec_match.specs.Depth.{choice_nothing, node_on, case_columns, matrix_tree, plain_tree_matrix, tree_none, tree_some}
use Rattle.build_table.specs.Standing.{path_of, pattern_of}
use Rattle.build_table.specs.MembersLaws.{is_in_head, is_in_tail}
use Rattle.build_matrix.specs.Columns.{Held, Choice}
use Rattle.build_matrix.specs.RowStates.{open_at, row_after, row_of, rows_of, up_from, open_at_wild, open_at_test}
use Rattle.build_matrix.specs.Live.{live_in, IsClass}
use Rattle.build_matrix.specs.HeldRows.{count_of, best_of, path_chosen, held_tests, join_of, joins_case}
use Rattle.build_matrix.specs.Ordered.{without_one}
use Rattle.build_matrix.specs.Matrices.{TestIn, rows_at, columns_at, reached}
use Rattle.build_matrix.specs.MatricesLaws.{opens_in_lem, choice_is, column_is, column_class, default_sound, default_rows_lem, default_columns, case_sound, case_rows_lem, case_columns_lem, first_sound, first_rows, first_columns}
use Rattle.build_matrix.specs.Numbered.{Numbered, SoundOf, first_numbered, default_numbered, opens_in, case_numbered, chosen_in, tests_in, tree_at}

-- ---- the rows of clauses have tests alone, whatever was tested
open_at_tests : (p : Path) (r : Row) → TestRow r → TestRow (open_at p r)
open_at_tests p r h = go (test_at p r.tests) refl
  where
    go : (o : Option Pat) → test_at p r.tests ≡ o → TestRow (open_at p r)
    go none e = rw (open_at_wild p r e) h
    go (some q) e =
        rw (open_at_test p r q e)
        (unfold open_row in (all_append HasTest (opened_columns p q) (without_test p r.tests) (opened_columns_test p q)
        (others_have HasTest p q r.tests (take_test p r.tests q e) h)))

row_after_tests : (ps : List Path) (r : Row) → TestRow r → TestRow (row_after ps r)
unfolding row_after
row_after_tests [] r h = h
row_after_tests (p ∷ ps) r h = row_after_tests ps (open_at p r) (open_at_tests p r h)

pub rows_tests : (s : List ℕ) (ps : List Path) (cs : List ℕ) → All TestRow (rows_of s ps cs)
rows_tests s ps [] = tt
rows_tests s ps (c ∷ cs) = (unfold row_of clause_row in (row_after_tests ps (clause_row c (clause_pattern s c)) (columns_of_test [] (clause_pattern s c))), rows_tests s ps cs)

-- ---- the column chosen
same_column : (a b : ℕ) → Some a ≡ Some b → a ≡ b
same_column a b e = cc

best_some : (counts : ℕ → ℕ) (chosen : Choice) (n : ℕ) (ks : List ℕ) (k : ℕ) → best_of counts chosen n ks ≡ Some k
    → (chosen ≡ Some k) ⊎ ((is_in k ks ≡ true) × (0 < counts k))
unfolding best_of
best_some counts chosen n [] k e = inl e
best_some counts chosen n (z ∷ ks) k e = go (ltb n (counts z)) refl (best_some counts (Some z) (counts z) ks k) (best_some counts chosen n ks k)
  where
    later : (o : Choice) → (o ≡ Some k) ⊎ ((is_in k ks ≡ true) × (0 < counts k)) → (o ≡ Some k) ⊎ ((is_in k (z ∷ ks) ≡ true) × (0 < counts k))
    later o (inl a) = inl a
    later o (inr b) = inr (is_in_tail k z ks b.0, b.1)

    go : (b : Bool) → ltb n (counts z) ≡ b
        → (best_of counts (Some z) (counts z) ks ≡ Some k → (Some z ≡ Some k) ⊎ ((is_in k ks ≡ true) × (0 < counts k)))
        → (best_of counts chosen n ks ≡ Some k → (chosen ≡ Some k) ⊎ ((is_in k ks ≡ true) × (0 < counts k)))
        → (chosen ≡ Some k) ⊎ ((is_in k (z ∷ ks) ≡ true) × (0 < counts k))
    go true y new old = found (later (Some z) (new (rw y at e)))
      where
        found : (Some z ≡ Some k) ⊎ ((is_in k (z ∷ ks) ≡ true) × (0 < counts k)) → (chosen ≡ Some k) ⊎ ((is_in k (z ∷ ks) ≡ true) × (0 < counts k))
        found (inl a) = let d = same_column z k a in inr (rw d (is_in_head k ks), rw (← d) (omega (arith, ltb-true n (counts z) y)))
        found (inr b) = inr b
    go false y new old = later chosen (old (rw y at e))

-- there is a first row, and it has a test in the column
pub record FirstTest (held : ℕ → Held) (rows : List ℕ) : Type 0 where
  pub clause : ℕ
  pub rest : List ℕ
  pub test : ℕ
  pub are : rows ≡ clause ∷ rest
  pub holds : held clause ≡ Some test

count_first : (held : ℕ → Held) (rows : List ℕ) → 0 < count_of held rows → FirstTest held rows
unfolding count_of
count_first held [] h = absurd (omega arith)
count_first held (c ∷ cs) h = go (held c) refl
  where
    go : (o : Held) → held c ≡ o → FirstTest held (c ∷ cs)
    go (Some p) e = record { clause = c; rest = cs; test = p; are = refl; holds = e }
    go None e = let l : 0 < 0 = rw (e, count_of) at h in absurd (omega arith)

-- ---- the rows of a case that some test of the column belongs to
join_some : (s : List ℕ) (u : Test) (held : ℕ → Held) (rows : List ℕ) → any_covers u (map (pattern_of s) (held_tests held rows)) ≡ true
    → 1 ≤ length (join_of (joins_case s u) held rows)
unfolding any_covers held_tests join_of joins_case
join_some s u held [] h = absurd (false≢true h)
join_some s u held (c ∷ cs) h = go (held c) refl (join_some s u held cs)
  where
    go : (o : Held) → held c ≡ o → (any_covers u (map (pattern_of s) (held_tests held cs)) ≡ true → 1 ≤ length (join_of (joins_case s u) held cs))
        → 1 ≤ length (join_of (joins_case s u) held (c ∷ cs))
    go None e ih = rw (e, join_of) (omega arith)
    go (Some p) e ih = test (covers (pattern_of s p) u) refl
      where
        test : (b : Bool) → covers (pattern_of s p) u ≡ b → 1 ≤ length (join_of (joins_case s u) held (c ∷ cs))
        test true y = rw (e, join_of, y) (omega arith)
        test false y =
            let w : either (covers (pattern_of s p) u) (any_covers u (map (pattern_of s) (held_tests held cs))) ≡ true = rw (e, held_tests) at h in
            rw (e, join_of, y) (ih (rw y at w))

-- ---- a tree that is there
node_on_there : (p : Path) (qs : List Pat) (f : Test → Tree) (d : Tree) → 1 ≤ nodes_in (node_on p qs f d)
unfolding node_on nodes_in
node_on_there p qs f d = go (has_list qs) refl
  where
    go : (b : Bool) → has_list qs ≡ b → 1 ≤ nodes_in (node_on p qs f d)
    go true e = rw (e, node_on) (omega arith)
    go false e = rw (e, node_on) (omega arith)

length_up : (c n : ℕ) → length (up_from c n) ≡ n
unfolding up_from
length_up c zero = refl
length_up c (suc n) = ap suc (length_up (c + 1) n)

zeros_zero : (n q : ℕ) → get_or (zeros n) q 0 ≡ 0
zeros_zero zero q = refl
zeros_zero (suc n) zero = refl
zeros_zero (suc n) (suc q) = zeros_zero n q

pub no_tree : (s : List ℕ) (M : Numbered) → M.rows ≡ [] → tree_at s M ≡ absent
unfolding tree_at leaf_of
no_tree s M e =
    ap (λ (rows : List ℕ). matrix_tree (columns_at s M.columns) (rows_at s M.tested rows)) e
    ∙ tree_none (columns_at s M.columns) [] (choice_nothing (columns_at s M.columns))

pub some_tree : (s : List ℕ) (M : Numbered) → 1 ≤ length M.rows → 1 ≤ nodes_in (tree_at s M)
unfolding tree_at
some_tree s M h = go M.rows refl (choice (columns_at s M.columns) (rows_at s M.tested M.rows)) refl
  where
    go : (rows : List ℕ) → M.rows ≡ rows → (o : Option Path) → choice (columns_at s M.columns) (rows_at s M.tested M.rows) ≡ o
        → 1 ≤ nodes_in (matrix_tree (columns_at s M.columns) (rows_at s M.tested M.rows))
    go [] e o x = let l : 1 ≤ 0 = rw e at h in absurd (omega arith)
    go (c ∷ cs) e none x =
        rw (tree_none (columns_at s M.columns) (rows_at s M.tested M.rows) x, e) (unfold leaf_of nodes_in in (omega arith))
    go (c ∷ cs) e (some p) x =
        rw (tree_some (columns_at s M.columns) (rows_at s M.tested M.rows) p (rows_tests s (map (path_of s) M.tested) M.rows) x)
        (node_on_there p (column p (rows_at s M.tested M.rows))
        (λ t. matrix_tree (case_columns p t (columns_at s M.columns) (rows_at s M.tested M.rows)) (case_rows p t (rows_at s M.tested M.rows)))
        (matrix_tree (without p (columns_at s M.columns)) (default_rows p (rows_at s M.tested M.rows))))

-- ---- a column: its tests, those that a case opens, its cases
module _ (s : List ℕ) (M : Numbered) (k : ℕ) where
  pub opens_known : (u : Test) → All (TestIn s k) (opens_in s k u M)
  unfolding opens_in
  opens_known u = opens_in_lem s (joins_case s u) M.opened k M.rows

  -- a case that is met has rows
  pub case_some : (u : Test) → is_met u (cases_of (map (pattern_of s) (tests_in s k M))) ≡ true → 1 ≤ length (case_numbered s k u M).rows
  unfolding case_numbered tests_in
  case_some u e = join_some s u (live_in s M.opened k) M.rows (case_covered u (map (pattern_of s) (held_tests (live_in s M.opened k) M.rows)) e)

  -- the column chosen is there, and the first row has a test in it
  module _ (chosen : chosen_in s M ≡ Some k) where
    chosen_facts : (is_in k M.columns ≡ true) × (0 < count_of (live_in s M.opened k) M.rows)
    unfolding chosen_in
    chosen_facts = go (best_some (λ z. count_of (live_in s M.opened z) M.rows) None 0 M.columns k chosen)
      where
        go : (None ≡ Some k) ⊎ ((is_in k M.columns ≡ true) × (0 < count_of (live_in s M.opened k) M.rows))
            → (is_in k M.columns ≡ true) × (0 < count_of (live_in s M.opened k) M.rows)
        go (inl a) = let z : ◌≡◌ {A = ℕ} 0 1 = cc in absurd (omega arith)
        go (inr b) = b

    pub chosen_there : is_in k M.columns ≡ true
    chosen_there = chosen_facts.0

    pub chosen_first : FirstTest (live_in s M.opened k) M.rows
    chosen_first = count_first (live_in s M.opened k) M.rows chosen_facts.1

-- ---- of a sheet that was accepted
module _ {s : List ℕ} (ok : Accepted s) where
  -- ---- the matrix of the clauses
  pub sound_first : SoundOf s (first_numbered s)
  unfolding first_numbered
  sound_first = first_sound ok (zeros patterns_most) (zeros_zero patterns_most) (length-replicate {A = ℕ} patterns_most 0)

  pub first_tree : tree_at s (first_numbered s) ≡ plain_tree (sheet_patterns s)
  unfolding tree_at first_numbered sheet_patterns
  first_tree = ap₂ matrix_tree (first_columns ok) (first_rows ok) ∙ sym (plain_tree_matrix (sheet_patterns s))

  pub first_some : 1 ≤ length (first_numbered s).rows
  unfolding first_numbered
  first_some = omega (arith, length_up 0 (clauses s), ok.is_counted.some_clause)

  module _ (M : Numbered) (sound : SoundOf s M) where
    pub few_columns : length M.columns + length M.tested ≤ patterns_most
    few_columns = omega (arith, sound.room, times_most (reached s M.opened) 0 (patterns s), ok.is_counted.patterns_most_holds)

    chosen_choice : choice (columns_at s M.columns) (rows_at s M.tested M.rows) ≡ path_chosen s (chosen_in s M)
    unfolding chosen_in
    chosen_choice = choice_is ok sound

    -- "All counts 0: a leaf of the first row"
    pub tree_leaf : chosen_in s M ≡ None → tree_at s M ≡ leaf_of (rows_at s M.tested M.rows)
    unfolding tree_at
    tree_leaf e = tree_none (columns_at s M.columns) (rows_at s M.tested M.rows) (chosen_choice ∙ ap (path_chosen s) e)

    -- ---- the matrices of the column of a class that is there
    module _ (k : ℕ) (there : is_in k M.columns ≡ true) where
      pub sound_default : SoundOf s (default_numbered s k M)
      unfolding default_numbered
      sound_default = default_sound ok sound k there

      pub sound_case : (u : Test) → SoundOf s (case_numbered s k u M)
      unfolding case_numbered opens_in
      sound_case u = case_sound ok sound k there (joins_case s u)

      default_tree : tree_at s (default_numbered s k M)
          ≡ matrix_tree (without (path_of s k) (columns_at s M.columns)) (default_rows (path_of s k) (rows_at s M.tested M.rows))
      unfolding tree_at default_numbered
      default_tree = ap₂ matrix_tree (default_columns ok sound k there) (default_rows_lem ok sound k there)

      case_tree : (u : Test) → tree_at s (case_numbered s k u M)
          ≡ matrix_tree (case_columns (path_of s k) u (columns_at s M.columns) (rows_at s M.tested M.rows)) (case_rows (path_of s k) u (rows_at s M.tested M.rows))
      unfolding tree_at case_numbered opens_in case_columns
      case_tree u = ap₂ matrix_tree (case_columns_lem ok sound k there u) (case_rows_lem ok sound k there u)

    -- ---- the column chosen
    module _ (k : ℕ) (chosen : chosen_in s M ≡ Some k) where
      pub chosen_class : IsClass s k
      chosen_class = column_class ok sound k (chosen_there s M k chosen)

      pub chosen_room : length M.tested < patterns_most
      chosen_room = omega (arith, few_columns, without_one k M.columns (chosen_there s M k chosen))

      pub tree_switch : tree_at s M
          ≡ node_on (path_of s k) (map (pattern_of s) (tests_in s k M)) (λ u. tree_at s (case_numbered s k u M)) (tree_at s (default_numbered s k M))
      unfolding tree_at tests_in
      tree_switch =
          tree_some (columns_at s M.columns) (rows_at s M.tested M.rows) (path_of s k) (rows_tests s (map (path_of s) M.tested) M.rows)
          (chosen_choice ∙ ap (path_chosen s) chosen)
          ∙ (λ i. node_on (path_of s k) (column_is ok sound k chosen_class i)
          (fun_ext (λ u. sym (case_tree k (chosen_there s M k chosen) u)) i) (sym (default_tree k (chosen_there s M k chosen)) i))
