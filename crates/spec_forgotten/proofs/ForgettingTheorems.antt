-- The theorems on what a sheet forgets, of the tree that the build writes: each is a statement of ForgettingSaid, or what the search
-- answers. Those on values ask that the sheet's numbers are bytes, since a byte string of a value is of bytes.
use Rattle.std.specs.Prelude.{ℕ, ◌≡◌, refl, ◌⊎◌, true, List, length}
use Rattle.std.proofs.Common.{arith, sym, ap, ◌∙◌, inl, inr}
use Rattle.std.proofs.Math.Option.{Option, none, some}
use Rattle.base_words.specs.Words.{Bytes}
use Rattle.spec_rules.specs.SheetFile.{subject, pool}
use Rattle.spec_rules.specs.SheetRefusals.{verdict, accepted}
use Rattle.spec_rules.specs.PanelFile.{panel_verdict}
use Rattle.spec_rules.specs.Fitting.{panel_fits}
use Rattle.spec_rules.specs.Building.{plain_tree}
use Rattle.spec_rules.specs.Hoisting.{nodes_in}
use Rattle.spec_rules.specs.TreeFile.{paths_used, path_table, tree_file}
use Rattle.spec_rules.specs.Walking.{Bound, Walked, reached, no_leaf, stuck, walk}
use Rattle.spec_rules.specs.Meaning.{first_match}
use Rattle.spec_rules.specs.Calls.{sheet_patterns, sheet_tree, sheet_tree_file}
use Rattle.spec_accepted.specs.SheetFacts.{Typed, Accepted, accepted_sheet}
use Rattle.spec_accepted.specs.PanelFacts.{accepted_panel}
use Rattle.spec_file.specs.PathsLaws.{table_covers}
use Rattle.spec_file.specs.FileLaws.{tree_filed}
use Rattle.spec_file.specs.PlacedLaws.{root_placed, table_read}
use Rattle.spec_hoist.specs.WholeTreeLaws.{whole_tree_walk, whole_tree_made, whole_tree_present}
use Rattle.spec_match.specs.Answers.{SameAnswer}
use Rattle.spec_match.specs.Typing.{sheet_first_match}
use Rattle.spec_match.specs.ColumnTypes.{type_after}
use Rattle.spec_theorems.specs.SheetLeaves.{length_sheet_patterns}
use Rattle.spec_theorems.proofs.BuiltTree.{paths_most}
use Rattle.spec_forgotten.specs.Values.{Passed, Ended, at_clause, without, stuck_on, no_node, walk_on}
use Rattle.spec_forgotten.specs.Forgetting.{Forgotten, LowestForgotten, Covered, LowestHollow, NoHollow}
use Rattle.spec_forgotten.specs.ForgettingSaid.{NeverStuck, OneWay, SwitchWithoutDefault, WayInTheFile, FewTests, ForgottenOrCovered, HollowOrFilled, HollowOrNone, FitsByValue, WalksAgree, CoveredPanelsHaveALeaf}
use Rattle.spec_forgotten.specs.SheetTested.{OfSheet, root_columns, sheet_tree_is}
use Rattle.spec_forgotten.proofs.SheetTested.{tree_tested, only_goes}
use Rattle.spec_forgotten.specs.Search.{lowest_gap, way_to}
use Rattle.spec_forgotten.specs.FewTestsLaws.{few_on_the_way}
use Rattle.spec_forgotten.proofs.SomewhereLaws.{walk_somewhere}
use Rattle.spec_forgotten.specs.PanelFitsLaws.{panel_fits_by_value}
use Rattle.spec_forgotten.specs.PanelWalksLaws.{EndsAlike}
use Rattle.spec_forgotten.proofs.PanelWalksLaws.{walks_alike}
use Rattle.spec_forgotten.specs.PanelValues.{panel_value}
use Rattle.spec_forgotten.specs.Marking.{hollow_type}
use Rattle.spec_forgotten.proofs.MarkingLaws.{filled_or_hollow, hollow_is_lowest, none_is_filled}
use Rattle.spec_forgotten.specs.FileWaysLaws.{goes_file_way, way_ends}
use Rattle.spec_forgotten.proofs.FoundLaws.{FallsAt, tree_one_way, search_covers, search_lowest, search_sound, tree_never_stuck}

module _ (s : List ℕ) (h : verdict s ≡ accepted) (bytes : Bytes s) where
  a : Accepted s
  a = accepted_sheet s h

  is : OfSheet s (sheet_tree s)
  is = sheet_tree_is s a bytes

  forgotten_falls : (n : ℕ) (ts : List Passed) → Forgotten s n ts → FallsAt s a bytes (sheet_tree s) is n ts
  forgotten_falls n ts (v, f) = (v, f.typed, f.ends)

  -- THEOREM: the walk of a value of the subject's type ends at a leaf, or at a switch without one
  pub never_stuck_holds : NeverStuck s h
  never_stuck_holds x t = tree_never_stuck s a bytes (sheet_tree s) is x t

  -- THEOREM: two values that end at one switch took the same tests
  pub one_way_holds : OneWay s h
  one_way_holds n ts us f g =
      tree_one_way s a bytes (sheet_tree s) is n ts (forgotten_falls n ts f)
      ∙ sym (tree_one_way s a bytes (sheet_tree s) is n us (forgotten_falls n us g))

  -- THEOREM: 384 words have room for the tests
  pub few_tests_holds : FewTests s h
  few_tests_holds n ts (v, f) =
      let g = only_goes s a bytes (sheet_tree s) is v f.typed n ts f.ends in
      let l =
      few_on_the_way s (type_after s (subject s)) 0 (sheet_tree s) n ts g (nodes_in (sheet_tree s)) (root_columns s a bytes)
      (tree_tested s a bytes (sheet_tree s) is) in
      omega (arith, l, paths_most s a, a.is_counted.patterns_most_holds)

  -- THEOREM: the tests lead in the file to the reported switch
  pub a_way_in_the_file_holds : WayInTheFile s h
  unfolding sheet_tree_file path_table
  a_way_in_the_file_holds n ts (v, f) =
      let g = only_goes s a bytes (sheet_tree s) is v f.typed n ts f.ends in
      let filed = tree_filed (pool s) (sheet_tree s) in
      goes_file_way (tree_file (pool s) (sheet_tree s)) (path_table (sheet_tree s)) (table_read filed) s (type_after s (subject s)) 0 (sheet_tree s) n ts g 0 0
      (root_placed filed (table_covers (paths_used (sheet_tree s))))

  -- THEOREM: the reported node is a switch without default in the file
  pub a_switch_without_default_holds : SwitchWithoutDefault s h
  a_switch_without_default_holds n ts f = way_ends (sheet_tree_file s) 0 n ts (a_way_in_the_file_holds n ts f)

  -- ---- the search's answer
  -- THEOREM: what it finds is the lowest forgotten switch, with the tests taken on the way
  pub gap_is_lowest : NoHollow s → (n : ℕ) → lowest_gap s (sheet_tree s) ≡ some n → LowestForgotten s n (way_to s (sheet_tree s) n)
  gap_is_lowest filled n e =
      let (v, t, w) = search_sound s a bytes (sheet_tree s) is filled n e in
      record {
        forgotten = (v, record { typed = t; ends = w });
        lowest = λ k l us f. search_lowest s a bytes (sheet_tree s) is n e k l us (forgotten_falls k us f);
      }

  -- THEOREM: where it finds none the sheet is covered
  pub none_is_covered : lowest_gap s (sheet_tree s) ≡ none → Covered s
  none_is_covered e n ts f = search_covers s a bytes (sheet_tree s) is e n ts (forgotten_falls n ts f)

  -- THEOREM: it finds none exactly if the sheet is covered
  pub covered_is_none : NoHollow s → Covered s → lowest_gap s (sheet_tree s) ≡ none
  covered_is_none filled c = go (lowest_gap s (sheet_tree s)) refl
    where
      go : (o : Option ℕ) → lowest_gap s (sheet_tree s) ≡ o → lowest_gap s (sheet_tree s) ≡ none
      go none e = e
      go (some n) e = absurd (c n (way_to s (sheet_tree s) n) (gap_is_lowest filled n e).forgotten)

  -- THEOREM: the lowest is found, or there is none
  pub forgotten_or_covered_holds : ForgottenOrCovered s h
  forgotten_or_covered_holds filled = go (lowest_gap s (sheet_tree s)) refl
    where
      go : (o : Option ℕ) → lowest_gap s (sheet_tree s) ≡ o → ((n : ℕ) × ((ts : List Passed) × LowestForgotten s n ts)) ⊎ Covered s
      go none e = inr (none_is_covered e)
      go (some n) e = inl (n, (way_to s (sheet_tree s) n, gap_is_lowest filled n e))

-- ---- 15
module _ (s : List ℕ) (ty : Typed s) where
  -- THEOREM: a type has a finite value or has none
  pub hollow_or_filled_holds : HollowOrFilled s
  hollow_or_filled_holds = filled_or_hollow s ty

  -- THEOREM: the lowest type with no finite value is found, or each type has one
  pub hollow_or_none_holds : HollowOrNone s
  hollow_or_none_holds = go (hollow_type s) refl
    where
      go : (o : Option ℕ) → hollow_type s ≡ o → ((t : ℕ) × LowestHollow s t) ⊎ NoHollow s
      go none e = inr (none_is_filled s ty e)
      go (some t) e = inl (t, hollow_is_lowest s ty t e)

-- ---- panel files
module _ (s v : List ℕ) (h : verdict s ≡ accepted) (bytes : Bytes v) (p : panel_verdict v ≡ accepted) where
  -- THEOREM: a panel fits exactly if the value that it holds is of the type
  pub fits_by_value_holds : FitsByValue s v h bytes p
  fits_by_value_holds = panel_fits_by_value v (accepted_panel v p) bytes s

  module _ (fits : panel_fits s v ≡ true) where
    file_not_stuck : walk (sheet_tree s) v ≡ stuck → ⊥
    unfolding sheet_tree
    file_not_stuck e = stuck_answers_none (walk (plain_tree (sheet_patterns s)) v) (first_match 0 (sheet_patterns s) v) (sym (whole_tree_walk (sheet_patterns s) v) ∙ e) (sheet_first_match s v h fits)
      where
        stuck_answers_none : (a b : Walked) → a ≡ stuck → SameAnswer a b → ⊥
        stuck_answers_none a b e k = rw e at k

    value_somewhere : walk_on 0 (sheet_tree s) (panel_value v) ≡ no_node → ⊥
    unfolding sheet_tree
    value_somewhere =
        walk_somewhere (length (sheet_patterns s)) (sheet_tree s) (whole_tree_made (sheet_patterns s))
        (whole_tree_present (sheet_patterns s) (omega (arith, length_sheet_patterns s, (accepted_sheet s h).is_counted.some_clause))) 0 (panel_value v)

    alike : EndsAlike v (accepted_panel v p) (walk (sheet_tree s) v) (walk_on 0 (sheet_tree s) (panel_value v))
    alike = walks_alike v (accepted_panel v p) (sheet_tree s) 0

    without_leaf : walk (sheet_tree s) v ≡ no_leaf → (n : ℕ) × ((ts : List Passed) × (walk_on 0 (sheet_tree s) (panel_value v) ≡ without n ts))
    without_leaf e = go (walk_on 0 (sheet_tree s) (panel_value v)) refl (rw e at alike)
      where
        go : (x : Ended) → walk_on 0 (sheet_tree s) (panel_value v) ≡ x → EndsAlike v (accepted_panel v p) no_leaf (walk_on 0 (sheet_tree s) (panel_value v))
            → (n : ℕ) × ((ts : List Passed) × (walk_on 0 (sheet_tree s) (panel_value v) ≡ without n ts))
        go (at_clause c) q k = absurd (rw q at k)
        go (without n ts) q k = (n, (ts, q))
        go stuck_on q k = absurd (rw q at k)
        go no_node q k = absurd (value_somewhere q)

    leaf_without : (n : ℕ) (ts : List Passed) → walk_on 0 (sheet_tree s) (panel_value v) ≡ without n ts → walk (sheet_tree s) v ≡ no_leaf
    leaf_without n ts e = go (walk (sheet_tree s) v) refl (rw e at alike)
      where
        go : (x : Walked) → walk (sheet_tree s) v ≡ x → EndsAlike v (accepted_panel v p) (walk (sheet_tree s) v) (without n ts) → walk (sheet_tree s) v ≡ no_leaf
        go (reached c xs) q k = absurd (rw q at k)
        go no_leaf q k = q
        go stuck q k = absurd (rw q at k)

    at_the_clause : (c : ℕ) (xs : List Bound) → walk (sheet_tree s) v ≡ reached c xs → walk_on 0 (sheet_tree s) (panel_value v) ≡ at_clause c
    at_the_clause c xs e = go (walk_on 0 (sheet_tree s) (panel_value v)) refl (rw e at alike)
      where
        go : (x : Ended) → walk_on 0 (sheet_tree s) (panel_value v) ≡ x → EndsAlike v (accepted_panel v p) (reached c xs) (walk_on 0 (sheet_tree s) (panel_value v))
            → walk_on 0 (sheet_tree s) (panel_value v) ≡ at_clause c
        go (at_clause d) q k = let z : c ≡ d = rw q at k in q ∙ ap at_clause (sym z)
        go (without n ts) q k = absurd (rw q at k)
        go stuck_on q k = absurd (rw q at k)
        go no_node q k = absurd (rw q at k)

    at_the_leaf : (c : ℕ) → walk_on 0 (sheet_tree s) (panel_value v) ≡ at_clause c → (xs : List Bound) × (walk (sheet_tree s) v ≡ reached c xs)
    at_the_leaf c e = go (walk (sheet_tree s) v) refl (rw e at alike)
      where
        go : (x : Walked) → walk (sheet_tree s) v ≡ x → EndsAlike v (accepted_panel v p) (walk (sheet_tree s) v) (at_clause c) → (xs : List Bound) × (walk (sheet_tree s) v ≡ reached c xs)
        go (reached d xs) q k = let z : d ≡ c = rw q at k in (xs, q ∙ ap (λ n. reached n xs) z)
        go no_leaf q k = absurd (rw q at k)
        go stuck q k = absurd (file_not_stuck q)

  -- THEOREM: of a panel that fits, the two walks end alike
  pub walks_agree_holds : WalksAgree s v h bytes p
  walks_agree_holds fits = (
    (without_leaf fits, λ (n, (ts, e)). leaf_without fits n ts e),
    λ c. (λ (xs, e). at_the_clause fits c xs e, at_the_leaf fits c),
  )

  -- THEOREM: of a covered sheet every panel file that fits ends at a leaf
  pub covered_panels_have_a_leaf_holds : CoveredPanelsHaveALeaf s v h bytes p
  covered_panels_have_a_leaf_holds covered fits e =
      let (n, (ts, w)) = without_leaf fits e in
      covered n ts (panel_value v, record { typed = sym fits_by_value_holds ∙ fits; ends = w })
