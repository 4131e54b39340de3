-- THE THEOREMS: what is proved of document 01's definitions (crate spec_rules), before any code. Read each statement with 01 beside it; the
-- words that rules does not have are in Said, the proofs in the files that each one cites. Most of section 1, and single theorems of 2, 3,
-- 5 and 6, stand in proofs/Theorems.antt.
--
--   s sheet bytes, t tree bytes, v panel bytes, a a tree, c a clause, k a place, n and m lengths of buffers
use Rattle.std.specs.Prelude.{ℕ, ◌+◌, ◌-◌, ◌≤◌, ◌<◌, ◌≡◌, ◌⊎◌, ◌↔◌, true, false, not, List, ◌++◌, length}
use Rattle.std.proofs.Common.{arith, ◌∙◌}
use Rattle.std.proofs.Math.Path.{sym}
use Rattle.std.proofs.Math.Option.{some}
use Rattle.base_words.specs.Words.{Bytes, text_at, zeros}
use Rattle.spec_rules.specs.Limits.{nodes_most, bindings_most, tree_room, work_room, bound_room, node_bindings_most}
use Rattle.spec_rules.specs.SearchingLaws.{Lowest}
use Rattle.spec_rules.specs.SheetFile.{subject, types, patterns, clauses}
use Rattle.spec_rules.specs.Patterns.{Pat, pattern_to, pattern, clause_pattern, names}
use Rattle.spec_rules.specs.SheetRefusals.{length_fits, layout_fits, has_clause, counts_fit, types_fit, transparent, shape_fits, bad_text, misfit, name_twice, Verdict, accepted, refused, verdict}
use Rattle.spec_rules.specs.Rows.{Path, Row, clause_rows}
use Rattle.spec_rules.specs.Columns.{before, columns}
use Rattle.spec_rules.specs.Splitting.{split, split_by_filters}
use Rattle.spec_rules.specs.Building.{Tree, tree_to, matrix_places, plain_tree}
use Rattle.spec_rules.specs.Hoisting.{nodes_in, bindings_in, has_leaf}
use Rattle.spec_rules.specs.TreeReader.{nodes, node_kind, tree_fits, node_kind_of, node_for, tree_below, tree_of}
use Rattle.spec_rules.specs.PanelFile.{records, panel_pool_at, record_first, record_count, panel_length_fits, panel_layout_fits, panel_shape_fits, panel_texts_fit, panel_verdict}
use Rattle.spec_rules.specs.Fitting.{has_type_to, panel_fits}
use Rattle.spec_rules.specs.Walking.{Bound, reached, stuck, walk}
use Rattle.spec_rules.specs.WalkPlaces.{goes_on, last_node, stuck_step}
use Rattle.spec_rules.specs.Calls.{answers, refuses, sheet_patterns, sheet_tree, sheet_tree_file, tree_verdict, Built, built_of, build_answer, build_call, fit_call, walk_answer, bound_words, walk_call, has_text, text_call}
use Rattle.spec_rules.proofs.SplittingLaws.{split_filters}
use Rattle.spec_accepted.specs.SheetFacts.{accepted_sheet}
use Rattle.spec_accepted.specs.PatternsLaws.{pattern_deep}
use Rattle.spec_accepted.specs.PanelFacts.{accepted_panel, has_type_deep}
use Rattle.spec_accepted.specs.TreeFacts.{tree_sound, tree_length_small, tree_below_enough}
use Rattle.spec_hoist.specs.Trees.{EachHoist, Above, Leaf, leaves_of, Among}
use Rattle.spec_hoist.proofs.WholeTreeLaws.{whole_tree_above}
use Rattle.spec_match.specs.Tests.{clause_rows_test}
use Rattle.spec_match.specs.Depth.{tree_to_matrix, plain_tree_matrix}
use Rattle.spec_match.specs.Apart.{is_column}
use Rattle.spec_match.specs.Order.{before_trans, before_one_way}
use Rattle.spec_match.specs.Bindings.{SameUpToOrder}
use Rattle.spec_match.specs.Leaves.{AllLeaves}
use Rattle.spec_match.specs.ColumnTypes.{Meets}
use Rattle.spec_match.specs.SheetColumns.{sheet_columns_ordered}
use Rattle.spec_theorems.specs.Said.{Builds, Fits, FirstMatch, NoMatch, OfClause, WalkEnds, StuckThere, LeafThere, LeadsOn, Passes2, Passes3, Passes4, Passes5, Passes6, Passes7, Passes8, Passes9, Passes10, Passes11, Passes12, Passes13, Passes21, Passes22, Passes23, Passes24}
use Rattle.spec_theorems.specs.SheetLeaves.{length_sheet_patterns, each_leaf, sheet_leaves, sheet_hoists}
use Rattle.spec_theorems.specs.Stages.{one_refusal, not_both}
use Rattle.spec_theorems.specs.Refusals.{sheet_accepted, sheet_numbers, refusal_2, refusal_3, refusal_4, refusal_5, refusal_6, refusal_7, refusal_8, refusal_9, refusal_10, refusal_11, tree_numbers, refusal_12, refusal_13, refusal_14, panel_accepted, panel_numbers, refusal_21, refusal_22, refusal_23, refusal_24}
use Rattle.spec_theorems.specs.Positions.{walk_from, length_bound, leaves_few}
use Rattle.spec_theorems.specs.WalkPlaces.{goes_on_leads, last_walk, stuck_there, leaf_there, place_short}
use Rattle.spec_theorems.specs.FirstMatches.{first_or_none}
use Rattle.spec_theorems.specs.CallsLaws.{BuildAnswers, build_room_lem, build_sheet, build_tree, build_answers, build_answers_only, build_writes, build_file, build_refused_writes, fit_sheet, fit_panel, fit_type, fit_accepts, fit_accepts_only, walk_room_lem, walk_tree, walk_panel, walk_ends, walk_refused_writes, room_enough, text_panel, text_none, text_answers}

-- ======== 1. First match: a sheet that builds, a panel that fits it, the walk of the tree file
-- one of the two is the case
pub a_clause_matches_or_none : (s v : List ℕ) → ((c : ℕ) × FirstMatch s v c) ⊎ NoMatch s v
a_clause_matches_or_none = first_or_none

-- ======== 2. Hoisting
module _ (s : List ℕ) (b : Builds s) (c : ℕ) (l : c < clauses s) where
  -- each clause is hoisted above all its leaves: going down from the root none of them is met before the hoist
  pub each_clause_is_hoisted_above_its_leaves : Above c (sheet_tree s)
  unfolding sheet_tree
  each_clause_is_hoisted_above_its_leaves = whole_tree_above (sheet_patterns s) c (omega (arith, length_sheet_patterns s))

-- a hoist binds what its clause's leaves bind, which is what the clause's pattern binds
pub each_leaf_binds_its_clause : (s : List ℕ) → AllLeaves (OfClause s) (sheet_tree s)
each_leaf_binds_its_clause = sheet_leaves

pub each_hoist_binds_its_clause : (s : List ℕ) → EachHoist (OfClause s) (sheet_tree s)
each_hoist_binds_its_clause = sheet_hoists

-- 14 is given, where 12 and 13 are not, exactly if a clause has no leaf, and then for the lowest of those
pub idle_exactly : (s : List ℕ) (c : ℕ)
    → (tree_verdict (clauses s) (sheet_tree s) ≡ refused 14 c)
    ↔ (Passes13 (sheet_tree s) × Lowest (λ d. not (has_leaf d (sheet_tree s))) 0 (clauses s) c)
idle_exactly s c = refusal_14 (clauses s) (sheet_tree s) c

-- ======== 3. The file says the tree
-- so many bytes of the tree buffer as the build answers are the file
module _ (s : List ℕ) (n m : ℕ) (x : Built) (e : build_answer s n m ≡ answers x) where
  pub the_buffer_has_the_file : text_at (build_call s n m).tree 0 x.bytes ≡ sheet_tree_file s
  the_buffer_has_the_file = build_file s n m x e

-- ======== 4. The rules are well made
-- what the definitions hand over as depth is enough, and more changes nothing: patterns, trees, reading, fitting
pub patterns_are_deep_enough : (s : List ℕ) → verdict s ≡ accepted → (deep p t : ℕ) → p < patterns s → patterns s ≤ deep + p → pattern_to deep s p t ≡ pattern s p t
patterns_are_deep_enough s h deep p t known enough =
    let a = accepted_sheet s h in
    pattern_deep s a.is_shaped a.is_counted p t known deep enough

pub trees_are_deep_enough : (qs : List Pat) (deep : ℕ) → matrix_places (clause_rows 0 qs) ≤ deep
    → tree_to deep (columns (clause_rows 0 qs)) (clause_rows 0 qs) ≡ plain_tree qs
trees_are_deep_enough qs deep enough =
    tree_to_matrix deep (columns (clause_rows 0 qs)) (clause_rows 0 qs) (clause_rows_test 0 qs) enough ∙ sym (plain_tree_matrix qs)

pub reading_is_deep_enough : (t : List ℕ) → tree_fits t ≡ true → (deep : ℕ) → nodes t ≤ deep → tree_below deep t 0 ≡ tree_of t
unfolding tree_of
reading_is_deep_enough t h deep enough =
    let sound = tree_sound t h in
    tree_below_enough t sound deep (nodes t) 0 sound.some_node (omega arith) (omega arith)

pub fitting_is_deep_enough : (s v : List ℕ) → panel_verdict v ≡ accepted → (deep : ℕ) → records v ≤ deep → has_type_to deep s v 0 (subject s) ≡ panel_fits s v
unfolding panel_fits
fitting_is_deep_enough s v h deep enough =
    let a = accepted_panel v h in
    has_type_deep s v a.is_shaped a.is_laid 0 (subject s) a.is_laid.some_record deep (omega arith)

-- rule 4: the document's pass down the rows is the filters
pub the_pass_is_the_filters : (p : Path) (rs : List Row) → split p rs ≡ split_by_filters p rs
the_pass_is_the_filters = split_filters

-- all leaves of one clause bind the same names to the same paths, as many as the clause has names
pub leaves_of_one_clause_bind_the_same : (s : List ℕ) (x y : Leaf) → Among x (leaves_of (sheet_tree s)) → Among y (leaves_of (sheet_tree s))
    → x.clause ≡ y.clause → SameUpToOrder x.bindings y.bindings × (length x.bindings ≡ length (names (clause_pattern s x.clause)))
leaves_of_one_clause_bind_the_same s x y a b e =
    let ox = each_leaf (OfClause s) (sheet_tree s) (sheet_leaves s) x a in
    let oy = rw (← e) at (each_leaf (OfClause s) (sheet_tree s) (sheet_leaves s) y b) in
    (λ f. ox.binds f ∙ sym (oy.binds f), ox.as_many)

-- the order of columns is total on the columns of a matrix that the tree is built from; and it is an order
pub columns_are_ordered : (s : List ℕ) → verdict s ≡ accepted → (ps : List Path) (rs : List Row) → Meets (sheet_patterns s) ps rs
    → (p q : Path) → is_column p ps ≡ true → is_column q ps ≡ true → (p ≡ q → ⊥) → (before p q ≡ true) ⊎ (before q p ≡ true)
columns_are_ordered = sheet_columns_ordered

pub before_goes_one_way : (p q : Path) → before p q ≡ true → before q p ≡ false
before_goes_one_way = before_one_way

pub before_goes_on : (p q r : Path) → before p q ≡ true → before q r ≡ true → before p r ≡ true
before_goes_on = before_trans

-- ======== 5. Refusals are exclusive and exact
-- a verdict is a function of the bytes: one number with one place, or none
pub one_refusal_at_most : (w : Verdict) (m n j k : ℕ) → w ≡ refused m j → w ≡ refused n k → (m ≡ n) × (j ≡ k)
one_refusal_at_most = one_refusal

pub accepted_or_refused_not_both : (w : Verdict) (n k : ℕ) → w ≡ accepted → w ≡ refused n k → ⊥
accepted_or_refused_not_both = not_both

-- of a sheet: accepted exactly if all tests hold; else one of 2 to 11, given exactly if the tests before it hold and its own fails
module _ (s : List ℕ) where
  pub accepted_exactly : (verdict s ≡ accepted) ↔ Passes11 s
  accepted_exactly = sheet_accepted s

  pub refused_2_to_11 : (n k : ℕ) → verdict s ≡ refused n k → (2 ≤ n) × (n ≤ 11)
  refused_2_to_11 = sheet_numbers s

  module _ (k : ℕ) where
    pub refused_2_exactly : (verdict s ≡ refused 2 k) ↔ ((length_fits s ≡ false) × (k ≡ 0))
    refused_2_exactly = refusal_2 s k

    pub refused_3_exactly : (verdict s ≡ refused 3 k) ↔ (Passes2 s × ((layout_fits s ≡ false) × (k ≡ 0)))
    refused_3_exactly = refusal_3 s k

    pub refused_4_exactly : (verdict s ≡ refused 4 k) ↔ (Passes3 s × ((has_clause s ≡ false) × (k ≡ 0)))
    refused_4_exactly = refusal_4 s k

    pub refused_5_exactly : (verdict s ≡ refused 5 k) ↔ (Passes4 s × ((counts_fit s ≡ false) × (k ≡ 0)))
    refused_5_exactly = refusal_5 s k

    pub refused_6_exactly : (verdict s ≡ refused 6 k) ↔ (Passes5 s × ((types_fit s ≡ false) × (k ≡ 0)))
    refused_6_exactly = refusal_6 s k

    -- the place is the lowest type, pattern or clause
    pub refused_7_exactly : (verdict s ≡ refused 7 k) ↔ (Passes6 s × Lowest (transparent s) 0 (types s) k)
    refused_7_exactly = refusal_7 s k

    pub refused_8_exactly : (verdict s ≡ refused 8 k) ↔ (Passes7 s × ((shape_fits s ≡ false) × (k ≡ 0)))
    refused_8_exactly = refusal_8 s k

    pub refused_9_exactly : (verdict s ≡ refused 9 k) ↔ (Passes8 s × Lowest (bad_text s) 0 (patterns s) k)
    refused_9_exactly = refusal_9 s k

    pub refused_10_exactly : (verdict s ≡ refused 10 k) ↔ (Passes9 s × Lowest (misfit s) 0 (clauses s) k)
    refused_10_exactly = refusal_10 s k

    pub refused_11_exactly : (verdict s ≡ refused 11 k) ↔ (Passes10 s × Lowest (name_twice s) 0 (clauses s) k)
    refused_11_exactly = refusal_11 s k

-- of a tree of n clauses; 14 is `idle_exactly`
module _ (n : ℕ) (a : Tree) where
  pub refused_12_to_14 : (m k : ℕ) → tree_verdict n a ≡ refused m k → (12 ≤ m) × (m ≤ 14)
  refused_12_to_14 = tree_numbers n a

  pub refused_12_exactly : (k : ℕ) → (tree_verdict n a ≡ refused 12 k) ↔ ((nodes_most < nodes_in a) × (k ≡ 0))
  refused_12_exactly = refusal_12 n a

  pub refused_13_exactly : (k : ℕ) → (tree_verdict n a ≡ refused 13 k) ↔ (Passes12 a × ((bindings_most < length (bindings_in a)) × (k ≡ 0)))
  refused_13_exactly = refusal_13 n a

-- of a panel
module _ (v : List ℕ) where
  pub panel_accepted_exactly : (panel_verdict v ≡ accepted) ↔ Passes24 v
  panel_accepted_exactly = panel_accepted v

  pub refused_21_to_24 : (n k : ℕ) → panel_verdict v ≡ refused n k → (21 ≤ n) × (n ≤ 24)
  refused_21_to_24 = panel_numbers v

  module _ (k : ℕ) where
    pub refused_21_exactly : (panel_verdict v ≡ refused 21 k) ↔ ((panel_length_fits v ≡ false) × (k ≡ 0))
    refused_21_exactly = refusal_21 v k

    pub refused_22_exactly : (panel_verdict v ≡ refused 22 k) ↔ (Passes21 v × ((panel_layout_fits v ≡ false) × (k ≡ 0)))
    refused_22_exactly = refusal_22 v k

    pub refused_23_exactly : (panel_verdict v ≡ refused 23 k) ↔ (Passes22 v × ((panel_shape_fits v ≡ false) × (k ≡ 0)))
    refused_23_exactly = refusal_23 v k

    pub refused_24_exactly : (panel_verdict v ≡ refused 24 k) ↔ (Passes23 v × ((panel_texts_fit v ≡ false) × (k ≡ 0)))
    refused_24_exactly = refusal_24 v k

-- ---- of the calls, each in its order. A length is enough or not, and a verdict accepts or refuses, so that on every input one of a
-- call's cases holds.
-- the build: 1, then 2 to 11, then 12 to 14, else it answers; a refusal leaves zeros
module _ (s : List ℕ) (n m : ℕ) where
  pub build_refuses_1 : (n < tree_room) ⊎ (m < work_room) → build_answer s n m ≡ refuses 1 0
  build_refuses_1 = build_room_lem s n m

  pub build_refuses_the_sheet : tree_room ≤ n → work_room ≤ m → (number k : ℕ) → verdict s ≡ refused number k → build_answer s n m ≡ refuses number k
  build_refuses_the_sheet = build_sheet s n m

  pub build_refuses_the_tree : tree_room ≤ n → work_room ≤ m → verdict s ≡ accepted → (number k : ℕ) → tree_verdict (clauses s) (sheet_tree s) ≡ refused number k
      → build_answer s n m ≡ refuses number k
  build_refuses_the_tree = build_tree s n m

  pub build_answers_else : tree_room ≤ n → work_room ≤ m → Builds s → build_answer s n m ≡ answers (built_of (sheet_tree_file s) (sheet_tree s))
  build_answers_else = build_answers s n m

  pub build_answers_only_then : (x : Built) → build_answer s n m ≡ answers x → BuildAnswers s n m x
  build_answers_only_then = build_answers_only s n m

  pub build_writes_the_file : tree_room ≤ n → work_room ≤ m → Builds s
      → ((build_call s n m).tree ≡ sheet_tree_file s ++ zeros (n - length (sheet_tree_file s))) × ((build_call s n m).work ≡ zeros m)
  build_writes_the_file = build_writes s n m

  pub build_refused_writes_zeros : (number k : ℕ) → build_answer s n m ≡ refuses number k → ((build_call s n m).tree ≡ zeros n) × ((build_call s n m).work ≡ zeros m)
  build_refused_writes_zeros = build_refused_writes s n m

-- the fit check: 2 to 11, then 21 to 24, then 25, else it accepts
module _ (s v : List ℕ) where
  pub fit_refuses_the_sheet : (number k : ℕ) → verdict s ≡ refused number k → fit_call s v ≡ refused number k
  fit_refuses_the_sheet = fit_sheet s v

  pub fit_refuses_the_panel : verdict s ≡ accepted → (number k : ℕ) → panel_verdict v ≡ refused number k → fit_call s v ≡ refused number k
  fit_refuses_the_panel = fit_panel s v

  pub fit_refuses_25 : verdict s ≡ accepted → panel_verdict v ≡ accepted → panel_fits s v ≡ false → fit_call s v ≡ refused 25 0
  fit_refuses_25 = fit_type s v

  pub fit_accepts_exactly : (fit_call s v ≡ accepted) ↔ ((verdict s ≡ accepted) × Fits s v)
  fit_accepts_exactly = (fit_accepts_only s v, λ (h, f). fit_accepts s v h f)

-- the walk: 1, then 31, then 21 to 24; else `the_walk_ends` says what it answers, 32 with its place among it
module _ (t v : List ℕ) (n : ℕ) where
  pub walk_refuses_1 : n < bound_room → walk_answer t v n ≡ refuses 1 0
  walk_refuses_1 = walk_room_lem t v n

  pub walk_refuses_31 : bound_room ≤ n → tree_fits t ≡ false → walk_answer t v n ≡ refuses 31 0
  walk_refuses_31 = walk_tree t v n

  pub walk_refuses_the_panel : bound_room ≤ n → tree_fits t ≡ true → (number k : ℕ) → panel_verdict v ≡ refused number k → walk_answer t v n ≡ refuses number k
  walk_refuses_the_panel = walk_panel t v n

  pub walk_refused_writes_zeros : (number k : ℕ) → walk_answer t v n ≡ refuses number k → (walk_call t v n).bound ≡ zeros n
  walk_refused_writes_zeros = walk_refused_writes t v n

-- the text call: 21 to 24, then 33, else the start and the length of the part
module _ (v : List ℕ) (place dropped : ℕ) where
  pub text_refuses_the_panel : (number k : ℕ) → panel_verdict v ≡ refused number k → text_call v place dropped ≡ refuses number k
  text_refuses_the_panel = text_panel v place dropped

  pub text_refuses_33 : panel_verdict v ≡ accepted → has_text v place dropped ≡ false → text_call v place dropped ≡ refuses 33 0
  text_refuses_33 = text_none v place dropped

  pub text_answers_else : panel_verdict v ≡ accepted → has_text v place dropped ≡ true
      → text_call v place dropped ≡ answers (record { start = panel_pool_at v + record_first v place; count = record_count v place })
  text_answers_else = text_answers v place dropped

-- ======== 6. The walk reads only what fits: any tree and any panel that their readers accept
module _ (t v : List ℕ) (panel : panel_verdict v ≡ accepted) where
  module _ (fits : tree_fits t ≡ true) where
    -- at most 192 names are bound, and so the least room of the binding buffer is enough
    pub few_are_bound : (c : ℕ) (xs : List Bound) → walk (tree_of t) v ≡ reached c xs → length xs ≤ node_bindings_most
    few_are_bound c xs e =
        let o = walk_from (λ c bs. length bs ≤ node_bindings_most) v (tree_of t) (leaves_few t (tree_sound t fits)) c xs e in
        omega (arith, o.has, length_bound v o.bindings xs o.read)

    pub the_least_room_is_enough : (c : ℕ) (xs : List Bound) → walk (tree_of t) v ≡ reached c xs → length (bound_words xs) ≤ bound_room
    the_least_room_is_enough c xs e = room_enough xs (few_are_bound c xs e)

    -- the call ends in one of three ways: at a leaf, without one, with 32 and its place
    pub the_walk_ends : (n : ℕ) → bound_room ≤ n → WalkEnds t v n
    the_walk_ends n room = walk_ends t v n room fits panel

-- where it ends, on whatever panel: `last_node` and `stuck_step` are the place of 32
module _ (t v : List ℕ) (fits : tree_fits t ≡ true) where
  -- each step is the walk's own: the node that a node goes on to is the one whose walk it is
  pub each_step_is_the_walks : (k c : ℕ) → k < nodes t → goes_on t v k ≡ some c → LeadsOn t v k c
  each_step_is_the_walks = goes_on_leads t v (tree_sound t fits)

  -- and the last node goes no further: the walk is its walk, whatever trees its children would stand for
  pub the_walk_is_the_last_nodes : (f : ℕ → Tree) → walk (tree_of t) v ≡ walk (node_for f t (last_node t v) (node_kind_of (node_kind t (last_node t v)))) v
  the_walk_is_the_last_nodes = last_walk t v (tree_sound t fits)

  -- the place of 32 is never made up: that node is there and sticks at that step, of its path, at its test, or of the first binding of a
  -- leaf that cannot be followed
  pub the_place_is_there : walk (tree_of t) v ≡ stuck → StuckThere t v (last_node t v) (stuck_step t v (last_node t v))
  the_place_is_there = stuck_there t v fits

  -- where a leaf is reached, that node is a leaf of the clause, whose bindings give what the walk answers
  pub the_leaf_is_there : (c : ℕ) (xs : List Bound) → walk (tree_of t) v ≡ reached c xs → LeafThere t v (last_node t v) c xs
  the_leaf_is_there = leaf_there t v fits

  -- both numbers of the place fit 16 bits
  pub the_place_is_short : Bytes t → (last_node t v < 65536) × (stuck_step t v (last_node t v) < 65536)
  the_place_is_short bytes = place_short t v fits (tree_length_small (tree_sound t fits).is_laid bytes)
