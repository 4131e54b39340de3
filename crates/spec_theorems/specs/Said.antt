-- What the theorems say and rules does not: a sheet that builds, a panel that fits it, the first clause that matches, a position of a
-- panel, and what each refusal has behind it in 01's order. Definitions alone.
use Rattle.std.specs.Prelude.{ℕ, ◌+◌, ◌-◌, ◌*◌, ◌≤◌, ◌<◌, ◌≡◌, Bool, true, false, ◌⊎◌, List, [], ◌∷◌, ◌++◌, eqb, length}
use Rattle.std.proofs.Math.Option.{none, some}
use Rattle.spec_rules.specs.Limits.{nodes_most, bindings_most, tree_room}
use Rattle.spec_rules.specs.Kinds.{list_record}
use Rattle.base_words.specs.Words.{zeros}
use Rattle.spec_rules.specs.SearchingLaws.{Lowest}
use Rattle.spec_rules.specs.SheetFile.{types, patterns, clauses}
use Rattle.spec_rules.specs.Patterns.{clause_pattern, names}
use Rattle.spec_rules.specs.Rows.{Step, Path, Binding, bit}
use Rattle.spec_rules.specs.SheetRefusals.{is_in, length_fits, layout_fits, has_clause, counts_fit, types_fit, transparent, shape_fits, bad_text, misfit, name_twice, verdict, accepted}
use Rattle.spec_rules.specs.Splitting.{Test}
use Rattle.spec_rules.specs.SplittingLaws.{All}
use Rattle.spec_rules.specs.Building.{Tree}
use Rattle.spec_rules.specs.Hoisting.{nodes_in, bindings_in, has_leaf}
use Rattle.spec_rules.specs.TreeReader.{nodes, bindings, node_kind, node_path, node_first_case, node_clause, node_first_binding, node_bindings, case_kind, Switch, List_switch, Leaf, node_kind_of, node_children, path_at, bindings_from, node_for, tree_below, tree_of}
use Rattle.spec_rules.specs.PanelFile.{records, record_kind, record_count, panel_length_fits, panel_layout_fits, panel_shape_fits, panel_texts_fit, panel_verdict}
use Rattle.spec_rules.specs.Fitting.{panel_fits}
use Rattle.spec_rules.specs.Walking.{Position, Bound, panel_root, take_step, follow, bound, Walked, reached, no_leaf, stuck, shown_at, test_kind, walk}
use Rattle.spec_rules.specs.WalkPlaces.{last_node, stuck_step}
use Rattle.spec_rules.specs.Meaning.{matches, gives}
use Rattle.spec_rules.specs.Calls.{answers, sheet_tree, sheet_tree_file, tree_verdict, Built, leaf_of, without_leaf, stuck_at, walk_answer, bound_words, walk_call}
use Rattle.spec_match.specs.Bindings.{SameUpToOrder, all_bindings}

-- ---- sheets and panels
-- the sheet builds: none of 2 to 14 is given
pub record Builds (s : List ℕ) : Type 0 where
  pub sheet : verdict s ≡ accepted
  pub tree : tree_verdict (clauses s) (sheet_tree s) ≡ accepted

-- the panel fits the sheet's subject: none of 21 to 25 is given
pub record Fits (s v : List ℕ) : Type 0 where
  pub panel : panel_verdict v ≡ accepted
  pub type : panel_fits s v ≡ true

-- ---- the meaning
-- clause c's pattern matches the panel, which is record 0 with nothing dropped
unfoldable pub clause_matches : List ℕ → List ℕ → ℕ → Bool
unfolding matches clause_pattern
clause_matches s v c = matches (clause_pattern s c) v panel_root

-- c is the first clause that matches; no clause matches
abbrev pub FirstMatch : List ℕ → List ℕ → ℕ → Type 0
FirstMatch s v c = Lowest (clause_matches s v) 0 (clauses s) c

abbrev pub NoMatch : List ℕ → List ℕ → Type 0
NoMatch s v = (c : ℕ) → c < clauses s → clause_matches s v c ≡ false

-- how often a name is bound
unfoldable pub times_bound : ℕ → List Bound → ℕ
unfolding bit
times_bound x [] = 0
times_bound x (b ∷ bs) = bit (eqb x b.name) + times_bound x bs

-- the walk ended at a leaf of clause c, with exactly the clause's names, each once, each at the position that the pattern gives it
pub record EndsAt (s v : List ℕ) (c : ℕ) (w : Walked) : Type 0 where
  pub bounds : List Bound
  pub at_leaf : w ≡ reached c bounds
  pub as_given : SameUpToOrder bounds (gives (clause_pattern s c) v panel_root)
  pub each_name_once : (x : ℕ) → times_bound x bounds ≡ bit (is_in x (names (clause_pattern s c)))
  pub as_many : length bounds ≡ length (names (clause_pattern s c))

-- ---- leaves and hoists: one of clause c with the bindings bs binds what the clause's pattern binds, each name to the path of the
-- pattern that has it, in whatever order; and so as many as the clause has names
pub record OfClause (s : List ℕ) (c : ℕ) (bs : List Binding) : Type 0 where
  pub clause : c < clauses s
  pub binds : SameUpToOrder bs (all_bindings [] (clause_pattern s c))
  pub as_many : length bs ≡ length (names (clause_pattern s c))

-- ---- positions: a record of the panel, with no more dropped than it has elements, and none dropped if it is no list
pub record InPanel (v : List ℕ) (x : Position) : Type 0 where
  pub there : x.place < records v
  pub most : x.dropped ≤ record_count v x.place
  pub of_list : (record_kind v x.place ≡ list_record → ⊥) → x.dropped ≡ 0

-- ---- how a walk call ends where 1, 31 and 21 to 24 are not given: at a leaf, without one, or with 32 and its place; with what it writes
pub data WalkEnds (t v : List ℕ) (n : ℕ) : Type 0 where
  at_a_leaf : (c : ℕ) (xs : List Bound) → walk (tree_of t) v ≡ reached c xs → walk_answer t v n ≡ answers (leaf_of c (length xs))
      → (walk_call t v n).bound ≡ bound_words xs ++ zeros (n - 3 * length xs) → WalkEnds t v n
  without_a_leaf : walk (tree_of t) v ≡ no_leaf → walk_answer t v n ≡ answers without_leaf → (walk_call t v n).bound ≡ zeros n → WalkEnds t v n
  with_32 : walk (tree_of t) v ≡ stuck → walk_answer t v n ≡ answers (stuck_at (last_node t v) (stuck_step t v (last_node t v)))
      → (walk_call t v n).bound ≡ zeros n → WalkEnds t v n

-- ---- 32's place: "the number of the step that could not be taken (from 0; a test on a wrong kind of part counts as the path's length)"
-- step n of path p is the one that cannot be taken from x on: the n steps before it can
pub record StepFails (v : List ℕ) (p : Path) (x : Position) (n : ℕ) : Type 0 where
  pub before : Path
  pub step : Step
  pub after : Path
  pub from : Position
  pub is_path : p ≡ before ++ (step ∷ after)
  pub its_number : length before ≡ n
  pub taken : follow v before x ≡ some from
  pub not_taken : take_step v step from ≡ none

-- the part at x is not of the kind that node k tests: it shows no test of the kind of the switch's cases, which are all alike; or it is
-- no list, and the node is a list switch
pub data WrongKind (t v : List ℕ) (k : ℕ) (x : Position) : Type 0 where
  not_of_its_cases : node_kind_of (node_kind t k) ≡ Switch
      → ((u : Test) → shown_at v x ≡ some u → test_kind u ≡ case_kind t (node_first_case t k) → ⊥) → WrongKind t v k x
  no_list : node_kind_of (node_kind t k) ≡ List_switch → (record_kind v x.place ≡ list_record → ⊥) → WrongKind t v k x

-- "at a leaf the first binding that sticks decides": all before it can be followed
pub record BindingFails (v : List ℕ) (bs : List Binding) (n : ℕ) : Type 0 where
  pub before : List Binding
  pub binding : Binding
  pub after : List Binding
  pub are_bindings : bs ≡ before ++ (binding ∷ after)
  pub followed : All (λ b. (x : Position) × (follow v b.path panel_root ≡ some x)) before
  pub fails : StepFails v binding.path panel_root n

-- node k is there and sticks at step n: at its path, at its test, or at one of a leaf's bindings
pub data StuckThere (t v : List ℕ) (k n : ℕ) : Type 0 where
  at_a_step : k < nodes t → (node_kind_of (node_kind t k) ≡ Switch) ⊎ (node_kind_of (node_kind t k) ≡ List_switch)
      → StepFails v (path_at t (node_path t k)) panel_root n → StuckThere t v k n
  at_a_test : k < nodes t → (x : Position) → follow v (path_at t (node_path t k)) panel_root ≡ some x → WrongKind t v k x
      → n ≡ length (path_at t (node_path t k)) → StuckThere t v k n
  at_a_binding : k < nodes t → node_kind_of (node_kind t k) ≡ Leaf
      → BindingFails v (bindings_from t (node_first_binding t k) (node_bindings t k)) n → StuckThere t v k n

-- node k is there and is a leaf of clause c, and following its bindings gives xs
pub record LeafThere (t v : List ℕ) (k c : ℕ) (xs : List Bound) : Type 0 where
  pub there : k < nodes t
  pub is_leaf : node_kind_of (node_kind t k) ≡ Leaf
  pub its_clause : node_clause t k ≡ c
  pub its_bindings : bound v (bindings_from t (node_first_binding t k) (node_bindings t k)) ≡ some xs

-- node k leads the walk to node c: c is a child of k and a later node of the file; whatever trees the children of k stand for, the walk
-- of k is that of c's; and so the walk of the tree below k is that of the tree below c
pub record LeadsOn (t v : List ℕ) (k c : ℕ) : Type 0 where
  pub child : is_in c (node_children t k) ≡ true
  pub later : k < c
  pub there : c < nodes t
  pub whatever_below : (f : ℕ → Tree) → walk (node_for f t k (node_kind_of (node_kind t k))) v ≡ walk (f c) v
  pub same_walk : walk (tree_below (nodes t) t k) v ≡ walk (tree_below (nodes t) t c) v

-- ---- what the build answers is the file's length and the records written
pub record TellsTheFile (s : List ℕ) (x : Built) : Type 0 where
  pub bytes_told : x.bytes ≡ length (sheet_tree_file s)
  pub bytes_few : x.bytes < tree_room
  pub nodes_told : x.nodes ≡ nodes (sheet_tree_file s)
  pub bindings_told : x.bindings ≡ bindings (sheet_tree_file s)

-- ---- the tests of 2 to 11, each with those before it
abbrev pub Passes2 : List ℕ → Type 0
Passes2 s = length_fits s ≡ true

abbrev pub Passes3 : List ℕ → Type 0
Passes3 s = Passes2 s × (layout_fits s ≡ true)

abbrev pub Passes4 : List ℕ → Type 0
Passes4 s = Passes3 s × (has_clause s ≡ true)

abbrev pub Passes5 : List ℕ → Type 0
Passes5 s = Passes4 s × (counts_fit s ≡ true)

abbrev pub Passes6 : List ℕ → Type 0
Passes6 s = Passes5 s × (types_fit s ≡ true)

abbrev pub Passes7 : List ℕ → Type 0
Passes7 s = Passes6 s × ((t : ℕ) → t < types s → transparent s t ≡ false)

abbrev pub Passes8 : List ℕ → Type 0
Passes8 s = Passes7 s × (shape_fits s ≡ true)

abbrev pub Passes9 : List ℕ → Type 0
Passes9 s = Passes8 s × ((p : ℕ) → p < patterns s → bad_text s p ≡ false)

abbrev pub Passes10 : List ℕ → Type 0
Passes10 s = Passes9 s × ((c : ℕ) → c < clauses s → misfit s c ≡ false)

abbrev pub Passes11 : List ℕ → Type 0
Passes11 s = Passes10 s × ((c : ℕ) → c < clauses s → name_twice s c ≡ false)

-- ---- 12, 13 and 14, of a tree of n clauses
abbrev pub Passes12 : Tree → Type 0
Passes12 a = nodes_in a ≤ nodes_most

abbrev pub Passes13 : Tree → Type 0
Passes13 a = Passes12 a × (length (bindings_in a) ≤ bindings_most)

abbrev pub Passes14 : ℕ → Tree → Type 0
Passes14 n a = Passes13 a × ((c : ℕ) → c < n → has_leaf c a ≡ true)

-- ---- 21 to 24, of a panel
abbrev pub Passes21 : List ℕ → Type 0
Passes21 v = panel_length_fits v ≡ true

abbrev pub Passes22 : List ℕ → Type 0
Passes22 v = Passes21 v × (panel_layout_fits v ≡ true)

abbrev pub Passes23 : List ℕ → Type 0
Passes23 v = Passes22 v × (panel_shape_fits v ≡ true)

abbrev pub Passes24 : List ℕ → Type 0
Passes24 v = Passes23 v × (panel_texts_fit v ≡ true)
