-- Reading a tree file gives back the tree that was written: nodes, cases with their tests and texts, bindings, paths.
-- Rests on the records placed in a file, opened one level at a time.
use Rattle.std.specs.Prelude.{◌≡◌, true, List, length}
use Rattle.std.proofs.Math.Path.{refl, sym, ap}
use Rattle.std.proofs.Common.{◌∙◌, true≢false, arith}
use Prim.Native.Nat.{ℕ, zero, suc, ◌+◌, ◌*◌, ◌≤◌}
use Rattle.spec_rules.specs.Limits.{case_size}
use Rattle.spec_rules.specs.Kinds.{switch_node, list_switch_node, leaf_node, hoist_node}
use Rattle.spec_rules.specs.Rows.{Path, Binding}
use Rattle.spec_rules.specs.Splitting.{Test, Constr, Int, Bytes, ListOf, ListWithTail}
use Rattle.spec_rules.specs.Building.{Tree, Cases, absent, leaf, hoist, switch, listswitch, cnil, ccons}
use Rattle.spec_rules.specs.Hoisting.{how_many, nodes_in, nodes_in_of, bindings_in, bindings_in_of}
use Rattle.spec_rules.specs.TreeFile.{path_table, paths_used, first_of, cases_in, cases_in_of, default_field, own_cases, tree_file}
use Rattle.spec_rules.specs.TreeReader.{tree_cases_at, tree_pool_at, nodes, node_kind, node_path, node_first_case, node_cases, node_tail_cases, node_default, node_clause, node_first_binding, node_bindings, node_child, case_number, case_length, Switch, List_switch, Leaf, Hoist_node, node_kind_of, case_kind_of, bindings_from, case_text, test_of_kind, case_test, start_of_test, cases_for, default_for, node_for, tree_below, tree_of}
use Rattle.spec_file.specs.PathsLaws.{Covers, table_covers}
use Rattle.spec_file.specs.StandingLaws.{Stands, stands_text}
use Rattle.spec_file.specs.FileLaws.{Filed, tree_filed}
use Rattle.spec_file.specs.Writable.{present, test_kind, InPool, TextStarts, Writable, WritableOf}
use Rattle.spec_file.specs.RecordsLaws.{CaseIs, test_number, test_length}
use Rattle.spec_file.specs.RunLaws.{first_of_some}
use Rattle.spec_file.specs.TableLaws.{Tabled}
use Rattle.spec_file.specs.TreeStandsLaws.{own_rest}
use Rattle.spec_file.specs.PlacedLaws.{Placed, PlacedOf, LeafAt, HoistAt, SwitchAt, ListSwitchAt, leaf_placed, hoist_placed, switch_placed, list_switch_placed, own_first, first_placed, rest_placed, root_placed, table_read}

-- where nothing is read, it does not matter from where
module _ (t : List ℕ) where
  bindings_start : (n i j : ℕ) → (1 ≤ n → i ≡ j) → bindings_from t i n ≡ bindings_from t j n
  unfolding bindings_from
  bindings_start zero i j h = refl
  bindings_start (suc n) i j h = ap (λ (z : ℕ). bindings_from t z (suc n)) (h (omega arith))

  bound_read : (b : ℕ) (bs : List Binding) → bindings_from t b (length bs) ≡ bs → bindings_from t (first_of (length bs) b) (length bs) ≡ bs
  bound_read b bs e = bindings_start (length bs) (first_of (length bs) b) b (first_of_some (length bs) b) ∙ e

  module _ (f : ℕ → Tree) where
    cases_start : (n i j : ℕ) → (1 ≤ n → i ≡ j) → cases_for f t i n ≡ cases_for f t j n
    unfolding cases_for
    cases_start zero i j h = refl
    cases_start (suc n) i j h = ap (λ (z : ℕ). cases_for f t z (suc n)) (h (omega arith))

    default_read : (k : ℕ) (d : Tree) → (present d ≡ true → f k ≡ d) → default_for f (default_field k d) ≡ d
    unfolding default_for default_field present
    default_read k absent h = refl
    default_read k (leaf c bs) h = h refl
    default_read k (hoist c bs a) h = h refl
    default_read k (switch p cs d) h = h refl
    default_read k (listswitch p cs ts d) h = h refl

    leaf_read : (k b x : ℕ) (bs : List Binding) → LeafAt t b k x bs → node_for f t k Leaf ≡ leaf x bs
    unfolding node_for node_clause node_first_binding node_bindings
    leaf_read k b x bs h = let n = h.node in rw (n.word_0, n.word_1, n.word_2, bound_read b bs h.bound)

    hoist_read : (table : List Path) (k c b x : ℕ) (bs : List Binding) (a : Tree) → HoistAt t table k c b x bs a → f (k + 1) ≡ a → node_for f t k Hoist_node ≡ hoist x bs a
    unfolding node_for node_clause node_first_binding node_bindings node_child
    hoist_read table k c b x bs a h e = let n = h.node in rw (n.word_0, n.word_1, n.word_2, n.word_3, bound_read b bs h.bound, e)

    switch_read : (table : List Path) (k c b : ℕ) (p : Path) (cs : Cases) (d : Tree) → SwitchAt t table k c b p cs d
        → cases_for f t c (how_many cs) ≡ cs → (present d ≡ true → f (k + 1 + nodes_in_of cs) ≡ d) → node_for f t k Switch ≡ switch p cs d
    unfolding node_for node_path node_first_case node_cases node_default
    switch_read table k c b p cs d h e g =
        let n = h.node in
        let e₁ : cases_for f t (first_of (how_many cs) c) (how_many cs) ≡ cs =
        cases_start (how_many cs) (first_of (how_many cs) c) c (first_of_some (how_many cs) c) ∙ e in
        let e₂ = default_read (k + 1 + nodes_in_of cs) d g in
        rw (n.word_0, n.word_1, n.word_2, n.word_4, h.path.there, e₁, e₂)

    list_switch_read : (table : List Path) (k c b : ℕ) (p : Path) (cs ts : Cases) (d : Tree) → ListSwitchAt t table k c b p cs ts d
        → cases_for f t c (how_many cs) ≡ cs → cases_for f t (c + how_many cs) (how_many ts) ≡ ts → (present d ≡ true → f (k + 1 + nodes_in_of cs + nodes_in_of ts) ≡ d)
        → node_for f t k List_switch ≡ listswitch p cs ts d
    unfolding node_for node_path node_first_case node_cases node_tail_cases node_default
    list_switch_read table k c b p cs ts d h e e' g =
        let n = h.node in
        let first = first_of (how_many cs + how_many ts) c in
        let same : 1 ≤ how_many cs + how_many ts → first ≡ c = first_of_some (how_many cs + how_many ts) c in
        let e₁ : cases_for f t first (how_many cs) ≡ cs = cases_start (how_many cs) first c (λ l. same (omega arith)) ∙ e in
        let e₂ : cases_for f t (first + how_many cs) (how_many ts) ≡ ts =
        cases_start (how_many ts) (first + how_many cs) (c + how_many cs) (λ l. ap (λ (z : ℕ). z + how_many cs) (same (omega arith))) ∙ e' in
        let e₃ = default_read (k + 1 + nodes_in_of cs + nodes_in_of ts) d g in
        rw (n.word_0, n.word_1, n.word_2, n.word_3, n.word_4, h.path.there, e₁, e₂, e₃)

-- ---- a case's test and start
module _ (t pool : List ℕ) (there : Stands t (tree_pool_at t) pool) where
  text_read : (i start : ℕ) (w : List ℕ) → case_number t i ≡ start → case_length t i ≡ length w → InPool pool start w → case_text t i ≡ w
  unfolding case_text
  text_read i start w e f h = rw (e, f) (stands_text there start (length w) h.inside ∙ h.text)

  test_read : (i : ℕ) (u : Test) (start child : ℕ) → CaseIs t i u start child → TextStarts pool start u → case_test t i ≡ u
  unfolding case_test test_of_kind case_kind_of TextStarts test_kind test_number test_length
  test_read i (Constr a) start child h w = rw (h.kind_is, h.number_is)
  test_read i (Int v) start child h w = rw (h.kind_is, text_read i start v h.number_is h.length_is w)
  test_read i (Bytes v) start child h w = rw (h.kind_is, text_read i start v h.number_is h.length_is w)
  test_read i (ListOf n) start child h w = rw (h.kind_is, h.number_is)
  test_read i (ListWithTail n) start child h w = rw (h.kind_is, h.number_is)

  start_read : (u : Test) (start : ℕ) → TextStarts pool start u → start_of_test (test_number start u) u ≡ start
  unfolding start_of_test test_number TextStarts
  start_read (Constr a) start w = sym w
  start_read (Int v) start w = refl
  start_read (Bytes v) start w = refl
  start_read (ListOf n) start w = sym w
  start_read (ListWithTail n) start w = sym w

  case_read : (f : ℕ → Tree) (i n : ℕ) (u : Test) (start child : ℕ) (a : Tree) (cs : Cases) → CaseIs t i u start child → TextStarts pool start u
      → f child ≡ a → cases_for f t (i + 1) n ≡ cs → cases_for f t i (suc n) ≡ ccons u start a cs
  unfolding cases_for
  case_read f i n u start child a cs h w e g = rw (test_read i u start child h w, h.number_is, start_read u start w, h.child_is, e, g)

  -- ---- the tree
  module _ (table : List Path) (tab : Tabled t table) where
    below : (deep k kind : ℕ) → node_kind t k ≡ kind → tree_below (suc deep) t k ≡ node_for (tree_below deep t) t k (node_kind_of kind)
    unfolding tree_below
    below deep k kind e = rw e

    mutual
      unfolding present Writable nodes_in cases_for how_many node_kind_of

      tree_read : (a : Tree) (deep k c b : ℕ) → nodes_in a ≤ deep → present a ≡ true → Writable pool a → Placed t table k c b a → tree_below deep t k ≡ a
      tree_read absent deep k c b l r w h = absurd (true≢false (sym r))
      tree_read (leaf x bs) zero k c b l r w h = absurd (omega arith)
      tree_read (leaf x bs) (suc deep) k c b l r w h =
          let g = leaf_placed t table tab k c b x bs h in
          below deep k leaf_node g.node.kind_is ∙ leaf_read t (tree_below deep t) k b x bs g
      tree_read (hoist x bs a) zero k c b l r w h = absurd (omega arith)
      tree_read (hoist x bs a) (suc deep) k c b l r w h =
          let g = hoist_placed t table tab k c b x bs a h in
          below deep k hoist_node g.node.kind_is
          ∙ hoist_read t (tree_below deep t) table k c b x bs a g (tree_read a deep (k + 1) c (b + length bs) (omega arith) w.1 w.2 g.below)
      tree_read (switch p cs d) zero k c b l r w h = absurd (omega arith)
      tree_read (switch p cs d) (suc deep) k c b l r w h =
          let g = switch_placed t table tab k c b p cs d h in
          below deep k switch_node g.node.kind_is
          ∙ switch_read t (tree_below deep t) table k c b p cs d g
          (cases_read cs deep (k + 1) (c + how_many cs) b c (omega arith) w.1 g.below g.own)
          (λ s. tree_read d deep (k + 1 + nodes_in_of cs) (c + how_many cs + cases_in_of cs) (b + length (bindings_in_of cs)) (omega arith) s w.2 g.default)
      tree_read (listswitch p cs ts d) zero k c b l r w h = absurd (omega arith)
      tree_read (listswitch p cs ts d) (suc deep) k c b l r w h =
          let g = list_switch_placed t table tab k c b p cs ts d h in
          let c₁ = c + how_many cs + how_many ts in
          let k₂ = k + 1 + nodes_in_of cs in
          let c₂ = c₁ + cases_in_of cs in
          let b₂ = b + length (bindings_in_of cs) in
          below deep k list_switch_node g.node.kind_is
          ∙ list_switch_read t (tree_below deep t) table k c b p cs ts d g
          (cases_read cs deep (k + 1) c₁ b c (omega arith) w.1 g.below g.own)
          (cases_read ts deep k₂ c₂ b₂ (c + how_many cs) (omega arith) w.2 g.below_tailed g.own_tailed)
          (λ s. tree_read d deep (k₂ + nodes_in_of ts) (c₂ + cases_in_of ts) (b₂ + length (bindings_in_of ts)) (omega arith) s w.3 g.default)

      cases_read : (cs : Cases) (deep k c b i : ℕ) → nodes_in_of cs ≤ deep → WritableOf pool cs → PlacedOf t table k c b cs
          → Stands t (tree_cases_at t + case_size * i) (own_cases k cs) → cases_for (tree_below deep t) t i (how_many cs) ≡ cs
      cases_read cnil deep k c b i l w h own = refl
      cases_read (ccons u start a cs) deep k c b i l w h own =
          case_read (tree_below deep t) i (how_many cs) u start k a cs (own_first t i k u start a cs own) w.0
          (tree_read a deep k c b (omega arith) w.1 w.2 (first_placed t table k c b u start a cs h))
          (cases_read cs deep (k + nodes_in a) (c + cases_in a) (b + length (bindings_in a)) (i + 1) (omega arith) w.3 (rest_placed t table k c b u start a cs h)
          (own_rest t (tree_cases_at t) i k u start a cs own))

filed_read : (t pool : List ℕ) (table : List Path) (a : Tree) → Filed t pool table a → Covers table (paths_used a) → present a ≡ true → Writable pool a → tree_of t ≡ a
unfolding tree_of
filed_read t pool table a h v r w =
    tree_read t pool h.pool_stands table (table_read h) a (nodes t) 0 0 0 (omega (arith, h.nodes_are)) r w (root_placed h v)

-- reading the file of a tree gives the tree
pub file_read : (pool : List ℕ) (a : Tree) → present a ≡ true → Writable pool a → tree_of (tree_file pool a) ≡ a
unfolding path_table
file_read pool a r w = filed_read (tree_file pool a) pool (path_table a) a (tree_filed pool a) (table_covers (paths_used a)) r w

-- so a file with its pool says one tree
pub file_same : (pool : List ℕ) (a b : Tree) → present a ≡ true → Writable pool a → present b ≡ true → Writable pool b → tree_file pool a ≡ tree_file pool b → a ≡ b
file_same pool a b r w s v e = sym (file_read pool a r w) ∙ ap tree_of e ∙ file_read pool b s v
