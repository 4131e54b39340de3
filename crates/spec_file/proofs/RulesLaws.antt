-- The nodes and the cases of a written tree keep the rules that the reader asks of each record.
-- Rests on the records placed in a file, opened one level at a time.
use Rattle.std.specs.Prelude.{◌≡◌, List, ◌++◌, ℕ, suc, ◌+◌, ◌*◌, ◌≤◌, ◌<◌, length, leb}
use Rattle.std.proofs.Math.Path.{refl}
use Rattle.std.proofs.Common.{sym, ◌∙◌, true≢false, length-append}
use Rattle.std.proofs.Math.Bool.{true}
use native.Mathlib.Omega.{arith}
use borrow.Author.Tests.{le-leb, lt-ltb, eq-eqb}
use Rattle.base_words.specs.WordsLaws.{both_make}
use Rattle.spec_rules.specs.Limits.{node_bindings_most, case_size}
use Rattle.spec_rules.specs.Kinds.{switch_node, list_switch_node, leaf_node, hoist_node, path_word, first_case_word, cases_word, tail_cases_word, default_word, first_binding_word, bindings_word, bytes_case, list_case, list_with_tail_case}
use Rattle.spec_rules.specs.Searching.{every}
use Rattle.spec_rules.specs.SheetFile.{run_in}
use Rattle.spec_rules.specs.Rows.{Path, Binding}
use Rattle.spec_rules.specs.Splitting.{Test, Constr, Int, Bytes, ListOf, ListWithTail}
use Rattle.spec_rules.specs.Building.{Tree, Cases, absent, leaf, hoist, switch, listswitch, cnil, ccons}
use Rattle.spec_rules.specs.Hoisting.{how_many, nodes_in, nodes_in_of, bindings_in, bindings_in_of}
use Rattle.spec_rules.specs.TreeFile.{path_number, first_of, cases_in, cases_in_of, default_field, own_cases}
use Rattle.spec_rules.specs.TreeReader.{tree_cases_at, nodes, cases, bindings, paths, tree_pool_size, node_word, node_path, node_first_case, node_cases, node_tail_cases, node_default, node_first_binding, node_bindings, node_child, case_kind, case_number, case_length, is_kind, switch_parts, switch_cases, list_switch_cases, binding_parts, node_kind_of, node_of_kind, node_keeps_rules, case_kind_of, case_of_kind, case_keeps_rules}
use Rattle.spec_file.specs.StandingLaws.{Stands}
use Rattle.spec_file.specs.Writable.{present, test_kind, InPool, TextStarts, AllOfKind, SwitchCases, ListCases, Writable, WritableOf}
use Rattle.spec_file.specs.RecordsLaws.{NodeIs, CaseIs, test_number, test_length}
use Rattle.spec_file.specs.RunLaws.{every_append, first_of_some, run_make, run_in_lem}
use Rattle.spec_file.specs.TableLaws.{Tabled}
use Rattle.spec_file.specs.TreeStandsLaws.{own_rest}
use Rattle.spec_file.specs.PlacedLaws.{Placed, PlacedOf, LeafAt, HoistAt, SwitchAt, ListSwitchAt, leaf_placed, hoist_placed, switch_placed, list_switch_placed, own_first, first_placed, rest_placed}

pub present_nodes : (a : Tree) → present a ≡ true → 1 ≤ nodes_in a
unfolding present nodes_in
present_nodes absent h = absurd (true≢false (sym h))
present_nodes (leaf c bs) h = omega arith
present_nodes (hoist c bs a) h = omega arith
present_nodes (switch p cs d) h = omega arith
present_nodes (listswitch p cs ts d) h = omega arith

pub default_inside : (k : ℕ) (d : Tree) → default_field k d ≤ k + nodes_in d
unfolding default_field nodes_in
default_inside k absent = omega arith
default_inside k (leaf c bs) = omega arith
default_inside k (hoist c bs a) = omega arith
default_inside k (switch p cs d) = omega arith
default_inside k (listswitch p cs ts d) = omega arith

module _ (t : List ℕ) where
  -- ---- cases
  text_inside : (i start : ℕ) (pool w : List ℕ) → tree_pool_size t ≡ length pool → case_number t i ≡ start → case_length t i ≡ length w → InPool pool start w
      → run_in (case_number t i) (case_length t i) (tree_pool_size t) ≡ true
  text_inside i start pool w s e f h = rw (e, f, s) (run_make (length w) start (length pool) h.inside h.empty_first)

  case_of_kind_lem : (i : ℕ) (pool : List ℕ) (u : Test) (start child : ℕ) → tree_pool_size t ≡ length pool → CaseIs t i u start child → TextStarts pool start u
      → case_of_kind t i (case_kind_of (test_kind u)) ≡ true
  unfolding case_of_kind case_kind_of test_kind test_number test_length TextStarts
  case_of_kind_lem i pool (Constr a) start child s h w = eq-eqb (case_length t i) 0 h.length_is
  case_of_kind_lem i pool (Int v) start child s h w = text_inside i start pool v s h.number_is h.length_is w
  case_of_kind_lem i pool (Bytes v) start child s h w = text_inside i start pool v s h.number_is h.length_is w
  case_of_kind_lem i pool (ListOf n) start child s h w = eq-eqb (case_length t i) 0 h.length_is
  case_of_kind_lem i pool (ListWithTail n) start child s h w = eq-eqb (case_length t i) 0 h.length_is

  case_keeps_rules_lem : (i : ℕ) (pool : List ℕ) (u : Test) (start child : ℕ) → tree_pool_size t ≡ length pool → CaseIs t i u start child → TextStarts pool start u
      → child < nodes t → case_keeps_rules t i ≡ true
  unfolding case_keeps_rules
  case_keeps_rules_lem i pool u start child s h w l =
      rw (h.zero_is, h.kind_is, h.child_is, case_of_kind_lem i pool u start child s h w) (lt-ltb child (nodes t) l)

  own_keep_rules : (pool : List ℕ) (cs : Cases) (i k : ℕ) → tree_pool_size t ≡ length pool → WritableOf pool cs → Stands t (tree_cases_at t + case_size * i) (own_cases k cs)
      → k + nodes_in_of cs ≤ nodes t → every (case_keeps_rules t) i (how_many cs) ≡ true
  unfolding every how_many WritableOf nodes_in_of
  own_keep_rules pool cnil i k s w own l = refl
  own_keep_rules pool (ccons u start a cs) i k s w own l =
      let m = present_nodes a w.1 in
      both_make (case_keeps_rules t i) (every (case_keeps_rules t) (i + 1) (how_many cs))
      (case_keeps_rules_lem i pool u start k s (own_first t i k u start a cs own) w.0 (omega arith))
      (own_keep_rules pool cs (i + 1) (k + nodes_in a) s w.3 (own_rest t (tree_cases_at t) i k u start a cs own) (omega arith))

  -- the kinds of a switch's cases
  own_kinds : (kind : ℕ) (cs : Cases) (i k : ℕ) → AllOfKind kind cs → Stands t (tree_cases_at t + case_size * i) (own_cases k cs) → every (is_kind t kind) i (how_many cs) ≡ true
  unfolding every how_many AllOfKind is_kind
  own_kinds kind cnil i k w own = refl
  own_kinds kind (ccons u start a cs) i k w own =
      both_make (is_kind t kind i) (every (is_kind t kind) (i + 1) (how_many cs))
      (eq-eqb (case_kind t i) kind ((own_first t i k u start a cs own).kind_is ∙ w.0))
      (own_kinds kind cs (i + 1) (k + nodes_in a) w.1 (own_rest t (tree_cases_at t) i k u start a cs own))

  -- ---- nodes
  node_keeps_rules_lem : (k kind a b c d e : ℕ) → NodeIs t k kind a b c d e → node_of_kind t k (node_kind_of kind) ≡ true → node_keeps_rules t k ≡ true
  unfolding node_keeps_rules
  node_keeps_rules_lem k kind a b c d e h g = rw (h.zero_is, h.kind_is) g

  bound_inside : (k b : ℕ) (bs : List Binding) → node_word t k first_binding_word ≡ first_of (length bs) b → node_word t k bindings_word ≡ length bs → length bs ≤ node_bindings_most
      → b + length bs ≤ bindings t → binding_parts t k ≡ true
  unfolding binding_parts node_first_binding node_bindings
  bound_inside k b bs e f l m =
      rw (e, f)
      (both_make (leb (length bs) node_bindings_most) (run_in (first_of (length bs) b) (length bs) (bindings t)) (le-leb (length bs) node_bindings_most l)
      (run_in_lem (length bs) b (bindings t) m))

  leaf_keeps_rules : (k b x : ℕ) (bs : List Binding) → LeafAt t b k x bs → length bs ≤ node_bindings_most → b + length bs ≤ bindings t → node_keeps_rules t k ≡ true
  unfolding node_kind_of node_of_kind
  leaf_keeps_rules k b x bs h l m =
      let n = h.node in
      node_keeps_rules_lem k leaf_node x (first_of (length bs) b) (length bs) 0 0 n
      (rw (bound_inside k b bs n.word_1 n.word_2 l m, n.word_3, n.word_4))

  hoist_keeps_rules : (table : List Path) (k c b x : ℕ) (bs : List Binding) (a : Tree) → HoistAt t table k c b x bs a → length bs ≤ node_bindings_most
      → b + length bs ≤ bindings t → k + 1 < nodes t → node_keeps_rules t k ≡ true
  unfolding node_kind_of node_of_kind node_child
  hoist_keeps_rules table k c b x bs a h l m i =
      let n = h.node in
      node_keeps_rules_lem k hoist_node x (first_of (length bs) b) (length bs) (k + 1) 0 n
      (rw (bound_inside k b bs n.word_1 n.word_2 l m, n.word_3, n.word_4, lt-ltb (k + 1) (nodes t) i))

  -- path, run of cases and default of either switch
  parts_inside : (k q first n m e : ℕ) → node_word t k path_word ≡ q → node_word t k first_case_word ≡ first_of (n + m) first → node_word t k cases_word ≡ n → node_word t k tail_cases_word ≡ m
      → node_word t k default_word ≡ e → q < paths t → first + (n + m) ≤ cases t → e ≤ nodes t → switch_parts t k ≡ true
  unfolding switch_parts node_path node_first_case node_cases node_tail_cases node_default
  parts_inside k q first n m e w₀ w₁ w₂ w₃ w₄ a b c =
      rw (w₀, w₁, w₂, w₃, w₄, lt-ltb q (paths t) a, run_in_lem (n + m) first (cases t) b) (le-leb e (nodes t) c)

  some_case : (cs : Cases) → SwitchCases cs → 1 ≤ how_many cs
  unfolding SwitchCases how_many
  some_case cnil h = absurd h
  some_case (ccons u start a cs) h = omega arith

  -- the kinds of the cases of a switch, as its first case has it
  alike : (cs : Cases) (c k : ℕ) → SwitchCases cs → Stands t (tree_cases_at t + case_size * c) (own_cases k cs)
      → (leb (case_kind t c) bytes_case ≡ true) × (every (is_kind t (case_kind t c)) c (how_many cs) ≡ true)
  unfolding SwitchCases AllOfKind
  alike cnil c k w own = absurd w
  alike (ccons u start a cs) c k w own =
      let e = (own_first t c k u start a cs own).kind_is in
      rw e (le-leb (test_kind u) bytes_case w.0, own_kinds (test_kind u) (ccons u start a cs) c k (refl, w.1) own)

  switch_keeps_rules : (table : List Path) (k c b : ℕ) (p : Path) (cs : Cases) (d : Tree) → SwitchAt t table k c b p cs d → SwitchCases cs
      → c + how_many cs ≤ cases t → k + 1 + nodes_in_of cs + nodes_in d ≤ nodes t → node_keeps_rules t k ≡ true
  unfolding node_kind_of node_of_kind switch_cases node_first_case node_cases node_tail_cases
  switch_keeps_rules table k c b p cs d h w l m =
      let n = h.node in
      let k₂ = k + 1 + nodes_in_of cs in
      let same : how_many cs + 0 ≡ how_many cs = omega arith in
      let first : first_of (how_many cs) c ≡ c = first_of_some (how_many cs) c (some_case cs w) in
      let word_1 : node_word t k 1 ≡ c = n.word_1 ∙ first in
      let kinds = alike cs c (k + 1) w h.own in
      let parts : switch_parts t k ≡ true =
      parts_inside k (path_number table p) c (how_many cs) 0 (default_field k₂ d) n.word_0 (rw same n.word_1) n.word_2 n.word_3 n.word_4
      h.path.inside (omega arith) (omega (arith, default_inside k₂ d)) in
      node_keeps_rules_lem k switch_node (path_number table p) (first_of (how_many cs) c) (how_many cs) 0 (default_field k₂ d) n
      (rw (parts, n.word_2, n.word_3, word_1, le-leb 1 (how_many cs) (some_case cs w), kinds.0, kinds.1))

  list_switch_keeps_rules : (table : List Path) (k c b : ℕ) (p : Path) (cs ts : Cases) (d : Tree) → ListSwitchAt t table k c b p cs ts d → ListCases cs ts
      → c + how_many cs + how_many ts ≤ cases t → k + 1 + nodes_in_of cs + nodes_in_of ts + nodes_in d ≤ nodes t → node_keeps_rules t k ≡ true
  unfolding node_kind_of node_of_kind list_switch_cases node_first_case node_cases node_tail_cases
  list_switch_keeps_rules table k c b p cs ts d h w l m =
      let n = h.node in
      let count = how_many cs + how_many ts in
      let k₃ = k + 1 + nodes_in_of cs + nodes_in_of ts in
      let first : first_of count c ≡ c = first_of_some count c w.some_case in
      let word_1 : node_word t k 1 ≡ c = n.word_1 ∙ first in
      let parts : switch_parts t k ≡ true =
      parts_inside k (path_number table p) c (how_many cs) (how_many ts) (default_field k₃ d) n.word_0 n.word_1 n.word_2 n.word_3 n.word_4
      h.path.inside (omega arith) (omega (arith, default_inside k₃ d)) in
      node_keeps_rules_lem k list_switch_node (path_number table p) (first_of count c) (how_many cs) (how_many ts) (default_field k₃ d) n
      (rw (
        parts,
        n.word_2,
        n.word_3,
        word_1,
        le-leb 1 count w.some_case,
        own_kinds list_case cs c (k + 1) w.exact h.own,
        own_kinds list_with_tail_case ts (c + how_many cs) (k + 1 + nodes_in_of cs) w.tailed h.own_tailed,
      ))

-- the n nodes from k on and the m cases from c on keep the rules
pub record Keeps (t : List ℕ) (k c n m : ℕ) : Type 0 where
  pub nodes_keep : every (node_keeps_rules t) k n ≡ true
  pub cases_keep : every (case_keeps_rules t) c m ≡ true

keeps_append : (t : List ℕ) (k c n m n' m' : ℕ) → Keeps t k c n m → Keeps t (k + n) (c + m) n' m' → Keeps t k c (n + n') (m + m')
keeps_append t k c n m n' m' x y =
    record {
      nodes_keep = every_append (node_keeps_rules t) k n n' x.nodes_keep y.nodes_keep;
      cases_keep = every_append (case_keeps_rules t) c m m' x.cases_keep y.cases_keep;
    }

-- a node, its own cases, and what is below it
keeps_node : (t : List ℕ) (k c own n m : ℕ) → node_keeps_rules t k ≡ true → every (case_keeps_rules t) c own ≡ true → Keeps t (k + 1) (c + own) n m
    → Keeps t k c (suc n) (own + m)
unfolding every
keeps_node t k c own n m e f x =
    record {
      nodes_keep = both_make (node_keeps_rules t k) (every (node_keeps_rules t) (k + 1) n) e x.nodes_keep;
      cases_keep = every_append (case_keeps_rules t) c own m f x.cases_keep;
    }

module _ (t pool : List ℕ) (size : tree_pool_size t ≡ length pool) (table : List Path) (tab : Tabled t table) where
  mutual
    unfolding every Writable nodes_in cases_in bindings_in

    pub tree_keeps_rules : (a : Tree) (k c b : ℕ) → Writable pool a → Placed t table k c b a → k + nodes_in a ≤ nodes t → c + cases_in a ≤ cases t
        → b + length (bindings_in a) ≤ bindings t → Keeps t k c (nodes_in a) (cases_in a)
    tree_keeps_rules absent k c b w h l m n = record { nodes_keep = refl; cases_keep = refl }
    tree_keeps_rules (leaf x bs) k c b w h l m n =
        record {
          nodes_keep = both_make (node_keeps_rules t k) true (leaf_keeps_rules t k b x bs (leaf_placed t table tab k c b x bs h) w n) refl;
          cases_keep = refl;
        }
    tree_keeps_rules (hoist x bs a) k c b w h l m n =
        let g = hoist_placed t table tab k c b x bs a h in
        let s = length-append bs (bindings_in a) in
        let r = tree_keeps_rules a (k + 1) c (b + length bs) w.2 g.below (omega arith) (omega arith) (omega arith) in
        record {
          nodes_keep =
              both_make (node_keeps_rules t k) (every (node_keeps_rules t) (k + 1) (nodes_in a))
              (hoist_keeps_rules t table k c b x bs a g w.0 (omega arith) (omega (arith, present_nodes a w.1)))
              r.nodes_keep;
          cases_keep = r.cases_keep;
        }
    tree_keeps_rules (switch p cs d) k c b w h l m n =
        let g = switch_placed t table tab k c b p cs d h in
        let s = length-append (bindings_in_of cs) (bindings_in d) in
        let c₁ = c + how_many cs in
        let k₂ = k + 1 + nodes_in_of cs in
        let c₂ = c₁ + cases_in_of cs in
        let b₂ = b + length (bindings_in_of cs) in
        keeps_node t k c (how_many cs) (nodes_in_of cs + nodes_in d) (cases_in_of cs + cases_in d)
        (switch_keeps_rules t table k c b p cs d g w.0 (omega arith) (omega arith))
        (own_keep_rules t pool cs c (k + 1) size w.1 g.own (omega arith))
        (keeps_append t (k + 1) c₁ (nodes_in_of cs) (cases_in_of cs) (nodes_in d) (cases_in d)
        (cases_keep_rules cs (k + 1) c₁ b w.1 g.below (omega arith) (omega arith) (omega arith))
        (tree_keeps_rules d k₂ c₂ b₂ w.2 g.default (omega arith) (omega arith) (omega arith)))
    tree_keeps_rules (listswitch p cs ts d) k c b w h l m n =
        let g = list_switch_placed t table tab k c b p cs ts d h in
        let s = length-append (bindings_in_of cs) (bindings_in_of ts ++ bindings_in d) in
        let s' = length-append (bindings_in_of ts) (bindings_in d) in
        let c₁ = c + how_many cs + how_many ts in
        let k₂ = k + 1 + nodes_in_of cs in
        let c₂ = c₁ + cases_in_of cs in
        let b₂ = b + length (bindings_in_of cs) in
        let k₃ = k₂ + nodes_in_of ts in
        let c₃ = c₂ + cases_in_of ts in
        let b₃ = b₂ + length (bindings_in_of ts) in
        let n₃ = nodes_in_of ts + nodes_in d in
        let m₃ = cases_in_of ts + cases_in d in
        let below : Keeps t (k + 1) c₁ (nodes_in_of cs + n₃) (cases_in_of cs + m₃) =
        keeps_append t (k + 1) c₁ (nodes_in_of cs) (cases_in_of cs) n₃ m₃
        (cases_keep_rules cs (k + 1) c₁ b w.1 g.below (omega arith) (omega arith) (omega arith))
        (keeps_append t k₂ c₂ (nodes_in_of ts) (cases_in_of ts) (nodes_in d) (cases_in d)
        (cases_keep_rules ts k₂ c₂ b₂ w.2 g.below_tailed (omega arith) (omega arith) (omega arith))
        (tree_keeps_rules d k₃ c₃ b₃ w.3 g.default (omega arith) (omega arith) (omega arith))) in
        record {
          nodes_keep =
              both_make (node_keeps_rules t k) (every (node_keeps_rules t) (k + 1) (nodes_in_of cs + n₃))
              (list_switch_keeps_rules t table k c b p cs ts d g w.0 (omega arith) (omega arith))
              below.nodes_keep;
          cases_keep =
              every_append (case_keeps_rules t) c (how_many cs) (how_many ts + (cases_in_of cs + m₃))
              (own_keep_rules t pool cs c (k + 1) size w.1 g.own (omega arith))
              (every_append (case_keeps_rules t) (c + how_many cs) (how_many ts) (cases_in_of cs + m₃)
              (own_keep_rules t pool ts (c + how_many cs) k₂ size w.2 g.own_tailed (omega arith))
              below.cases_keep);
        }

    pub cases_keep_rules : (cs : Cases) (k c b : ℕ) → WritableOf pool cs → PlacedOf t table k c b cs → k + nodes_in_of cs ≤ nodes t → c + cases_in_of cs ≤ cases t
        → b + length (bindings_in_of cs) ≤ bindings t → Keeps t k c (nodes_in_of cs) (cases_in_of cs)
    cases_keep_rules cnil k c b w h l m n = record { nodes_keep = refl; cases_keep = refl }
    cases_keep_rules (ccons u start a cs) k c b w h l m n =
        let s = length-append (bindings_in a) (bindings_in_of cs) in
        keeps_append t k c (nodes_in a) (cases_in a) (nodes_in_of cs) (cases_in_of cs)
        (tree_keeps_rules a k c b w.2 (first_placed t table k c b u start a cs h) (omega arith) (omega arith) (omega arith))
        (cases_keep_rules cs (k + nodes_in a) (c + cases_in a) (b + length (bindings_in a)) w.3 (rest_placed t table k c b u start a cs h) (omega arith) (omega arith)
        (omega arith))
