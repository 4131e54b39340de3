-- The nodes of a written tree stand in pre-order, each other node a child exactly once.
-- Rests on the records placed in a file, opened one level at a time.
use Rattle.std.specs.Prelude.{◌≡◌, true, length}
use Rattle.std.proofs.Math.Path.{refl, ap}
use Rattle.std.proofs.Common.{sym, ◌∙◌, true≢false, zero-add}
use mathlib.Core.List.{List, [], ◌∷◌, ◌++◌, append_assoc}
use Prim.Native.Nat.{ℕ, zero, suc, ◌+◌, ◌*◌, ◌≤◌}
use native.Mathlib.Omega.{arith}
use Rattle.std.proofs.Math.Nat.{add-zero}
use borrow.Author.Tests.{eq-eqb}
use Rattle.spec_rules.specs.Limits.{case_size}
use Rattle.spec_rules.specs.Rows.{Path, Binding}
use Rattle.spec_rules.specs.Building.{Tree, Cases, absent, leaf, hoist, switch, listswitch, cnil, ccons}
use Rattle.spec_rules.specs.Hoisting.{how_many, nodes_in, nodes_in_of, bindings_in, bindings_in_of}
use Rattle.spec_rules.specs.TreeFile.{first_of, cases_in, cases_in_of, default_field, own_cases}
use Rattle.spec_rules.specs.TreeReader.{tree_cases_at, node_first_case, node_cases, node_tail_cases, node_default, node_child, case_child, node_kind_of, case_children, default_child, children_of_kind, node_children, in_pre_order}
use Rattle.spec_file.specs.StandingLaws.{Stands}
use Rattle.spec_file.specs.Writable.{present, Writable, WritableOf}
use Rattle.spec_file.specs.RunLaws.{first_of_some}
use Rattle.spec_file.specs.TableLaws.{Tabled}
use Rattle.spec_file.specs.TreeStandsLaws.{own_rest}
use Rattle.spec_file.specs.PlacedLaws.{Placed, PlacedOf, LeafAt, HoistAt, SwitchAt, ListSwitchAt, leaf_placed, hoist_placed, switch_placed, list_switch_placed, own_first, first_placed, rest_placed}

-- the first node of a tree that starts at k, if it has one; the first nodes of the subtrees of cases
unfoldable pub root_number : ℕ → Tree → List ℕ
unfolding default_child default_field
root_number k a = default_child (default_field k a)

unfoldable pub child_numbers : ℕ → Cases → List ℕ
child_numbers k cnil = []
child_numbers k (ccons u start a cs) = k ∷ child_numbers (k + nodes_in a) cs

root_number_lem : (k : ℕ) (a : Tree) → present a ≡ true → root_number k a ≡ k ∷ []
unfolding root_number present
root_number_lem k absent h = absurd (true≢false (sym h))
root_number_lem k (leaf c bs) h = refl
root_number_lem k (hoist c bs a) h = refl
root_number_lem k (switch p cs d) h = refl
root_number_lem k (listswitch p cs ts d) h = refl

module _ (t : List ℕ) where
  -- ---- the children of a node
  children_start : (n i j : ℕ) → (1 ≤ n → i ≡ j) → case_children t i n ≡ case_children t j n
  unfolding case_children
  children_start zero i j h = refl
  children_start (suc n) i j h = ap (λ (z : ℕ). case_children t z (suc n)) (h (omega arith))

  children_append : (i m n : ℕ) → case_children t i (m + n) ≡ case_children t i m ++ case_children t (i + m) n
  unfolding case_children
  children_append i zero n = rw (zero-add, add-zero)
  children_append i (suc m) n =
      let e : suc m + n ≡ suc (m + n) = omega arith in
      let d : i + suc m ≡ i + 1 + m = omega arith in
      rw (e, d) (ap (λ (z : List ℕ). case_child t i ∷ z) (children_append (i + 1) m n))

  own_children : (cs : Cases) (i k : ℕ) → Stands t (tree_cases_at t + case_size * i) (own_cases k cs) → case_children t i (how_many cs) ≡ child_numbers k cs
  unfolding case_children how_many child_numbers
  own_children cnil i k own = refl
  own_children (ccons u start a cs) i k own =
      rw ((own_first t i k u start a cs own).child_is, own_children cs (i + 1) (k + nodes_in a) (own_rest t (tree_cases_at t) i k u start a cs own))

  leaf_children : (k b x : ℕ) (bs : List Binding) → LeafAt t b k x bs → node_children t k ≡ []
  unfolding node_children node_kind_of children_of_kind
  leaf_children k b x bs h = rw h.node.kind_is

  hoist_children : (table : List Path) (k c b x : ℕ) (bs : List Binding) (a : Tree) → HoistAt t table k c b x bs a → node_children t k ≡ (k + 1) ∷ []
  unfolding node_children node_kind_of children_of_kind node_child
  hoist_children table k c b x bs a h = rw (h.node.kind_is, h.node.word_3)

  switch_children : (table : List Path) (k c b : ℕ) (p : Path) (cs : Cases) (d : Tree) → SwitchAt t table k c b p cs d
      → node_children t k ≡ child_numbers (k + 1) cs ++ root_number (k + 1 + nodes_in_of cs) d
  unfolding node_children node_kind_of children_of_kind node_first_case node_cases node_tail_cases node_default root_number
  switch_children table k c b p cs d h =
      let n = h.node in
      let e = children_start (how_many cs) (first_of (how_many cs) c) c (first_of_some (how_many cs) c) in
      rw (n.kind_is, n.word_1, n.word_2, n.word_3, n.word_4, add-zero, e, own_children cs c (k + 1) h.own)

  list_switch_children : (table : List Path) (k c b : ℕ) (p : Path) (cs ts : Cases) (d : Tree) → ListSwitchAt t table k c b p cs ts d
      → node_children t k ≡ child_numbers (k + 1) cs ++ (child_numbers (k + 1 + nodes_in_of cs) ts ++ root_number (k + 1 + nodes_in_of cs + nodes_in_of ts) d)
  unfolding node_children node_kind_of children_of_kind node_first_case node_cases node_tail_cases node_default root_number
  list_switch_children table k c b p cs ts d h =
      let n = h.node in
      let count = how_many cs + how_many ts in
      let e = children_start count (first_of count c) c (first_of_some count c) in
      rw (
        n.kind_is,
        n.word_1,
        n.word_2,
        n.word_3,
        n.word_4,
        e,
        children_append c (how_many cs) (how_many ts),
        own_children cs c (k + 1) h.own,
        own_children ts (c + how_many cs) (k + 1 + nodes_in_of cs) h.own_tailed,
      )
      (append_assoc (child_numbers (k + 1) cs) (child_numbers (k + 1 + nodes_in_of cs) ts) (root_number (k + 1 + nodes_in_of cs + nodes_in_of ts) d))

  -- ---- a subtree is read whole, and then what else is awaited
  order_at : (k k' n n' : ℕ) (xs : List ℕ) → k ≡ k' → n ≡ n' → in_pre_order t k n xs ≡ in_pre_order t k' n' xs
  order_at k k' n n' xs e f = rw (e, f)

  order_step : (k m n : ℕ) (children rest : List ℕ) → node_children t k ≡ children → suc m ≡ n → in_pre_order t k n (k ∷ rest) ≡ in_pre_order t (k + 1) m (children ++ rest)
  unfolding in_pre_order
  order_step k m n children rest e f = rw (← f, eq-eqb k k refl, e)

  module _ (pool : List ℕ) (table : List Path) (tab : Tabled t table) where
    mutual
      unfolding root_number child_numbers Writable nodes_in

      tree_in_order : (a : Tree) (k c b n : ℕ) (rest : List ℕ) → Writable pool a → Placed t table k c b a
          → in_pre_order t k (nodes_in a + n) (root_number k a ++ rest) ≡ in_pre_order t (k + nodes_in a) n rest
      tree_in_order absent k c b n rest w h = order_at k (k + 0) (0 + n) n rest (omega arith) (omega arith)
      tree_in_order (leaf x bs) k c b n rest w h =
          order_step k n (1 + n) [] rest (leaf_children k b x bs (leaf_placed t table tab k c b x bs h)) (omega arith)
      tree_in_order (hoist x bs a) k c b n rest w h =
          let g = hoist_placed t table tab k c b x bs a h in
          let e : root_number (k + 1) a ≡ (k + 1) ∷ [] = root_number_lem (k + 1) a w.1 in
          order_step k (nodes_in a + n) (suc (nodes_in a) + n) (root_number (k + 1) a) rest (hoist_children table k c b x bs a g ∙ sym e) (omega arith)
          ∙ tree_in_order a (k + 1) c (b + length bs) n rest w.2 g.below
          ∙ order_at (k + 1 + nodes_in a) (k + suc (nodes_in a)) n n rest (omega arith) refl
      tree_in_order (switch p cs d) k c b n rest w h =
          let g = switch_placed t table tab k c b p cs d h in
          let k₂ = k + 1 + nodes_in_of cs in
          order_step k (nodes_in_of cs + (nodes_in d + n)) (suc (nodes_in_of cs + nodes_in d) + n) (child_numbers (k + 1) cs ++ root_number k₂ d) rest
          (switch_children table k c b p cs d g)
          (omega arith)
          ∙ ap (λ (z : List ℕ). in_pre_order t (k + 1) (nodes_in_of cs + (nodes_in d + n)) z) (append_assoc (child_numbers (k + 1) cs) (root_number k₂ d) rest)
          ∙ cases_in_order cs (k + 1) (c + how_many cs) b (nodes_in d + n) (root_number k₂ d ++ rest) w.1 g.below
          ∙ tree_in_order d k₂ (c + how_many cs + cases_in_of cs) (b + length (bindings_in_of cs)) n rest w.2 g.default
          ∙ order_at (k₂ + nodes_in d) (k + suc (nodes_in_of cs + nodes_in d)) n n rest (omega arith) refl
      tree_in_order (listswitch p cs ts d) k c b n rest w h =
          let g = list_switch_placed t table tab k c b p cs ts d h in
          let c₁ = c + how_many cs + how_many ts in
          let k₂ = k + 1 + nodes_in_of cs in
          let c₂ = c₁ + cases_in_of cs in
          let b₂ = b + length (bindings_in_of cs) in
          let k₃ = k₂ + nodes_in_of ts in
          let own_cs = child_numbers (k + 1) cs in
          let own_ts = child_numbers k₂ ts in
          let m = nodes_in_of cs + (nodes_in_of ts + (nodes_in d + n)) in
          order_step k m (suc (nodes_in_of cs + (nodes_in_of ts + nodes_in d)) + n) (own_cs ++ (own_ts ++ root_number k₃ d)) rest
          (list_switch_children table k c b p cs ts d g)
          (omega arith)
          ∙ ap (λ (z : List ℕ). in_pre_order t (k + 1) m z)
          (append_assoc own_cs (own_ts ++ root_number k₃ d) rest ∙ ap (λ (z : List ℕ). own_cs ++ z) (append_assoc own_ts (root_number k₃ d) rest))
          ∙ cases_in_order cs (k + 1) c₁ b (nodes_in_of ts + (nodes_in d + n)) (own_ts ++ (root_number k₃ d ++ rest)) w.1 g.below
          ∙ cases_in_order ts k₂ c₂ b₂ (nodes_in d + n) (root_number k₃ d ++ rest) w.2 g.below_tailed
          ∙ tree_in_order d k₃ (c₂ + cases_in_of ts) (b₂ + length (bindings_in_of ts)) n rest w.3 g.default
          ∙ order_at (k₃ + nodes_in d) (k + suc (nodes_in_of cs + (nodes_in_of ts + nodes_in d))) n n rest (omega arith) refl

      cases_in_order : (cs : Cases) (k c b n : ℕ) (rest : List ℕ) → WritableOf pool cs → PlacedOf t table k c b cs
          → in_pre_order t k (nodes_in_of cs + n) (child_numbers k cs ++ rest) ≡ in_pre_order t (k + nodes_in_of cs) n rest
      cases_in_order cnil k c b n rest w h = order_at k (k + 0) (0 + n) n rest (omega arith) (omega arith)
      cases_in_order (ccons u start a cs) k c b n rest w h =
          let k₂ = k + nodes_in a in
          let e : root_number k a ≡ k ∷ [] = root_number_lem k a w.1 in
          order_at k k (nodes_in a + nodes_in_of cs + n) (nodes_in a + (nodes_in_of cs + n)) (k ∷ (child_numbers k₂ cs ++ rest)) refl (omega arith)
          ∙ ap (λ (z : List ℕ). in_pre_order t k (nodes_in a + (nodes_in_of cs + n)) (z ++ (child_numbers k₂ cs ++ rest))) (sym e)
          ∙ tree_in_order a k c b (nodes_in_of cs + n) (child_numbers k₂ cs ++ rest) w.2 (first_placed t table k c b u start a cs h)
          ∙ cases_in_order cs k₂ (c + cases_in a) (b + length (bindings_in a)) n rest w.3 (rest_placed t table k c b u start a cs h)
          ∙ order_at (k₂ + nodes_in_of cs) (k + (nodes_in a + nodes_in_of cs)) n n rest (omega arith) refl

    -- the whole tree: node 0 is awaited, and in the end none is
    pub nodes_in_order : (a : Tree) → present a ≡ true → Writable pool a → Placed t table 0 0 0 a → in_pre_order t 0 (nodes_in a) (0 ∷ []) ≡ true
    unfolding in_pre_order
    nodes_in_order a r w h =
        order_at 0 0 (nodes_in a) (nodes_in a + 0) (0 ∷ []) refl (omega arith)
        ∙ ap (λ (z : List ℕ). in_pre_order t 0 (nodes_in a + 0) (z ++ [])) (sym (root_number_lem 0 a r))
        ∙ tree_in_order a 0 0 0 0 [] w h
