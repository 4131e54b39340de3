-- The root of a panel is a position of it. Where each leaf of the tree has something, so has what the walk reaches: the bindings of a file's
-- leaves are at most 192. That every position that a walk answers is one of the panel is in proofs/Positions.antt.
use Prim.Native.Nat.{ℕ, zero, suc, ◌+◌, ◌≤◌, ◌<◌}
use Rattle.std.proofs.Common.{arith, sym, ap, ◌∙◌}
use Rattle.std.specs.Prelude.{◌≡◌, Bool, length}
use Rattle.std.proofs.Math.Path.{refl}
use Rattle.std.proofs.Math.Bool.{true, false}
use Rattle.std.proofs.lemmas.Bool.{false≢true}
use mathlib.Core.List.{List, [], ◌∷◌}
use Rattle.std.proofs.Math.Option.{Option, none, some}
use Rattle.std.proofs.Math.Dec.{eqb}
use Rattle.spec_rules.specs.Limits.{node_bindings_most}
use Rattle.spec_rules.specs.Kinds.{leaf_node}
use Rattle.spec_rules.specs.Rows.{Binding}
use Rattle.spec_rules.specs.Splitting.{Test, ListOf, ListWithTail, same_test}
use Rattle.spec_rules.specs.Building.{Tree, Cases, absent, leaf, hoist, switch, listswitch, cnil, ccons}
use Rattle.spec_rules.specs.TreeReader.{nodes, cases, node_kind, node_first_case, node_cases, node_tail_cases, node_default, node_first_binding, node_bindings, node_child, case_child, NodeKind, Switch, List_switch, Leaf, Hoist_node, Unknown_node, node_kind_of, bindings_from, cases_for, default_for, node_for, tree_below, tree_of}
use Rattle.spec_rules.specs.Walking.{Position, panel_root, follow, Bound, bound, Walked, reached, no_leaf, stuck, at_leaf, shown_at, length_at, test_kind, first_kind, of_this_kind, at_part, of_length, at_list, largest_tail, at_tail, if_same, walk, walk_cases}
use Rattle.spec_accepted.specs.KindsLaws.{node_byte}
use Rattle.spec_accepted.specs.PanelFacts.{PanelAccepted}
use Rattle.spec_accepted.specs.TreeFacts.{TreeSound, length_bindings_from}
use Rattle.spec_match.specs.Leaves.{AllLeaves, AllLeavesOf}
use Rattle.spec_theorems.specs.Said.{InPanel}

-- ---- following a path
module _ (v : List ℕ) (a : PanelAccepted v) where
  pub root_in_panel : InPanel v panel_root
  root_in_panel = record { there = a.is_laid.some_record; most = omega arith; of_list = λ n. refl }

  -- ---- the positions at a leaf
  pub bounds_same : (xs ys : List Bound) → ◌≡◌ {A = Option (List Bound)} (some xs) (some ys) → xs ≡ ys
  bounds_same xs ys e = cc

-- as many positions as bindings
pub length_bound : (v : List ℕ) (bs : List Binding) (xs : List Bound) → bound v bs ≡ some xs → length xs ≡ length bs
unfolding bound
length_bound v [] xs e = ap length (sym (same [] xs e))
  where
    same : (xs ys : List Bound) → ◌≡◌ {A = Option (List Bound)} (some xs) (some ys) → xs ≡ ys
    same xs ys e = cc
length_bound v (b ∷ bs) xs e = go (follow v b.path panel_root) refl (bound v bs) refl (length_bound v bs)
  where
    same : (xs ys : List Bound) → ◌≡◌ {A = Option (List Bound)} (some xs) (some ys) → xs ≡ ys
    same xs ys e = cc

    nothing : (ys : List Bound) → ◌≡◌ {A = Option (List Bound)} none (some ys) → ⊥
    nothing ys e = let z : false ≡ true = cc in false≢true z

    go : (o : Option Position) → follow v b.path panel_root ≡ o → (r : Option (List Bound)) → bound v bs ≡ r
        → ((ys : List Bound) → bound v bs ≡ some ys → length ys ≡ length bs) → length xs ≡ suc (length bs)
    go none f r g ih = absurd (nothing xs (rw (f, bound) at e))
    go (some x) f none g ih = absurd (nothing xs (rw (f, g, bound) at e))
    go (some x) f (some ys) g ih =
        ap length (sym (same (record { name = b.name; position = x } ∷ ys) xs (rw (f, g, bound) at e))) ∙ ap suc (ih ys g)

-- ---- a walk that reaches a leaf reaches one of the tree's
module _ (P : ℕ → List Binding → Type 0) (v : List ℕ) where
  -- the leaf that a walk ended at
  pub record Leafed (c : ℕ) (xs : List Bound) : Type 0 where
    pub bindings : List Binding
    pub has : P c bindings
    pub read : bound v bindings ≡ some xs

  abbrev FromLeaf : Walked → Type 0
  FromLeaf w = (c : ℕ) (xs : List Bound) → w ≡ reached c xs → Leafed c xs

  leafed : Walked → Bool
  leafed (reached c xs) = true
  leafed no_leaf = false
  leafed stuck = false

  stuck_from : FromLeaf stuck
  unfolding leafed
  stuck_from c xs e = absurd (false≢true (ap leafed e))

  none_from : FromLeaf no_leaf
  unfolding leafed
  none_from c xs e = absurd (false≢true (ap leafed e))

  leaf_from : (d : ℕ) (bs : List Binding) → P d bs → FromLeaf (at_leaf d (bound v bs))
  unfolding at_leaf leafed
  leaf_from d bs h c xs e = go (bound v bs) refl
    where
      clause_same : (x y : ℕ) (xs ys : List Bound) → reached x xs ≡ reached y ys → x ≡ y
      clause_same x y xs ys e = cc

      bounds_same : (x y : ℕ) (xs ys : List Bound) → reached x xs ≡ reached y ys → xs ≡ ys
      bounds_same x y xs ys e = cc

      go : (o : Option (List Bound)) → bound v bs ≡ o → Leafed c xs
      go none f = absurd (false≢true (ap leafed (rw f at e)))
      go (some ys) f =
          let g : reached d ys ≡ reached c xs = rw f at e in
          record { bindings = bs; has = rw (clause_same d c ys xs g) at h; read = f ∙ ap some (bounds_same d c ys xs g) }

  kind_from : (k : ℕ) (o : Option Test) (go : Test → Walked) → ((t : Test) → FromLeaf (go t)) → FromLeaf (of_this_kind k o go)
  unfolding of_this_kind
  kind_from k none go h = stuck_from
  kind_from k (some t) go h = same (eqb (test_kind t) k) refl
    where
      same : (b : Bool) → eqb (test_kind t) k ≡ b → FromLeaf (of_this_kind k (some t) go)
      same true e = rw (e, of_this_kind) (h t)
      same false e = rw (e, of_this_kind) stuck_from

  part_from : (k : ℕ) (o : Option Position) (go : Test → Walked) → ((t : Test) → FromLeaf (go t)) → FromLeaf (at_part v k o go)
  unfolding at_part
  part_from k none go h = stuck_from
  part_from k (some x) go h = kind_from k (shown_at v x) go h

  length_from : (o : Option ℕ) (go : ℕ → Walked) → ((n : ℕ) → FromLeaf (go n)) → FromLeaf (of_length o go)
  unfolding of_length
  length_from none go h = stuck_from
  length_from (some n) go h = h n

  list_from : (o : Option Position) (go : ℕ → Walked) → ((n : ℕ) → FromLeaf (go n)) → FromLeaf (at_list v o go)
  unfolding at_list
  list_from none go h = stuck_from
  list_from (some x) go h = length_from (length_at v x) go h

  tail_from : (k : ℕ) (go : ℕ → Walked) (otherwise : Unit {0} → Walked) → ((n : ℕ) → FromLeaf (go n)) → FromLeaf (otherwise tt) → FromLeaf (at_tail k go otherwise)
  unfolding at_tail
  tail_from zero go otherwise h g = g
  tail_from (suc k) go otherwise h g = h k

  same_from : (b : Bool) (go otherwise : Unit {0} → Walked) → FromLeaf (go tt) → FromLeaf (otherwise tt) → FromLeaf (if_same b go otherwise)
  unfolding if_same
  same_from true go otherwise h g = h
  same_from false go otherwise h g = g

  mutual
    unfolding walk AllLeaves

    -- LEMMA
    pub walk_from : (a : Tree) → AllLeaves P a → FromLeaf (walk a v)
    walk_from absent h = none_from
    walk_from (leaf c bs) h = leaf_from c bs h
    walk_from (hoist c bs a) h = walk_from a h
    walk_from (switch p cs d) h =
        part_from (first_kind cs) (follow v p panel_root) (λ t. walk_cases cs t v (λ u. walk d v)) (λ t. walk_cases_from cs h.0 t (λ u. walk d v) (walk_from d h.1))
    walk_from (listswitch p cs ts d) h =
        list_from (follow v p panel_root)
        (λ n. walk_cases cs (ListOf n) v (λ u. at_tail (largest_tail n ts) (λ k. walk_cases ts (ListWithTail k) v (λ u. walk d v)) (λ u. walk d v)))
        (λ n.
        walk_cases_from cs h.0 (ListOf n) (λ u. at_tail (largest_tail n ts) (λ k. walk_cases ts (ListWithTail k) v (λ u. walk d v)) (λ u. walk d v))
        (tail_from (largest_tail n ts) (λ k. walk_cases ts (ListWithTail k) v (λ u. walk d v)) (λ u. walk d v)
        (λ k. walk_cases_from ts h.1 (ListWithTail k) (λ u. walk d v) (walk_from d h.2)) (walk_from d h.2)))

    walk_cases_from : (cs : Cases) → AllLeavesOf P cs → (t : Test) (otherwise : Unit {0} → Walked) → FromLeaf (otherwise tt) → FromLeaf (walk_cases cs t v otherwise)
    walk_cases_from cnil h t otherwise g = g
    walk_cases_from (ccons u start a cs) h t otherwise g =
        same_from (same_test t u) (λ w. walk a v) (λ w. walk_cases cs t v otherwise) (walk_from a h.0) (walk_cases_from cs h.1 t otherwise g)

-- ---- the leaves of a file that its reader accepts have at most 192 bindings
module _ (t : List ℕ) (sound : TreeSound t) where
  abbrev Few : ℕ → List Binding → Type 0
  Few c bs = length bs ≤ node_bindings_most

  module _ (f : ℕ → Tree) (below : (k : ℕ) → k < nodes t → AllLeaves Few (f k)) where
    cases_few : (i n : ℕ) → i + n ≤ cases t → AllLeavesOf Few (cases_for f t i n)
    unfolding cases_for AllLeaves
    cases_few i zero l = tt
    cases_few i (suc n) l = (below (case_child t i) (sound.is_ruled.case_child_holds i (omega arith)), cases_few (i + 1) n (omega arith))

    default_few : (d : ℕ) → d ≤ nodes t → AllLeaves Few (default_for f d)
    unfolding default_for AllLeaves
    default_few zero l = tt
    default_few (suc k) l = below k l

    bindings_few : (k : ℕ) → k < nodes t → leaf_node ≤ node_kind t k → length (bindings_from t (node_first_binding t k) (node_bindings t k)) ≤ node_bindings_most
    bindings_few k h l = omega (arith, length_bindings_from t (node_first_binding t k) (node_bindings t k), sound.is_ruled.bindings_most_holds k h l)

    node_few : (k : ℕ) → k < nodes t → (kind : NodeKind) → node_kind_of (node_kind t k) ≡ kind → AllLeaves Few (node_for f t k kind)
    unfolding node_for AllLeaves
    node_few k h Switch e =
        let z = node_byte (node_kind t k) Switch e (omega arith) in
        let run = sound.is_ruled.switch_run k h (omega arith) in
        (cases_few (node_first_case t k) (node_cases t k) (omega (arith, run.inside)), default_few (node_default t k) (sound.is_ruled.switch_default k h (omega arith)))
    node_few k h List_switch e =
        let z = node_byte (node_kind t k) List_switch e (omega arith) in
        let run = sound.is_ruled.switch_run k h (omega arith) in (
          cases_few (node_first_case t k) (node_cases t k) (omega (arith, run.inside)),
          cases_few (node_first_case t k + node_cases t k) (node_tail_cases t k) (omega (arith, run.inside)),
          default_few (node_default t k) (sound.is_ruled.switch_default k h (omega arith)),
        )
    node_few k h Leaf e = let z = node_byte (node_kind t k) Leaf e (omega arith) in bindings_few k h (omega arith)
    node_few k h Hoist_node e = let z = node_byte (node_kind t k) Hoist_node e (omega arith) in below (node_child t k) (sound.is_ruled.hoist_child k h z)
    node_few k h Unknown_node e = tt

  below_few : (deep k : ℕ) → k < nodes t → AllLeaves Few (tree_below deep t k)
  unfolding tree_below AllLeaves
  below_few zero k h = tt
  below_few (suc deep) k h = node_few (tree_below deep t) (below_few deep) k h (node_kind_of (node_kind t k)) refl

  -- LEMMA
  pub leaves_few : AllLeaves Few (tree_of t)
  unfolding tree_of
  leaves_few = below_few (nodes t) 0 sound.some_node
