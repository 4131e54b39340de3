-- What a node that was read says of its file: its kind and fields, its children in order, and that these are nodes of the file.
-- Rests on Reading and on the facts of a file whose records keep the rules.
use Rattle.std.proofs.Math.Path.{◌≡◌, refl, ap}
use Rattle.std.proofs.Common.{sym, ◌∙◌, inl, inr, ⊎_elim, arith}
use Rattle.std.specs.Prelude.{◌⊎◌, List, [], ◌∷◌, ◌++◌}
use Prim.Native.Nat.{ℕ, zero, suc, ◌+◌, ◌-◌, ◌≤◌, ◌<◌}
use Rattle.spec_rules.specs.Kinds.{switch_node, list_switch_node, leaf_node, hoist_node, first_case_word, bytes_case, list_case, list_with_tail_case}
use Rattle.spec_rules.specs.TreeReader.{nodes, cases, paths, node_kind, node_word, case_kind, node_path, node_first_case, node_cases, node_tail_cases, node_default, node_clause, node_first_binding, node_bindings, node_child, NodeKind, Switch, List_switch, Leaf, Hoist_node, Unknown_node, node_kind_of, case_children, default_child, children_of_kind, node_children}
use Rattle.spec_accepted.specs.KindsLaws.{node_byte, unknown_node}
use Rattle.spec_accepted.specs.TreeFacts.{TreeRuled, switch_children, hoist_children}
use Rattle.format_tree.specs.declared.reading.Node.{Node}
use Rattle.format_records.specs.declared.reading.Test.{Test}
use Rattle.format_tree.specs.Reading.{node_of_fields, node_of, test_of}
use Rattle.format_tree.specs.PreOrder.{AllBelow}

-- ---- what was read
pub record SwitchNode (t : List ℕ) (k path first cases default : ℕ) (test : Test) : Type 0 where
  pub kind : node_kind t k ≡ switch_node
  pub path_is : path ≡ node_path t k
  pub first_is : first ≡ node_first_case t k
  pub cases_is : cases ≡ node_cases t k
  pub default_is : default ≡ node_default t k
  pub test_is : test ≡ test_of t first

pub record ListSwitchNode (t : List ℕ) (k path first cases tails default : ℕ) : Type 0 where
  pub kind : node_kind t k ≡ list_switch_node
  pub path_is : path ≡ node_path t k
  pub first_is : first ≡ node_first_case t k
  pub cases_is : cases ≡ node_cases t k
  pub tails_is : tails ≡ node_tail_cases t k
  pub default_is : default ≡ node_default t k

pub record LeafNode (t : List ℕ) (k clause first count : ℕ) : Type 0 where
  pub kind : node_kind t k ≡ leaf_node
  pub clause_is : clause ≡ node_clause t k
  pub first_is : first ≡ node_first_binding t k
  pub count_is : count ≡ node_bindings t k

pub record HoistNode (t : List ℕ) (k child : ℕ) : Type 0 where
  pub kind : node_kind t k ≡ hoist_node
  pub child_is : child ≡ node_child t k

module _ (t : List ℕ) (k : ℕ) where
  of_kind : (kind : NodeKind) (x : Node) → node_kind_of (node_kind t k) ≡ kind → node_of t k ≡ x → node_of_fields t k kind ≡ x
  unfolding node_of
  of_kind kind x q e = ap (node_of_fields t k) (sym q) ∙ e

  pub switch_node_lem : (p f n d : ℕ) (x : Test) → node_of t k ≡ Node.Switch p f n d x → SwitchNode t k p f n d x
  unfolding node_of_fields
  switch_node_lem p f n d x e = go (node_kind_of (node_kind t k)) refl
    where
      go : (kind : NodeKind) → node_kind_of (node_kind t k) ≡ kind → SwitchNode t k p f n d x
      go Switch q =
          let y = of_kind Switch (Node.Switch p f n d x) q e in
          record { kind = node_byte (node_kind t k) Switch q (omega arith); path_is = cc; first_is = cc; cases_is = cc; default_is = cc; test_is = cc }
      go List_switch q = let y = of_kind List_switch (Node.Switch p f n d x) q e in let z : ◌≡◌ {A = ℕ} 0 1 = cc in absurd (omega arith)
      go Leaf q = let y = of_kind Leaf (Node.Switch p f n d x) q e in let z : ◌≡◌ {A = ℕ} 0 1 = cc in absurd (omega arith)
      go Hoist_node q = let y = of_kind Hoist_node (Node.Switch p f n d x) q e in let z : ◌≡◌ {A = ℕ} 0 1 = cc in absurd (omega arith)
      go Unknown_node q = let y = of_kind Unknown_node (Node.Switch p f n d x) q e in let z : ◌≡◌ {A = ℕ} 0 1 = cc in absurd (omega arith)

  pub list_switch_node_lem : (p f n u d : ℕ) → node_of t k ≡ Node.ListSwitch p f n u d → ListSwitchNode t k p f n u d
  unfolding node_of_fields
  list_switch_node_lem p f n u d e = go (node_kind_of (node_kind t k)) refl
    where
      go : (kind : NodeKind) → node_kind_of (node_kind t k) ≡ kind → ListSwitchNode t k p f n u d
      go Switch q = let x = of_kind Switch (Node.ListSwitch p f n u d) q e in let z : ◌≡◌ {A = ℕ} 0 1 = cc in absurd (omega arith)
      go List_switch q =
          let x = of_kind List_switch (Node.ListSwitch p f n u d) q e in
          record { kind = node_byte (node_kind t k) List_switch q (omega arith); path_is = cc; first_is = cc; cases_is = cc; tails_is = cc; default_is = cc }
      go Leaf q = let x = of_kind Leaf (Node.ListSwitch p f n u d) q e in let z : ◌≡◌ {A = ℕ} 0 1 = cc in absurd (omega arith)
      go Hoist_node q = let x = of_kind Hoist_node (Node.ListSwitch p f n u d) q e in let z : ◌≡◌ {A = ℕ} 0 1 = cc in absurd (omega arith)
      go Unknown_node q = let x = of_kind Unknown_node (Node.ListSwitch p f n u d) q e in let z : ◌≡◌ {A = ℕ} 0 1 = cc in absurd (omega arith)

  pub leaf_node_lem : (a f n : ℕ) → node_of t k ≡ Node.Leaf a f n → LeafNode t k a f n
  unfolding node_of_fields
  leaf_node_lem a f n e = go (node_kind_of (node_kind t k)) refl
    where
      go : (kind : NodeKind) → node_kind_of (node_kind t k) ≡ kind → LeafNode t k a f n
      go Switch q = let x = of_kind Switch (Node.Leaf a f n) q e in let z : ◌≡◌ {A = ℕ} 0 1 = cc in absurd (omega arith)
      go List_switch q = let x = of_kind List_switch (Node.Leaf a f n) q e in let z : ◌≡◌ {A = ℕ} 0 1 = cc in absurd (omega arith)
      go Leaf q =
          let x = of_kind Leaf (Node.Leaf a f n) q e in
          record { kind = node_byte (node_kind t k) Leaf q (omega arith); clause_is = cc; first_is = cc; count_is = cc }
      go Hoist_node q = let x = of_kind Hoist_node (Node.Leaf a f n) q e in let z : ◌≡◌ {A = ℕ} 0 1 = cc in absurd (omega arith)
      go Unknown_node q = let x = of_kind Unknown_node (Node.Leaf a f n) q e in let z : ◌≡◌ {A = ℕ} 0 1 = cc in absurd (omega arith)

  pub hoist_node_lem : (a f n c : ℕ) → node_kind t k ≤ hoist_node → node_of t k ≡ Node.Hoist a f n c → HoistNode t k c
  unfolding node_of_fields
  hoist_node_lem a f n c h e = go (node_kind_of (node_kind t k)) refl
    where
      go : (kind : NodeKind) → node_kind_of (node_kind t k) ≡ kind → HoistNode t k c
      go Switch q = let x = of_kind Switch (Node.Hoist a f n c) q e in let z : ◌≡◌ {A = ℕ} 0 1 = cc in absurd (omega arith)
      go List_switch q = let x = of_kind List_switch (Node.Hoist a f n c) q e in let z : ◌≡◌ {A = ℕ} 0 1 = cc in absurd (omega arith)
      go Leaf q = let x = of_kind Leaf (Node.Hoist a f n c) q e in let z : ◌≡◌ {A = ℕ} 0 1 = cc in absurd (omega arith)
      go Hoist_node q = let x = of_kind Hoist_node (Node.Hoist a f n c) q e in record { kind = node_byte (node_kind t k) Hoist_node q (omega arith); child_is = cc }
      go Unknown_node q = absurd (omega (arith, unknown_node (node_kind t k) q))

-- ---- the parts of a node of a file whose records keep the rules
module _ {t : List ℕ} (rules : TreeRuled t) (k : ℕ) (h : k < nodes t) where
  pub switch_node_run : (p f n d : ℕ) (x : Test) → SwitchNode t k p f n d x → (1 ≤ n) × (f + n ≤ cases t)
  switch_node_run p f n d x w =
      let kind = w.kind in
      let run = rules.switch_run k h (omega arith) in
      (omega (arith, rules.switch_some k h kind), omega (arith, run.inside))

  pub switch_node_kind : (p f n d : ℕ) (x : Test) → SwitchNode t k p f n d x → case_kind t f ≤ bytes_case
  switch_node_kind p f n d x w = rw w.first_is (rules.switch_kinds k h w.kind)

  pub switch_node_alike : (p f n d : ℕ) (x : Test) → SwitchNode t k p f n d x → (j : ℕ) → f ≤ j → j < f + n → case_kind t j ≡ case_kind t f
  switch_node_alike p f n d x w j low high =
      let f_is = w.first_is in
      let n_is = w.cases_is in
      rules.switch_alike k j h w.kind (omega arith) (omega arith) ∙ ap (case_kind t) (sym f_is)

  pub switch_first_case : (f : ℕ) → node_kind t k ≡ switch_node → f ≡ node_word t k first_case_word → (f < cases t) × (case_kind t f ≤ list_with_tail_case)
  unfolding node_first_case
  switch_first_case f e x =
      let kind = rules.switch_kinds k h e in
      let run = rules.switch_run k h (omega arith) in
      (omega (arith, rules.switch_some k h e, run.inside), rw x (omega arith))

  pub switch_node_path : (p f n d : ℕ) (x : Test) → SwitchNode t k p f n d x → p < paths t
  switch_node_path p f n d x w =
      let kind = w.kind in
      let p_is = w.path_is in
      omega (arith, rules.switch_path k h (omega arith))

  pub switch_node_children : (p f n d : ℕ) (x : Test) → SwitchNode t k p f n d x → node_children t k ≡ case_children t f n ++ default_child d
  switch_node_children p f n d x w =
      let kind = w.kind in
      let n_is = w.cases_is in
      let f_is = w.first_is in
      let d_is = w.default_is in
      let m : node_cases t k + node_tail_cases t k ≡ n = omega (arith, rules.switch_no_tails k h kind) in
      switch_children t k (omega arith) ∙ rw (m, ← f_is, ← d_is)

  pub list_switch_node_run : (p f n u d : ℕ) → ListSwitchNode t k p f n u d → (1 ≤ n + u) × (f + (n + u) ≤ cases t)
  list_switch_node_run p f n u d w =
      let kind = w.kind in
      let run = rules.switch_run k h (omega arith) in
      (omega (arith, rules.list_switch_some k h kind), omega (arith, run.inside))

  pub list_switch_node_cases : (p f n u d : ℕ) → ListSwitchNode t k p f n u d → (j : ℕ) → f ≤ j → j < f + n → case_kind t j ≡ list_case
  list_switch_node_cases p f n u d w j low high =
      let f_is = w.first_is in
      let n_is = w.cases_is in
      rules.list_switch_cases_holds k j h w.kind (omega arith) (omega arith)

  pub list_switch_node_tails : (p f n u d : ℕ) → ListSwitchNode t k p f n u d → (j : ℕ) → f + n ≤ j → j < f + n + u → case_kind t j ≡ list_with_tail_case
  list_switch_node_tails p f n u d w j low high =
      let f_is = w.first_is in
      let n_is = w.cases_is in
      let u_is = w.tails_is in
      rules.list_switch_tails k j h w.kind (omega arith) (omega arith)

  pub list_switch_node_path : (p f n u d : ℕ) → ListSwitchNode t k p f n u d → p < paths t
  list_switch_node_path p f n u d w =
      let kind = w.kind in
      let p_is = w.path_is in
      omega (arith, rules.switch_path k h (omega arith))

  pub list_switch_node_children : (p f n u d : ℕ) → ListSwitchNode t k p f n u d → node_children t k ≡ case_children t f (n + u) ++ default_child d
  list_switch_node_children p f n u d w =
      let kind = w.kind in
      let f_is = w.first_is in
      let n_is = w.cases_is in
      let u_is = w.tails_is in
      let d_is = w.default_is in
      switch_children t k (omega arith) ∙ rw (← f_is, ← n_is, ← u_is, ← d_is)

  pub leaf_children : node_kind t k ≡ leaf_node → node_children t k ≡ []
  unfolding node_children children_of_kind node_kind_of
  leaf_children e = rw e

  pub hoist_node_children : (c : ℕ) → HoistNode t k c → node_children t k ≡ c ∷ []
  hoist_node_children c w = hoist_children t k w.kind ∙ ap (λ (x : ℕ). x ∷ []) (sym w.child_is)

-- ---- children are nodes
all_below_append : (n : ℕ) (cs ds : List ℕ) → AllBelow n cs → AllBelow n ds → AllBelow n (cs ++ ds)
all_below_append n [] ds a b = b
all_below_append n (c ∷ cs) ds a b = (a.0, all_below_append n cs ds a.1 b)

default_in : (n d : ℕ) → d ≤ n → AllBelow n (default_child d)
unfolding default_child
default_in n zero h = tt
default_in n (suc d) h = (omega arith, tt)

module _ {t : List ℕ} (rules : TreeRuled t) where
  case_children_in : (i n : ℕ) → i + n ≤ cases t → AllBelow (nodes t) (case_children t i n)
  unfolding case_children
  case_children_in i zero h = tt
  case_children_in i (suc n) h = (rules.case_child_holds i (omega arith), case_children_in (i + 1) n (omega arith))

  pub children_in : (k : ℕ) → k < nodes t → AllBelow (nodes t) (node_children t k)
  children_in k h = ⊎_elim switches others (at_most_one (node_kind t k))
    where
      at_most_one : (n : ℕ) → (n ≤ 1) ⊎ (2 ≤ n)
      at_most_one zero = inl (omega arith)
      at_most_one (suc zero) = inl (omega arith)
      at_most_one (suc (suc n)) = inr (omega arith)

      two_or_three : (n : ℕ) → 2 ≤ n → n ≤ 3 → (n ≡ 2) ⊎ (n ≡ 3)
      two_or_three n low high = go (n - 2) refl
        where
          go : (d : ℕ) → n - 2 ≡ d → (n ≡ 2) ⊎ (n ≡ 3)
          go zero e = inl (omega arith)
          go (suc d) e = inr (omega arith)

      switches : node_kind t k ≤ list_switch_node → AllBelow (nodes t) (node_children t k)
      switches l =
          rw (switch_children t k l)
          (all_below_append (nodes t) (case_children t (node_first_case t k) (node_cases t k + node_tail_cases t k)) (default_child (node_default t k))
          (case_children_in (node_first_case t k) (node_cases t k + node_tail_cases t k) (rules.switch_run k h l).inside)
          (default_in (nodes t) (node_default t k) (rules.switch_default k h l)))

      others : leaf_node ≤ node_kind t k → AllBelow (nodes t) (node_children t k)
      others l =
          ⊎_elim (λ e. rw (leaf_children rules k h e) tt) (λ e. rw (hoist_children t k e) (rules.hoist_child k h e, tt))
          (two_or_three (node_kind t k) l (rules.node_kind_holds k h))
