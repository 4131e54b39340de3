-- What the functions of the order use: the last child, the end of a subtree and the chain of children, as loops have them.
-- Rests on PreOrder and its law, and on the facts of a file whose records keep the rules.
use Rattle.std.specs.Prelude.{◌≡◌, Bool, true, false, eqb, ltb}
use Rattle.std.proofs.Math.Path.{refl, sym, ap}
use Rattle.std.proofs.Common.{◌∙◌, ⊎_elim, add-zero, eq-or-lt_of_le, ne_eqb}
use mathlib.Core.List.{List, [], ◌∷◌, ◌++◌, append-nil}
use Prim.Native.Nat.{ℕ, zero, suc, ◌+◌, ◌-◌, ◌≤◌, ◌<◌}
use native.Mathlib.Omega.{arith}
use Rattle.base_words.specs.Words.{both, either}
use Rattle.spec_rules.specs.Kinds.{list_switch_node, leaf_node, hoist_node, first_case_word, cases_word, tail_cases_word, default_word, child_word}
use Rattle.spec_rules.specs.Searching.{every}
use Rattle.spec_rules.specs.SplittingLaws.{both_end}
use Rattle.spec_rules.specs.TreeReader.{nodes, node_kind, node_word, node_first_case, node_cases, node_tail_cases, node_default, node_child, case_child, case_children, default_child, node_children, nodes_in_pre_order}
use Rattle.spec_accepted.specs.TreeFacts.{switch_children, hoist_children}
use Rattle.format_tree.specs.declared.layout.TreeMap.{TreeMap}
use Rattle.format_tree.specs.declared.order.Children.{Children}
use Rattle.format_tree.specs.Reading.{Ruled}
use Rattle.format_tree.specs.ReadingLaws.{nodes_count, cases_count}
use Rattle.format_tree.specs.PreOrder.{last_from, last_child, end_of, case_follows, chained, children_follow, all_follow, ChildrenAre}
use Rattle.format_tree.specs.PreOrderLaws.{last_in, end_of_last, end_at_leaf, pre_order_is}
use Rattle.format_tree.specs.NodesLaws.{leaf_children, children_in}

-- ---- the last child
last_from_append : (k c : ℕ) (cs : List ℕ) → last_from k (cs ++ c ∷ []) ≡ c
unfolding last_from
last_from_append k c [] = refl
last_from_append k c (d ∷ ds) = last_from_append d c ds

last_from_cases : (t : List ℕ) (i n k : ℕ) → last_from k (case_children t i (suc n)) ≡ case_child t (i + n)
unfolding last_from case_children
last_from_cases t i zero k = ap (case_child t) (sym (add-zero i))
last_from_cases t i (suc n) k = let e : i + suc n ≡ i + 1 + n = omega arith in rw e (last_from_cases t (i + 1) n (case_child t i))

pub last_of_default : (t : List ℕ) (i n d k : ℕ) → 0 < d → d - 1 ≡ last_from k (case_children t i n ++ default_child d)
unfolding default_child
last_of_default t i n zero k h = absurd (omega arith)
last_of_default t i n (suc d) k h = let e : suc d - 1 ≡ d = omega arith in e ∙ sym (last_from_append k d (case_children t i n))

pub last_of_cases : (t : List ℕ) (i n d k : ℕ) → 1 ≤ n → d ≤ 0 → case_child t (i + n - 1) ≡ last_from k (case_children t i n ++ default_child d)
unfolding default_child
last_of_cases t i zero d k h z = absurd (omega arith)
last_of_cases t i (suc n) zero k h z =
    let e : i + suc n - 1 ≡ i + n = omega arith in
    rw (e, append-nil (case_children t i (suc n))) (sym (last_from_cases t i n k))
last_of_cases t i (suc n) (suc d) k h z = absurd (omega arith)

pub last_child_is : (t : List ℕ) (k : ℕ) (cs : List ℕ) → node_children t k ≡ cs → last_from k cs ≡ last_child t k
unfolding last_child
last_child_is t k cs e = ap (last_from k) (sym e)

pub last_child_leaf : (t : List ℕ) (k : ℕ) → node_children t k ≡ [] → k ≡ last_child t k
unfolding last_from
last_child_leaf t k e = last_child_is t k [] e

pub last_child_hoist : (t : List ℕ) (k c : ℕ) → node_children t k ≡ c ∷ [] → c ≡ last_child t k
unfolding last_from
last_child_hoist t k c e = last_child_is t k (c ∷ []) e

-- ---- the chain of children
pub children_follow_is : (t : List ℕ) (k : ℕ) (cs : List ℕ) → node_children t k ≡ cs → chained t (k + 1) cs ≡ children_follow t k
unfolding children_follow
children_follow_is t k cs e = ap (chained t (k + 1)) (sym e)

pub children_follow_leaf : (t : List ℕ) (k : ℕ) → node_children t k ≡ [] → true ≡ children_follow t k
unfolding chained
children_follow_leaf t k e = children_follow_is t k [] e

pub children_follow_hoist : (t : List ℕ) (k c : ℕ) → node_children t k ≡ c ∷ [] → eqb c (k + 1) ≡ children_follow t k
unfolding chained
children_follow_hoist t k c e = sym (both_end (eqb c (k + 1))) ∙ children_follow_is t k (c ∷ []) e

-- the cases after case i
chain_rest : (t : List ℕ) (i n : ℕ) → chained t (end_of t (case_child t i)) (case_children t (i + 1) n) ≡ every (case_follows t) (i + 1) n
unfolding chained case_children every case_follows
chain_rest t i zero = refl
chain_rest t i (suc n) =
    let e : i + 1 - 1 ≡ i = omega arith in
    rw e (ap (both (eqb (case_child t (i + 1)) (end_of t (case_child t i)))) (chain_rest t (i + 1) n))

pub chain_is : (t : List ℕ) (e i n : ℕ) → 1 ≤ n → chained t e (case_children t i n) ≡ both (eqb (case_child t i) e) (every (case_follows t) (i + 1) (n - 1))
unfolding chained case_children
chain_is t e i zero h = absurd (omega arith)
chain_is t e i (suc n) h = let d : suc n - 1 ≡ n = omega arith in rw d (ap (both (eqb (case_child t i) e)) (chain_rest t i n))

-- more children after the cases
chain_append : (t : List ℕ) (n e i : ℕ) (ds : List ℕ)
    → chained t e (case_children t i (suc n) ++ ds) ≡ both (chained t e (case_children t i (suc n))) (chained t (end_of t (case_child t (i + n))) ds)
unfolding chained case_children
chain_append t zero e i ds = rw (add-zero i) (go (eqb (case_child t i) e))
  where
    go : (b : Bool) → both b (chained t (end_of t (case_child t i)) ds) ≡ both (both b true) (chained t (end_of t (case_child t i)) ds)
    go true = refl
    go false = refl
chain_append t (suc n) e i ds =
    let f : i + suc n ≡ i + 1 + n = omega arith in
    rw f (go (eqb (case_child t i) e) (chained t (end_of t (case_child t i)) (case_children t (i + 1) (suc n) ++ ds))
    (chained t (end_of t (case_child t i)) (case_children t (i + 1) (suc n))) (chained t (end_of t (case_child t (i + 1 + n))) ds)
    (chain_append t n (end_of t (case_child t i)) (i + 1) ds))
  where
    go : (b x y z : Bool) → x ≡ both y z → both b x ≡ both (both b y) z
    go true x y z h = h
    go false x y z h = refl

chain_then : (t : List ℕ) (e i n : ℕ) → 1 ≤ n → (ds : List ℕ)
    → chained t e (case_children t i n ++ ds) ≡ both (chained t e (case_children t i n)) (chained t (end_of t (case_child t (i + n - 1))) ds)
chain_then t e i zero h ds = absurd (omega arith)
chain_then t e i (suc n) h ds = let f : i + suc n - 1 ≡ i + n = omega arith in rw f (chain_append t n e i ds)

-- the default after the cases
pub chain_default : (t : List ℕ) (e i n d : ℕ) → 1 ≤ n
    → chained t e (case_children t i n ++ default_child d) ≡ both (chained t e (case_children t i n)) (either (eqb d 0) (eqb (d - 1) (end_of t (case_child t (i + n - 1)))))
unfolding default_child chained
chain_default t e i n zero h = rw (append-nil (case_children t i n)) (sym (both_end (chained t e (case_children t i n))))
chain_default t e i n (suc d) h =
    let p : suc d - 1 ≡ d = omega arith in
    chain_then t e i n h (d ∷ []) ∙ rw (p, ne_eqb (suc d) 0 (λ z. omega arith), both_end (eqb d (end_of t (case_child t (i + n - 1)))))

-- ---- last children and ends, as the map counts nodes
module _ {t : List ℕ} {m : TreeMap} (w : Ruled t m) where
  pub in_nodes : (k : ℕ) → k < m.nodes.count → k < nodes t
  in_nodes k h = omega (arith, nodes_count w.mapped)

  pub node_kind_known : (k : ℕ) → k < m.nodes.count → node_kind t k ≤ hoist_node
  node_kind_known k h = w.rules.node_kind_holds k (in_nodes k h)

  pub case_child_in : (i : ℕ) → i < m.cases.count → case_child t i < m.nodes.count
  case_child_in i h =
      let c = cases_count w.mapped in
      omega (arith, w.rules.case_child_holds i (omega arith), nodes_count w.mapped)

  pub last_child_in : (k : ℕ) → k < m.nodes.count → last_child t k < m.nodes.count
  last_child_in k h = omega (arith, last_in t (children_in w.rules) k (in_nodes k h), nodes_count w.mapped)

  pub end_follows : (k last e : ℕ) → k < m.nodes.count → last ≡ last_child t k → k < last → end_of t k ≡ e → end_of t last ≡ e
  end_follows k last e h x l q = ap (end_of t) x ∙ sym (end_of_last t (children_in w.rules) k (in_nodes k h) (omega arith)) ∙ q

  pub end_reached : (k last e : ℕ) → last ≡ last_child t k → last ≤ k → end_of t k ≡ e → k + 1 ≡ e
  end_reached k last e x l q = sym (end_at_leaf t k (omega arith)) ∙ q

  -- the rules' condition, as the map counts nodes
  pub in_order_is : nodes_in_pre_order t ≡ both (ltb 0 m.nodes.count) (both (every (children_follow t) 0 m.nodes.count) (eqb (end_of t 0) m.nodes.count))
  unfolding all_follow
  in_order_is = rw (pre_order_is t (children_in w.rules), nodes_count w.mapped)

-- ---- where the children of a node stand
module _ {t : List ℕ} {m : TreeMap} (w : Ruled t m) (k : ℕ) (h : k < m.nodes.count) where
  pub children_leaf : node_kind t k ≡ leaf_node → ChildrenAre t m k Children.Nothing
  children_leaf e = leaf_children w.rules k (in_nodes w k h) e

  pub children_hoist : (c : ℕ) → node_kind t k ≡ hoist_node → c ≡ node_word t k child_word → ChildrenAre t m k (Children.One c)
  unfolding node_child
  children_hoist c e x = hoist_children t k e ∙ ap (λ (y : ℕ). y ∷ []) (sym x)

  some_case : node_kind t k ≤ list_switch_node → 1 ≤ node_cases t k + node_tail_cases t k
  some_case l =
      ⊎_elim (λ e. w.rules.list_switch_some k (in_nodes w k h) e)
      (λ z. omega (arith, w.rules.switch_some k (in_nodes w k h) (omega arith))) (eq-or-lt_of_le l)

  pub children_cases : (first cases tails default : ℕ) → (node_kind t k ≡ leaf_node → ⊥) → (node_kind t k ≡ hoist_node → ⊥) → first ≡ node_word t k first_case_word → cases ≡ node_word t k cases_word
      → tails ≡ node_word t k tail_cases_word → default ≡ node_word t k default_word → ChildrenAre t m k (Children.Cases first (cases + tails) default)
  unfolding node_first_case node_cases node_tail_cases node_default
  children_cases first cases tails default two three f_is c_is t_is d_is =
      let l : node_kind t k ≤ list_switch_node = omega (arith, two, three, node_kind_known w k h) in
      let run = w.rules.switch_run k (in_nodes w k h) l in (
        switch_children t k l ∙ rw (f_is, c_is, t_is, d_is),
        omega (arith, some_case l),
        omega (arith, run.inside, cases_count w.mapped),
      )
