-- What a tree file has that passed the reader's test of refusal 31, a record of facts for each stage; and the laws by which the tree
-- of a file is read one level at a time. In pre-order a child's number is larger, so that the number of nodes is deep enough.
use Rattle.std.specs.Prelude.{◌≡◌, ◌⊎◌, Bool, eqb, ltb, length}
use Rattle.std.proofs.Math.Path.{refl, ap, ap₂}
use Rattle.std.proofs.Common.{sym, ◌∙◌, true≢false, eq-or-lt_of_le, add-one}
use Rattle.std.proofs.Math.Logic.{inl, inr, ⊎_elim}
use Rattle.std.proofs.Math.Bool.{true, false}
use mathlib.Core.List.{List, [], ◌∷◌, ◌++◌}
use Prim.Native.Nat.{ℕ, zero, suc, ◌+◌, ◌-◌, ◌*◌, ◌≤◌, ◌<◌}
use native.Mathlib.Omega.{arith}
use borrow.Author.Tests.{leb-true, leb-false, ltb-true, eqb-true, eq-eqb}
use Rattle.std.proofs.Math.Dec.{leb}
use Rattle.base_words.specs.Words.{Bytes, both}
use Rattle.base_words.specs.WordsLaws.{both_true, either_true, either_first_true, either_second_true, word_at_small}
use Rattle.spec_rules.specs.Limits.{node_size, case_size, binding_size, path_size, step_size, tree_trailer, node_bindings_most}
use Rattle.spec_rules.specs.Kinds.{switch_node, list_switch_node, leaf_node, hoist_node, default_word, child_word, int_case, bytes_case, list_case, list_with_tail_case, constr_step, listtail_step}
use Rattle.spec_rules.specs.Searching.{every}
use Rattle.spec_rules.specs.SearchingLaws.{every_true, first_or_rest}
use Rattle.spec_rules.specs.SheetRefusals.{is_in}
use Rattle.spec_rules.specs.Building.{Tree, Cases, hoist, switch, listswitch, ccons}
use Rattle.spec_rules.specs.TreeReader.{tree_length, tree_nodes_at, tree_cases_at, tree_bindings_at, tree_paths_at, tree_steps_at, tree_pool_at, tree_pool_end, tree_sizes, tree_places, nodes, cases, bindings, paths, steps, tree_pool_size, node_kind, node_zero, node_word, node_path, node_first_case, node_cases, node_tail_cases, node_default, node_clause, node_first_binding, node_bindings, node_child, case_kind, case_zero, case_number, case_length, case_child, binding_path, path_first, path_count, step_kind, step_flag, length_true, starts_rise, switch_parts, is_kind, switch_cases, list_switch_cases, binding_parts, NodeKind, Switch, List_switch, Leaf, Hoist_node, Unknown_node, node_kind_of, node_of_kind, node_keeps_rules, CaseKind, Constr_case, Int_case, Bytes_case, List_case, List_with_tail_case, Unknown_case, case_kind_of, case_of_kind, case_keeps_rules, binding_keeps_rules, path_keeps_rules, step_keeps_rules, case_children, default_child, children_of_kind, node_children, in_pre_order, nodes_in_pre_order, tree_fits, step_at, steps_from, path_at, binding_name, bindings_from, case_test, start_of_test, cases_for, default_for, node_for, tree_below}
use Rattle.spec_accepted.specs.KindsLaws.{node_unknown, case_unknown, case_byte}
use Rattle.spec_accepted.specs.RunsLaws.{Run, run_in_lem, section_rises, section_fills, pool_fills, trailer_fills, every_below}

-- ---- the length and the starts: the sections stand back to back, each of whole records, and the trailer ends the file
pub record TreeLaid (t : List ℕ) : Type 0 where
  pub length_least : tree_trailer ≤ length t
  pub length_told : tree_length t ≡ length t
  pub nodes_start : tree_nodes_at t ≡ 0
  pub nodes_end : tree_nodes_at t + node_size * nodes t ≡ tree_cases_at t
  pub cases_end : tree_cases_at t + case_size * cases t ≡ tree_bindings_at t
  pub bindings_end : tree_bindings_at t + binding_size * bindings t ≡ tree_paths_at t
  pub paths_end : tree_paths_at t + path_size * paths t ≡ tree_steps_at t
  pub steps_end : tree_steps_at t + step_size * steps t ≡ tree_pool_at t
  pub pool_end_holds : tree_pool_at t + tree_pool_size t ≡ tree_pool_end t
  pub trailer_end : tree_pool_end t + tree_trailer ≡ length t

pub tree_laid : (t : List ℕ) → length_true t ≡ true → starts_rise t ≡ true → TreeLaid t
unfolding length_true starts_rise nodes cases bindings paths steps tree_pool_size tree_pool_end
tree_laid t long out =
    let l1 = both_true _ _ long in
    let s1 = both_true _ _ out in
    let fills = section_fills tree_sizes (tree_places t) s1.1 in
    record {
      length_least = leb-true _ _ l1.0;
      length_told = eqb-true _ _ l1.1;
      nodes_start = eqb-true _ _ s1.0;
      nodes_end = fills 0 (omega arith);
      cases_end = fills 1 (omega arith);
      bindings_end = fills 2 (omega arith);
      paths_end = fills 3 (omega arith);
      steps_end = fills 4 (omega arith);
      pool_end_holds = pool_fills (tree_pool_at t) (tree_pool_end t) (section_rises tree_sizes (tree_places t) s1.1 5 (omega arith));
      trailer_end = trailer_fills tree_trailer (length t) (leb-true _ _ l1.0);
    }

-- where a record's bytes lie: all before the trailer
module _ {t : List ℕ} (l : TreeLaid t) where
  -- the length is a word of the file
  pub tree_length_small : Bytes t → length t < 65536
  unfolding tree_length
  tree_length_small bytes = omega (arith, l.length_told, word_at_small bytes (length t - 2))

-- ---- the rules of nodes, cases, bindings, paths and steps
pub record TreeRuled (t : List ℕ) : Type 0 where
  -- nodes
  pub node_zero_holds : (k : ℕ) → k < nodes t → node_zero t k ≡ 0
  pub node_kind_holds : (k : ℕ) → k < nodes t → node_kind t k ≤ hoist_node
  -- a switch and a list switch
  pub switch_path : (k : ℕ) → k < nodes t → node_kind t k ≤ list_switch_node → node_path t k < paths t
  pub switch_run : (k : ℕ) → k < nodes t → node_kind t k ≤ list_switch_node → Run (node_first_case t k) (node_cases t k + node_tail_cases t k) (cases t)
  pub switch_default : (k : ℕ) → k < nodes t → node_kind t k ≤ list_switch_node → node_default t k ≤ nodes t
  -- a switch
  pub switch_some : (k : ℕ) → k < nodes t → node_kind t k ≡ switch_node → 1 ≤ node_cases t k
  pub switch_no_tails : (k : ℕ) → k < nodes t → node_kind t k ≡ switch_node → node_tail_cases t k ≡ 0
  pub switch_kinds : (k : ℕ) → k < nodes t → node_kind t k ≡ switch_node → case_kind t (node_first_case t k) ≤ bytes_case
  pub switch_alike : (k i : ℕ) → k < nodes t → node_kind t k ≡ switch_node → node_first_case t k ≤ i → i < node_first_case t k + node_cases t k
      → case_kind t i ≡ case_kind t (node_first_case t k)
  -- a list switch
  pub list_switch_some : (k : ℕ) → k < nodes t → node_kind t k ≡ list_switch_node → 1 ≤ node_cases t k + node_tail_cases t k
  pub list_switch_cases_holds : (k i : ℕ) → k < nodes t → node_kind t k ≡ list_switch_node → node_first_case t k ≤ i → i < node_first_case t k + node_cases t k → case_kind t i ≡ list_case
  pub list_switch_tails : (k i : ℕ) → k < nodes t → node_kind t k ≡ list_switch_node → node_first_case t k + node_cases t k ≤ i
      → i < node_first_case t k + node_cases t k + node_tail_cases t k → case_kind t i ≡ list_with_tail_case
  -- a leaf and a hoist
  pub bindings_run : (k : ℕ) → k < nodes t → leaf_node ≤ node_kind t k → Run (node_first_binding t k) (node_bindings t k) (bindings t)
  pub bindings_most_holds : (k : ℕ) → k < nodes t → leaf_node ≤ node_kind t k → node_bindings t k ≤ node_bindings_most
  pub leaf_unused : (k : ℕ) → k < nodes t → node_kind t k ≡ leaf_node → (node_word t k child_word ≡ 0) × (node_word t k default_word ≡ 0)
  pub hoist_child : (k : ℕ) → k < nodes t → node_kind t k ≡ hoist_node → node_child t k < nodes t
  pub hoist_unused : (k : ℕ) → k < nodes t → node_kind t k ≡ hoist_node → node_word t k default_word ≡ 0
  -- cases
  pub case_zero_holds : (i : ℕ) → i < cases t → case_zero t i ≡ 0
  pub case_kind_holds : (i : ℕ) → i < cases t → case_kind t i ≤ list_with_tail_case
  pub case_text : (i : ℕ) → i < cases t → int_case ≤ case_kind t i → case_kind t i ≤ bytes_case → Run (case_number t i) (case_length t i) (tree_pool_size t)
  pub case_no_text : (i : ℕ) → i < cases t → (case_kind t i ≡ int_case → ⊥) → (case_kind t i ≡ bytes_case → ⊥) → case_length t i ≡ 0
  pub case_child_holds : (i : ℕ) → i < cases t → case_child t i < nodes t
  -- bindings, paths and steps
  pub binding_path_holds : (b : ℕ) → b < bindings t → binding_path t b < paths t
  pub path_steps : (p : ℕ) → p < paths t → Run (path_first t p) (path_count t p) (steps t)
  pub step_kind_holds : (i : ℕ) → i < steps t → step_kind t i ≤ listtail_step
  pub step_flag_holds : (i : ℕ) → i < steps t → step_flag t i ≤ 1
  pub step_flag_constr : (i : ℕ) → i < steps t → (step_kind t i ≡ constr_step → ⊥) → step_flag t i ≡ 0

-- ---- all that the reader asks
pub record TreeSound (t : List ℕ) : Type 0 where
  pub is_laid : TreeLaid t
  pub is_ruled : TreeRuled t
  pub pre_order : nodes_in_pre_order t ≡ true
  pub some_node : 1 ≤ nodes t
  pub child_after : (k c : ℕ) → k < nodes t → is_in c (node_children t k) ≡ true → (k < c) × (c < nodes t)

-- what one node says, kind by kind
record SwitchParts (t : List ℕ) (k : ℕ) : Type 0 where
  path : node_path t k < paths t
  run : Run (node_first_case t k) (node_cases t k + node_tail_cases t k) (cases t)
  default : node_default t k ≤ nodes t

switch_parts_lem : (t : List ℕ) (k : ℕ) → switch_parts t k ≡ true → SwitchParts t k
unfolding switch_parts
switch_parts_lem t k h =
    let p = both_true _ _ h in
    let q = both_true _ _ p.1 in
    record { path = ltb-true _ _ p.0; run = run_in_lem _ _ _ q.0; default = leb-true _ _ q.1 }

module _ (t : List ℕ) (k : ℕ) (fit : node_of_kind t k (node_kind_of (node_kind t k)) ≡ true) where
  of_kind : (kind : NodeKind) → node_kind_of (node_kind t k) ≡ kind → node_of_kind t k kind ≡ true
  of_kind kind e = rw e at fit

  known_kind : node_kind t k ≤ hoist_node
  unfolding node_of_kind
  known_kind = go (leb (node_kind t k) hoist_node) refl
    where
      go : (b : Bool) → leb (node_kind t k) hoist_node ≡ b → node_kind t k ≤ hoist_node
      go true e = leb-true _ _ e
      go false e = absurd (true≢false (sym (of_kind Unknown_node (node_unknown _ (leb-false _ _ e)))))

  of_switch : node_kind t k ≡ switch_node → (switch_parts t k ≡ true) × (switch_cases t k ≡ true)
  unfolding node_of_kind node_kind_of
  of_switch e = both_true _ _ (of_kind Switch (rw e))

  of_list_switch : node_kind t k ≡ list_switch_node → (switch_parts t k ≡ true) × (list_switch_cases t k ≡ true)
  unfolding node_of_kind node_kind_of
  of_list_switch e = both_true _ _ (of_kind List_switch (rw e))

  of_leaf : node_kind t k ≡ leaf_node → (binding_parts t k ≡ true) × (both (eqb (node_word t k child_word) 0) (eqb (node_word t k default_word) 0) ≡ true)
  unfolding node_of_kind node_kind_of
  of_leaf e = both_true _ _ (of_kind Leaf (rw e))

  of_hoist : node_kind t k ≡ hoist_node → (binding_parts t k ≡ true) × (both (ltb (node_child t k) (nodes t)) (eqb (node_word t k default_word) 0) ≡ true)
  unfolding node_of_kind node_kind_of
  of_hoist e = both_true _ _ (of_kind Hoist_node (rw e))

  of_either_switch : node_kind t k ≤ list_switch_node → SwitchParts t k
  of_either_switch h =
      switch_parts_lem t k (⊎_elim (λ e. (of_list_switch e).0) (λ l. (of_switch (omega arith)).0) (eq-or-lt_of_le h))

  of_either_bound : leaf_node ≤ node_kind t k → binding_parts t k ≡ true
  of_either_bound h = ⊎_elim (λ e. (of_hoist e).0) (λ l. (of_leaf (omega arith)).0) (eq-or-lt_of_le known_kind)

-- the cases of a switch, and of a list switch
record SwitchCases (t : List ℕ) (k : ℕ) : Type 0 where
  some : 1 ≤ node_cases t k
  no_tails : node_tail_cases t k ≡ 0
  kinds : case_kind t (node_first_case t k) ≤ bytes_case
  alike : (i : ℕ) → node_first_case t k ≤ i → i < node_first_case t k + node_cases t k → case_kind t i ≡ case_kind t (node_first_case t k)

switch_cases_lem : (t : List ℕ) (k : ℕ) → switch_cases t k ≡ true → SwitchCases t k
unfolding switch_cases is_kind
switch_cases_lem t k h =
    let p = both_true _ _ h in
    let q = both_true _ _ p.1 in
    let r = both_true _ _ q.1 in
    record {
      some = leb-true _ _ p.0;
      no_tails = eqb-true _ _ q.0;
      kinds = leb-true _ _ r.0;
      alike = λ i low high. eqb-true _ _ (every_true (is_kind t (case_kind t (node_first_case t k))) (node_first_case t k) (node_cases t k) r.1 i low high);
    }

record ListSwitchCases (t : List ℕ) (k : ℕ) : Type 0 where
  some : 1 ≤ node_cases t k + node_tail_cases t k
  lists : (i : ℕ) → node_first_case t k ≤ i → i < node_first_case t k + node_cases t k → case_kind t i ≡ list_case
  tails : (i : ℕ) → node_first_case t k + node_cases t k ≤ i → i < node_first_case t k + node_cases t k + node_tail_cases t k → case_kind t i ≡ list_with_tail_case

list_switch_cases_of : (t : List ℕ) (k : ℕ) → list_switch_cases t k ≡ true → ListSwitchCases t k
unfolding list_switch_cases is_kind
list_switch_cases_of t k h =
    let p = both_true _ _ h in
    let q = both_true _ _ p.1 in
    record {
      some = leb-true _ _ p.0;
      lists = λ i low high. eqb-true _ _ (every_true (is_kind t list_case) (node_first_case t k) (node_cases t k) q.0 i low high);
      tails = λ i low high. eqb-true _ _ (every_true (is_kind t list_with_tail_case) (node_first_case t k + node_cases t k) (node_tail_cases t k) q.1 i low high);
    }

binding_parts_lem : (t : List ℕ) (k : ℕ) → binding_parts t k ≡ true → (node_bindings t k ≤ node_bindings_most) × Run (node_first_binding t k) (node_bindings t k) (bindings t)
unfolding binding_parts
binding_parts_lem t k h = let p = both_true _ _ h in (leb-true _ _ p.0, run_in_lem _ _ _ p.1)

-- what one case says, kind by kind
module _ (t : List ℕ) (i : ℕ) (fit : case_of_kind t i (case_kind_of (case_kind t i)) ≡ true) where
  of_case : (kind : CaseKind) → case_kind_of (case_kind t i) ≡ kind → case_of_kind t i kind ≡ true
  of_case kind e = rw e at fit

  known_case : case_kind t i ≤ list_with_tail_case
  unfolding case_of_kind
  known_case = go (leb (case_kind t i) list_with_tail_case) refl
    where
      go : (b : Bool) → leb (case_kind t i) list_with_tail_case ≡ b → case_kind t i ≤ list_with_tail_case
      go true e = leb-true _ _ e
      go false e = absurd (true≢false (sym (of_case Unknown_case (case_unknown _ (leb-false _ _ e)))))

  text_case : int_case ≤ case_kind t i → case_kind t i ≤ bytes_case → Run (case_number t i) (case_length t i) (tree_pool_size t)
  unfolding case_of_kind case_kind_of
  text_case low high =
      ⊎_elim (λ e. run_in_lem _ _ _ (of_case Bytes_case (rw e)))
      (λ l. let e : case_kind t i ≡ int_case = omega arith in run_in_lem _ _ _ (of_case Int_case (rw e)))
      (eq-or-lt_of_le high)

no_text_case : (t : List ℕ) (i : ℕ) (kind : CaseKind) → case_of_kind t i kind ≡ true → (kind ≡ Int_case → ⊥) → (kind ≡ Bytes_case → ⊥) → case_length t i ≡ 0
unfolding case_of_kind
no_text_case t i Constr_case fit a b = eqb-true _ _ fit
no_text_case t i Int_case fit a b = absurd (a refl)
no_text_case t i Bytes_case fit a b = absurd (b refl)
no_text_case t i List_case fit a b = eqb-true _ _ fit
no_text_case t i List_with_tail_case fit a b = eqb-true _ _ fit
no_text_case t i Unknown_case fit a b = absurd (true≢false (sym fit))

plain_case : (t : List ℕ) (i : ℕ) → case_of_kind t i (case_kind_of (case_kind t i)) ≡ true → (case_kind t i ≡ int_case → ⊥) → (case_kind t i ≡ bytes_case → ⊥) → case_length t i ≡ 0
plain_case t i fit a b =
    no_text_case t i (case_kind_of (case_kind t i)) fit (λ e. a (case_byte _ Int_case e (omega arith))) (λ e. b (case_byte _ Bytes_case e (omega arith)))

leaf_words : (t : List ℕ) (k : ℕ) → both (eqb (node_word t k child_word) 0) (eqb (node_word t k default_word) 0) ≡ true → (node_word t k child_word ≡ 0) × (node_word t k default_word ≡ 0)
leaf_words t k h = let p = both_true _ _ h in (eqb-true _ _ p.0, eqb-true _ _ p.1)

hoist_words : (t : List ℕ) (k : ℕ) → both (ltb (node_child t k) (nodes t)) (eqb (node_word t k default_word) 0) ≡ true → (node_child t k < nodes t) × (node_word t k default_word ≡ 0)
hoist_words t k h = let p = both_true _ _ h in (ltb-true _ _ p.0, eqb-true _ _ p.1)

-- what one step says
module _ (t : List ℕ) (i : ℕ) (keeps : step_keeps_rules t i ≡ true) where
  known_step : step_kind t i ≤ listtail_step
  unfolding step_keeps_rules
  known_step = let p = both_true _ _ keeps in leb-true _ _ p.0

  flag_step : (step_flag t i ≡ 0) ⊎ ((step_flag t i ≡ 1) × (step_kind t i ≡ constr_step))
  unfolding step_keeps_rules
  flag_step =
      let p = both_true (leb (step_kind t i) listtail_step) _ keeps in
      ⊎_elim (λ e. inl (eqb-true (step_flag t i) 0 e))
      (λ e. let q = both_true (eqb (step_flag t i) 1) (eqb (step_kind t i) constr_step) e in inr (eqb-true _ _ q.0, eqb-true _ _ q.1))
      (either_true (eqb (step_flag t i) 0) (both (eqb (step_flag t i) 1) (eqb (step_kind t i) constr_step)) p.1)

  small_flag : step_flag t i ≤ 1
  small_flag = ⊎_elim (λ e. omega arith) (λ e. omega arith) flag_step

  no_flag : (step_kind t i ≡ constr_step → ⊥) → step_flag t i ≡ 0
  no_flag other = ⊎_elim (λ e. e) (λ e. absurd (other e.1)) flag_step

-- ---- pre-order
pub is_in_left : (c : ℕ) (xs ys : List ℕ) → is_in c xs ≡ true → is_in c (xs ++ ys) ≡ true
unfolding is_in
is_in_left c [] ys h = absurd (true≢false (sym h))
is_in_left c (x ∷ xs) ys h =
    ⊎_elim (either_first_true (eqb c x) (is_in c (xs ++ ys))) (λ e. either_second_true (eqb c x) (is_in c (xs ++ ys)) (is_in_left c xs ys e)) (either_true (eqb c x) (is_in c xs) h)

pub is_in_right : (c : ℕ) (xs ys : List ℕ) → is_in c ys ≡ true → is_in c (xs ++ ys) ≡ true
unfolding is_in
is_in_right c [] ys h = h
is_in_right c (x ∷ xs) ys h = either_second_true (eqb c x) (is_in c (xs ++ ys)) (is_in_right c xs ys h)

module _ (t : List ℕ) where
  -- what is awaited is still to come
  awaited_after : (k n : ℕ) (awaited : List ℕ) → in_pre_order t k n awaited ≡ true → (c : ℕ) → is_in c awaited ≡ true → (k ≤ c) × (c < k + n)
  unfolding in_pre_order is_in
  awaited_after k zero [] h c e = absurd (true≢false (sym e))
  awaited_after k zero (a ∷ cs) h c e = absurd (true≢false (sym h))
  awaited_after k (suc n) [] h c e = absurd (true≢false (sym h))
  awaited_after k (suc n) (a ∷ cs) h c e =
      let p = both_true (eqb a k) (in_pre_order t (k + 1) n (node_children t k ++ cs)) h in
      let first = eqb-true a k p.0 in
      ⊎_elim (λ x. let same = eqb-true c a x in (omega arith, omega arith))
      (λ x. let w = awaited_after (k + 1) n (node_children t k ++ cs) p.1 c (is_in_right c (node_children t k) cs x) in (omega arith, omega arith))
      (either_true (eqb c a) (is_in c cs) e)

  -- the children of each node come after it
  children_after : (k n : ℕ) (awaited : List ℕ) → in_pre_order t k n awaited ≡ true → (i c : ℕ) → k ≤ i → i < k + n → is_in c (node_children t i) ≡ true
      → (i < c) × (c < k + n)
  unfolding in_pre_order
  children_after k zero awaited h i c low high e = absurd (omega arith)
  children_after k (suc n) [] h i c low high e = absurd (true≢false (sym h))
  children_after k (suc n) (a ∷ cs) h i c low high e =
      let p = both_true (eqb a k) (in_pre_order t (k + 1) n (node_children t k ++ cs)) h in
      ⊎_elim (λ x. let w = awaited_after (k + 1) n (node_children t k ++ cs) p.1 c (is_in_left c (node_children t k) cs (rw x at e)) in (omega arith, omega arith))
      (λ x. let w = children_after (k + 1) n (node_children t k ++ cs) p.1 i c x.0 x.1 e in (omega arith, omega arith))
      (first_or_rest k i n low high)

  children_after_all : (k c : ℕ) → k < nodes t → nodes_in_pre_order t ≡ true → is_in c (node_children t k) ≡ true → (k < c) × (c < nodes t)
  unfolding nodes_in_pre_order
  children_after_all k c h e i = let w = children_after 0 (nodes t) (0 ∷ []) e k c (omega arith) (omega arith) i in (omega arith, omega arith)

  first_there : nodes_in_pre_order t ≡ true → 1 ≤ nodes t
  unfolding nodes_in_pre_order
  first_there h = go (nodes t) h
    where
      go : (n : ℕ) → in_pre_order t 0 n (0 ∷ []) ≡ true → 1 ≤ n
      go zero e = absurd (true≢false (sym e))
      go (suc n) e = omega arith

-- the tests of one node and of one case, each by itself
record NodeRules (t : List ℕ) (k : ℕ) : Type 0 where
  zero_byte : node_zero t k ≡ 0
  fit : node_of_kind t k (node_kind_of (node_kind t k)) ≡ true

node_rules : (t : List ℕ) (k : ℕ) → node_keeps_rules t k ≡ true → NodeRules t k
unfolding node_keeps_rules
node_rules t k keeps = let p = both_true _ _ keeps in record { zero_byte = eqb-true _ _ p.0; fit = p.1 }

record CaseRules (t : List ℕ) (i : ℕ) : Type 0 where
  zero_byte : case_zero t i ≡ 0
  fit : case_of_kind t i (case_kind_of (case_kind t i)) ≡ true
  child : case_child t i < nodes t

case_rules : (t : List ℕ) (i : ℕ) → case_keeps_rules t i ≡ true → CaseRules t i
unfolding case_keeps_rules
case_rules t i keeps =
    let p = both_true _ _ keeps in
    let q = both_true _ _ p.1 in
    record { zero_byte = eqb-true _ _ p.0; fit = q.0; child = ltb-true _ _ q.1 }

pub tree_ruled : (t : List ℕ) → every (node_keeps_rules t) 0 (nodes t) ≡ true → every (case_keeps_rules t) 0 (cases t) ≡ true
    → every (binding_keeps_rules t) 0 (bindings t) ≡ true → every (path_keeps_rules t) 0 (paths t) ≡ true → every (step_keeps_rules t) 0 (steps t) ≡ true → TreeRuled t
unfolding binding_keeps_rules path_keeps_rules
tree_ruled t keep_nodes keep_cases keep_bindings keep_paths keep_steps = record {
  node_zero_holds = λ k h. (node k h).zero_byte;
  node_kind_holds = λ k h. known_kind t k (node k h).fit;
  switch_path = λ k h e. (of_either_switch t k (node k h).fit e).path;
  switch_run = λ k h e. (of_either_switch t k (node k h).fit e).run;
  switch_default = λ k h e. (of_either_switch t k (node k h).fit e).default;
  switch_some = λ k h e. (switch_cases_lem t k (of_switch t k (node k h).fit e).1).some;
  switch_no_tails = λ k h e. (switch_cases_lem t k (of_switch t k (node k h).fit e).1).no_tails;
  switch_kinds = λ k h e. (switch_cases_lem t k (of_switch t k (node k h).fit e).1).kinds;
  switch_alike = λ k i h e. (switch_cases_lem t k (of_switch t k (node k h).fit e).1).alike i;
  list_switch_some = λ k h e. (list_switch_cases_of t k (of_list_switch t k (node k h).fit e).1).some;
  list_switch_cases_holds = λ k i h e. (list_switch_cases_of t k (of_list_switch t k (node k h).fit e).1).lists i;
  list_switch_tails = λ k i h e. (list_switch_cases_of t k (of_list_switch t k (node k h).fit e).1).tails i;
  bindings_run = λ k h e. (binding_parts_lem t k (of_either_bound t k (node k h).fit e)).1;
  bindings_most_holds = λ k h e. (binding_parts_lem t k (of_either_bound t k (node k h).fit e)).0;
  leaf_unused = λ k h e. leaf_words t k (of_leaf t k (node k h).fit e).1;
  hoist_child = λ k h e. (hoist_words t k (of_hoist t k (node k h).fit e).1).0;
  hoist_unused = λ k h e. (hoist_words t k (of_hoist t k (node k h).fit e).1).1;
  case_zero_holds = λ i h. (branch i h).zero_byte;
  case_kind_holds = λ i h. known_case t i (branch i h).fit;
  case_text = λ i h. text_case t i (branch i h).fit;
  case_no_text = λ i h a b. plain_case t i (branch i h).fit a b;
  case_child_holds = λ i h. (branch i h).child;
  binding_path_holds = λ b h. ltb-true _ _ (every_below (binding_keeps_rules t) (bindings t) keep_bindings b h);
  path_steps = λ p h. run_in_lem _ _ _ (every_below (path_keeps_rules t) (paths t) keep_paths p h);
  step_kind_holds = λ i h. known_step t i (step i h);
  step_flag_holds = λ i h. small_flag t i (step i h);
  step_flag_constr = λ i h. no_flag t i (step i h);
}
  where
    node : (k : ℕ) → k < nodes t → NodeRules t k
    node k h = node_rules t k (every_below (node_keeps_rules t) (nodes t) keep_nodes k h)

    branch : (i : ℕ) → i < cases t → CaseRules t i
    branch i h = case_rules t i (every_below (case_keeps_rules t) (cases t) keep_cases i h)

    step : (i : ℕ) → i < steps t → step_keeps_rules t i ≡ true
    step = every_below (step_keeps_rules t) (steps t) keep_steps

pub tree_sound : (t : List ℕ) → tree_fits t ≡ true → TreeSound t
unfolding tree_fits
tree_sound t fit =
    let f1 = both_true _ _ fit in
    let f2 = both_true _ _ f1.1 in
    let f3 = both_true _ _ f2.1 in
    let f4 = both_true _ _ f3.1 in
    let f5 = both_true _ _ f4.1 in
    let f6 = both_true _ _ f5.1 in
    let f7 = both_true _ _ f6.1 in
    record {
      is_laid = tree_laid t f1.0 f2.0;
      is_ruled = tree_ruled t f3.0 f4.0 f5.0 f6.0 f7.0;
      pre_order = f7.1;
      some_node = first_there t f7.1;
      child_after = λ k c h. children_after_all t k c h f7.1;
    }

-- ---- the children of a node
pub case_listed : (t : List ℕ) (first n i : ℕ) → first ≤ i → i < first + n → is_in (case_child t i) (case_children t first n) ≡ true
unfolding is_in case_children
case_listed t first zero i low high = absurd (omega arith)
case_listed t first (suc n) i low high =
    ⊎_elim (λ e. either_first_true _ _ (eq-eqb (case_child t i) (case_child t first) (ap (case_child t) e)))
    (λ w. either_second_true (eqb (case_child t i) (case_child t first)) (is_in (case_child t i) (case_children t (first + 1) n)) (case_listed t (first + 1) n i w.0 w.1))
    (first_or_rest first i n low high)

pub only_listed : (c : ℕ) → is_in c (c ∷ []) ≡ true
unfolding is_in
only_listed c = either_first_true (eqb c c) false (eq-eqb c c refl)

pub default_listed : (d : ℕ) → is_in d (default_child (suc d)) ≡ true
unfolding default_child
default_listed d = only_listed d

pub switch_children : (t : List ℕ) (k : ℕ) → node_kind t k ≤ list_switch_node
    → node_children t k ≡ case_children t (node_first_case t k) (node_cases t k + node_tail_cases t k) ++ default_child (node_default t k)
unfolding node_children children_of_kind node_kind_of
switch_children t k h = ⊎_elim (λ e. rw e) (λ l. let e : node_kind t k ≡ switch_node = omega arith in rw e) (eq-or-lt_of_le h)

pub hoist_children : (t : List ℕ) (k : ℕ) → node_kind t k ≡ hoist_node → node_children t k ≡ node_child t k ∷ []
unfolding node_children children_of_kind node_kind_of
hoist_children t k e = rw e

-- ---- the steps and the bindings of a run
module _ (t : List ℕ) where
  pub steps_from_more : (i n : ℕ) → steps_from t i (n + 1) ≡ step_at t i ∷ steps_from t (i + 1) n
  unfolding steps_from
  steps_from_more i n = rw (add-one n)

  pub steps_from_some : (i n : ℕ) → (n ≡ 0 → ⊥) → steps_from t i n ≡ step_at t i ∷ steps_from t (i + 1) (n - 1)
  steps_from_some i n h = let q : n ≡ n - 1 + 1 = omega arith in ap (λ (m : ℕ). steps_from t i m) q ∙ steps_from_more i (n - 1)

  pub bindings_from_more : (b n : ℕ) → bindings_from t b (n + 1) ≡ record { name = binding_name t b; path = path_at t (binding_path t b) } ∷ bindings_from t (b + 1) n
  unfolding bindings_from
  bindings_from_more b n = rw (add-one n)

  pub bindings_from_some : (b n : ℕ) → (n ≡ 0 → ⊥)
      → bindings_from t b n ≡ record { name = binding_name t b; path = path_at t (binding_path t b) } ∷ bindings_from t (b + 1) (n - 1)
  bindings_from_some b n h = let q : n ≡ n - 1 + 1 = omega arith in ap (λ (m : ℕ). bindings_from t b m) q ∙ bindings_from_more b (n - 1)

  pub length_bindings_from : (b n : ℕ) → length (bindings_from t b n) ≡ n
  unfolding bindings_from
  length_bindings_from b zero = refl
  length_bindings_from b (suc n) = ap suc (length_bindings_from (b + 1) n)

-- ---- the cases of a run
module _ (f : ℕ → Tree) (t : List ℕ) where
  pub cases_for_more : (i n : ℕ) → cases_for f t i (n + 1) ≡ ccons (case_test t i) (start_of_test (case_number t i) (case_test t i)) (f (case_child t i)) (cases_for f t (i + 1) n)
  unfolding cases_for
  cases_for_more i n = rw (add-one n)

  pub cases_for_some : (i n : ℕ) → (n ≡ 0 → ⊥)
      → cases_for f t i n ≡ ccons (case_test t i) (start_of_test (case_number t i) (case_test t i)) (f (case_child t i)) (cases_for f t (i + 1) (n - 1))
  cases_for_some i n h =
      let q : n ≡ n - 1 + 1 = omega arith in
      ap (λ (m : ℕ). cases_for f t i m) q ∙ cases_for_more i (n - 1)

-- read by two functions that agree at each child
pub cases_for_same : (f g : ℕ → Tree) (t : List ℕ) (i n : ℕ) → ((j : ℕ) → i ≤ j → j < i + n → f (case_child t j) ≡ g (case_child t j)) → cases_for f t i n ≡ cases_for g t i n
unfolding cases_for
cases_for_same f g t i zero h = refl
cases_for_same f g t i (suc n) h =
    ap₂ (ccons (case_test t i) (start_of_test (case_number t i) (case_test t i)))
    (h i (omega arith) (omega arith)) (cases_for_same f g t (i + 1) n (λ j low high. h j (omega arith) (omega arith)))

-- ---- a tree is read one level at a time
module _ (t : List ℕ) (k : ℕ) (f g : ℕ → Tree) where
  default_same : (d : ℕ) → ((c : ℕ) → is_in c (default_child d) ≡ true → f c ≡ g c) → default_for f d ≡ default_for g d
  unfolding default_for
  default_same zero agree = refl
  default_same (suc d) agree = agree d (default_listed d)

  -- the parts of a switch or a list switch: the n cases of a run from i on, all in the node's own run, and the default
  module _ (agree : (c : ℕ) → is_in c (case_children t (node_first_case t k) (node_cases t k + node_tail_cases t k) ++ default_child (node_default t k)) ≡ true → f c ≡ g c) where
    run_same : (i n : ℕ) → node_first_case t k ≤ i → i + n ≤ node_first_case t k + (node_cases t k + node_tail_cases t k) → cases_for f t i n ≡ cases_for g t i n
    run_same i n low high =
        cases_for_same f g t i n
        (λ j a b. agree (case_child t j) (is_in_left (case_child t j) _ _ (case_listed t (node_first_case t k) (node_cases t k + node_tail_cases t k) j (omega arith) (omega arith))))

    rest_same : default_for f (node_default t k) ≡ default_for g (node_default t k)
    rest_same =
        default_same (node_default t k)
        (λ c h. agree c (is_in_right c (case_children t (node_first_case t k) (node_cases t k + node_tail_cases t k)) _ h))

  pub node_for_same : (kind : NodeKind) → ((c : ℕ) → is_in c (children_of_kind t k kind) ≡ true → f c ≡ g c) → node_for f t k kind ≡ node_for g t k kind
  unfolding node_for children_of_kind
  node_for_same Switch agree =
      ap₂ (switch (path_at t (node_path t k)))
      (run_same agree (node_first_case t k) (node_cases t k) (omega arith) (omega arith)) (rest_same agree)
  node_for_same List_switch agree =
      ap₂ (λ (cs : Cases) (ts : Cases). listswitch (path_at t (node_path t k)) cs ts (default_for f (node_default t k)))
      (run_same agree (node_first_case t k) (node_cases t k) (omega arith) (omega arith))
      (run_same agree (node_first_case t k + node_cases t k) (node_tail_cases t k) (omega arith) (omega arith))
      ∙ ap (listswitch (path_at t (node_path t k)) (cases_for g t (node_first_case t k) (node_cases t k)) (cases_for g t (node_first_case t k + node_cases t k) (node_tail_cases t k))) (rest_same agree)
  node_for_same Leaf agree = refl
  node_for_same Hoist_node agree =
      ap (hoist (node_clause t k) (bindings_from t (node_first_binding t k) (node_bindings t k))) (agree (node_child t k) (only_listed (node_child t k)))
  node_for_same Unknown_node agree = refl

module _ (t : List ℕ) (sound : TreeSound t) where
  -- depths that reach past the last node are the same
  pub tree_below_enough : (m n k : ℕ) → k < nodes t → nodes t ≤ m + k → nodes t ≤ n + k → tree_below m t k ≡ tree_below n t k
  unfolding tree_below node_children
  tree_below_enough zero n k h a b = absurd (omega arith)
  tree_below_enough (suc m) zero k h a b = absurd (omega arith)
  tree_below_enough (suc m) (suc n) k h a b =
      node_for_same t k (tree_below m t) (tree_below n t) (node_kind_of (node_kind t k))
      (λ c e.
      let after = sound.child_after k c h e in
      tree_below_enough m n c after.1 (omega arith) (omega arith))

  pub tree_below_open : (k : ℕ) → k < nodes t → tree_below (nodes t) t k ≡ node_for (tree_below (nodes t) t) t k (node_kind_of (node_kind t k))
  unfolding tree_below node_children
  tree_below_open k h =
      let some : nodes t ≡ suc (nodes t - 1) = omega arith in
      ap (λ (n : ℕ). tree_below n t k) some
      ∙ node_for_same t k (tree_below (nodes t - 1) t) (tree_below (nodes t) t) (node_kind_of (node_kind t k))
      (λ c e.
      let after = sound.child_after k c h e in
      tree_below_enough (nodes t - 1) (nodes t) c after.1 (omega arith) (omega arith))

  -- the same for a kind that is known
  pub tree_below_of_kind : (k : ℕ) → k < nodes t → (kind : NodeKind) → node_kind_of (node_kind t k) ≡ kind → tree_below (nodes t) t k ≡ node_for (tree_below (nodes t) t) t k kind
  tree_below_of_kind k h kind e = tree_below_open k h ∙ ap (node_for (tree_below (nodes t) t) t k) e
