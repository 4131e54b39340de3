-- A run of records is written record by record; a path by its steps; and a test and a node are written as the reader gives them.
-- Rests on the rules' definitions of a listing and on what a file has whose records keep the rules.
use Rattle.std.specs.Prelude.{◌≡◌, ℕ, suc, ◌+◌, ◌-◌, ◌≤◌, ◌<◌, eqb, length}
use Rattle.std.proofs.Math.Path.{refl, ap}
use Rattle.std.proofs.Common.{sym, ap₂, ◌∙◌, arith, add-zero}
use mathlib.Core.List.{List, [], ◌∷◌, ◌++◌, append_assoc}
use Rattle.std.proofs.Math.Nat.{zero-add, sub-zero}
use borrow.Author.Tests.{ne_eqb}
use Rattle.base_words.specs.Words.{text_at}
use Rattle.spec_rules.specs.Kinds.{hoist_node, int_case, list_with_tail_case, pair_step, tuple_step, constr_step, list_step}
use Rattle.spec_rules.specs.TreeReader.{nodes, cases, node_kind, node_tail_cases, node_cases, NodeKind, Switch, List_switch, Leaf, Hoist_node, Unknown_node, node_kind_of, node_path, node_first_case, node_default, case_kind, case_number, case_length, CaseKind, Constr_case, Int_case, Bytes_case, List_case, List_with_tail_case, Unknown_case, case_kind_of, test_of_kind, case_text, case_test, case_child, step_of_fields, step_at, steps_from, path_at}
use Rattle.spec_rules.specs.Listing.{tree_word, refused_word, true_flag, false_flag, switch_word, else_word, pair_step_word, tuple_step_word, constr_step_word, list_step_word, listtail_step_word, decimal, flag_text, step_text, more_steps, path_text, test_text, cases_text, bindings_text, default_text, switch_text, node_text, node_lines, first_line, listing, refused_line}
use Rattle.spec_accepted.specs.KindsLaws.{node_byte, unknown_node, case_byte, unknown_case}
use Rattle.format_tree.specs.declared.layout.TreeMap.{TreeMap}
use Rattle.format_records.specs.declared.reading.Test.{Test}
use Rattle.format_tree.specs.declared.reading.Node.{Node}
use Rattle.format_records.specs.declared.reading.Step.{Step}
use Rattle.format_records.specs.declared.reading.Path.{Path}
use Rattle.format_records.specs.declared.reading.Case.{Case}
use Rattle.format_records.specs.declared.reading.Binding.{Binding}
use Rattle.spec_accepted.specs.TreeFacts.{steps_from_some}
use Rattle.format_records.specs.Records.{test_from}
use Rattle.format_tree.specs.Reading.{Mapped, Ruled, step_of, path_of, binding_of, case_of, node_of_fields, node_of}
use Rattle.format_tree.specs.ReadingLaws.{nodes_count, cases_count, bindings_count, paths_count, steps_count, pool_start, pool_count}
use Rattle.app_listing.specs.Records.{case_line, binding_line, node_line, text_test, test_read, TestInside, switch_read, node_read, NodeInside}

-- ---- runs of records
-- the texts of n records from i on; j of them are written
pub run_start : (text : ℕ → ℕ → List ℕ) (i n : ℕ) → text (i + 0) (n - 0) ≡ text i n
run_start text i n = rw (add-zero, sub-zero)

module _ (text : ℕ → ℕ → List ℕ) (line : ℕ → List ℕ) (i n j : ℕ) where
  run_next : ((k m : ℕ) → text k (suc m) ≡ line k ++ text (k + 1) m) → j < n → text (i + j) (n - j) ≡ line (i + j) ++ text (i + (j + 1)) (n - (j + 1))
  run_next opened h =
      let e : n - j ≡ suc (n - (j + 1)) = omega arith in
      let f : i + (j + 1) ≡ i + j + 1 = omega arith in
      rw (e, f) (opened (i + j) (n - (j + 1)))

  run_none : ((k : ℕ) → text k 0 ≡ []) → n ≤ j → text (i + j) (n - j) ≡ []
  run_none empty h =
      let e : n - j ≡ 0 = omega arith in
      rw e (empty (i + j))

module _ (t : List ℕ) (i n j : ℕ) where
  pub cases_next : j < n → cases_text t (i + j) (n - j) ≡ case_line t (i + j) ++ cases_text t (i + (j + 1)) (n - (j + 1))
  unfolding cases_text case_line
  cases_next = run_next (cases_text t) (case_line t) i n j (λ k m. simp append_assoc)

  pub cases_none : n ≤ j → cases_text t (i + j) (n - j) ≡ []
  unfolding cases_text
  cases_none = run_none (cases_text t) (case_line t) i n j (λ k. refl)

  pub bindings_next : j < n → bindings_text t (i + j) (n - j) ≡ binding_line t (i + j) ++ bindings_text t (i + (j + 1)) (n - (j + 1))
  unfolding bindings_text binding_line
  bindings_next = run_next (bindings_text t) (binding_line t) i n j (λ k m. simp append_assoc)

  pub bindings_none : n ≤ j → bindings_text t (i + j) (n - j) ≡ []
  unfolding bindings_text
  bindings_none = run_none (bindings_text t) (binding_line t) i n j (λ k. refl)

  pub steps_next : j < n → more_steps (steps_from t (i + j) (n - j))
      ≡ (46 ∷ step_text (step_at t (i + j))) ++ more_steps (steps_from t (i + (j + 1)) (n - (j + 1)))
  unfolding more_steps steps_from
  steps_next = run_next (λ k m. more_steps (steps_from t k m)) (λ k. 46 ∷ step_text (step_at t k)) i n j (λ k m. refl)

  pub steps_none : n ≤ j → more_steps (steps_from t (i + j) (n - j)) ≡ []
  unfolding more_steps steps_from
  steps_none = run_none (λ k m. more_steps (steps_from t k m)) (λ k. 46 ∷ step_text (step_at t k)) i n j (λ k. refl)

-- the lines of the nodes from k on, of n in all
module _ (t : List ℕ) (n k : ℕ) where
  pub lines_next : k < n → node_lines t k (n - k) ≡ node_line t k ++ node_lines t (k + 1) (n - (k + 1))
  unfolding node_lines node_line
  lines_next h = simp zero-add at (run_next (node_lines t) (node_line t) 0 n k (λ k m. simp append_assoc) h)

  pub lines_none : n ≤ k → node_lines t k (n - k) ≡ []
  unfolding node_lines
  lines_none h = simp zero-add at (run_none (node_lines t) (node_line t) 0 n k (λ k. refl) h)

pub lines_start : (t : List ℕ) (n : ℕ) → node_lines t 0 (n - 0) ≡ node_lines t 0 n
lines_start t n = rw sub-zero

-- ---- the first line, and the line of a refused sheet
pub listing_is : {t : List ℕ} {m : TreeMap} → Mapped t m
    → (tree_word ++ (32 ∷ (decimal m.nodes.count ++ (32 ∷ (decimal m.bindings.count ++ 10 ∷ []))))) ++ node_lines t 0 m.nodes.count ≡ listing t
unfolding listing first_line
listing_is {t} {m} mapped = ap₂ (λ (n : ℕ) (b : ℕ). (tree_word ++ (32 ∷ (decimal n ++ (32 ∷ (decimal b ++ 10 ∷ []))))) ++ node_lines t 0 n) (sym (nodes_count mapped)) (sym (bindings_count mapped))

pub refused_line_is : (number place : ℕ) → refused_word ++ (32 ∷ (decimal number ++ (32 ∷ (decimal place ++ 10 ∷ [])))) ≡ refused_line number place
unfolding refused_line
refused_line_is number place = refl

-- ---- a step that was read
module _ (t : List ℕ) (i : ℕ) (s : Step) (is : s ≡ step_of t i) where
  step_is : step_text (step_of_fields s.kind s.flag s.index s.of) ≡ step_text (step_at t i)
  unfolding step_at
  step_is = rw is

  pub step_pair : s.kind ≡ pair_step → pair_step_word ++ decimal s.index ≡ step_text (step_at t i)
  unfolding step_text step_of_fields
  step_pair e = rw e at step_is

  pub step_tuple : s.kind ≡ tuple_step → tuple_step_word ++ decimal s.index ≡ step_text (step_at t i)
  unfolding step_text step_of_fields
  step_tuple e = rw e at step_is

  pub step_constr : s.kind ≡ constr_step → constr_step_word ++ (decimal s.index ++ flag_text (eqb s.flag 1)) ≡ step_text (step_at t i)
  unfolding step_text step_of_fields
  step_constr e = rw e at step_is

  pub step_list : s.kind ≡ list_step → list_step_word ++ decimal s.index ≡ step_text (step_at t i)
  unfolding step_text step_of_fields
  step_list e = rw e at step_is

  pub step_listtail : (s.kind ≡ pair_step → ⊥) → (s.kind ≡ tuple_step → ⊥) → (s.kind ≡ constr_step → ⊥) → (s.kind ≡ list_step → ⊥) → listtail_step_word ++ decimal s.index ≡ step_text (step_at t i)
  unfolding step_text step_of_fields
  step_listtail a b c d = rw (ne_eqb _ _ a, ne_eqb _ _ b, ne_eqb _ _ c, ne_eqb _ _ d) at step_is

pub constr_flag : (flag : ℕ) → flag ≡ 1 → true_flag ≡ flag_text (eqb flag 1)
unfolding flag_text
constr_flag flag e = rw e

pub constr_no_flag : (flag : ℕ) → (flag ≡ 1 → ⊥) → false_flag ≡ flag_text (eqb flag 1)
unfolding flag_text
constr_no_flag flag h = rw (ne_eqb flag 1 h)

-- ---- a path that was read
module _ (t : List ℕ) (p : ℕ) (x : Path) (is : x ≡ path_of t p) where
  path_is : path_text (steps_from t x.first x.count) ≡ path_text (path_at t p)
  unfolding path_at
  path_is = rw is

  pub path_none : x.count ≡ 0 → 46 ∷ [] ≡ path_text (path_at t p)
  unfolding path_text steps_from
  path_none e = rw e at path_is

  pub path_some : (x.count ≡ 0 → ⊥) → step_text (step_at t x.first) ++ more_steps (steps_from t (x.first + 1) (x.count - 1)) ≡ path_text (path_at t p)
  unfolding path_text
  path_some h = ap path_text (sym (steps_from_some t x.first x.count h)) ∙ path_is

  pub path_inside : {m : TreeMap} → Ruled t m → p < m.paths.count → x.first + x.count ≤ m.steps.count
  path_inside {m} ruled h =
      rw is
      (omega (arith, (ruled.rules.path_steps p (omega (arith, paths_count ruled.mapped))).inside, steps_count ruled.mapped))

-- ---- a default that was read
pub default_none : (d : ℕ) → d ≡ 0 → [] ≡ default_text d
unfolding default_text
default_none d e = rw e

pub default_some : (d : ℕ) → (d ≡ 0 → ⊥) → 32 ∷ (else_word ++ (32 ∷ decimal (d - 1))) ≡ default_text d
unfolding default_text
default_some d h =
    let e : d ≡ suc (d - 1) = omega arith in
    opened (d - 1) ∙ ap default_text (sym e)
  where
    opened : (k : ℕ) → 32 ∷ (else_word ++ (32 ∷ decimal k)) ≡ default_text (suc k)
    opened k = refl

-- ---- a text of the pool
module _ {t : List ℕ} {m : TreeMap} (mapped : Mapped t m) (start count : ℕ) where
  pub text_inside : start + count ≤ m.pool.count → m.pool.start + start + count ≤ length t
  text_inside h = omega (arith, mapped.pool_end_holds)

  pub text_read : (kind : ℕ)
      → text_test (eqb kind int_case) (text_at t (m.pool.start + start) (m.pool.start + start + count - (m.pool.start + start))) ≡ test_read t (Test.Text kind start count)
  text_read kind =
      let e : m.pool.start + start + count - (m.pool.start + start) ≡ count = omega arith in
      rw (e, pool_start mapped)

-- ---- a case that was read
module _ {t : List ℕ} {m : TreeMap} (ruled : Ruled t m) (i : ℕ) (h : i < m.cases.count) where
  in_cases : i < cases t
  in_cases = omega (arith, cases_count ruled.mapped)

  case_kind_known : case_kind t i ≤ list_with_tail_case
  case_kind_known = ruled.rules.case_kind_holds i in_cases

  case_read_of : (kind : CaseKind) → case_kind_of (case_kind t i) ≡ kind → test_read t (test_from kind (case_number t i) (case_length t i)) ≡ test_text (test_of_kind t i kind)
  unfolding test_from test_text test_of_kind case_text
  case_read_of Constr_case e = refl
  case_read_of Int_case e = refl
  case_read_of Bytes_case e = refl
  case_read_of List_case e = refl
  case_read_of List_with_tail_case e = refl
  case_read_of Unknown_case e = absurd (omega (arith, case_kind_known, unknown_case (case_kind t i) e))

  case_inside_of : (kind : CaseKind) → case_kind_of (case_kind t i) ≡ kind → TestInside m (test_from kind (case_number t i) (case_length t i))
  unfolding test_from
  case_inside_of Constr_case e = tt
  case_inside_of Int_case e =
      let k = case_byte (case_kind t i) Int_case e (omega arith) in
      omega (arith, (ruled.rules.case_text i in_cases (omega arith) (omega arith)).inside, pool_count ruled.mapped)
  case_inside_of Bytes_case e =
      let k = case_byte (case_kind t i) Bytes_case e (omega arith) in
      omega (arith, (ruled.rules.case_text i in_cases (omega arith) (omega arith)).inside, pool_count ruled.mapped)
  case_inside_of List_case e = tt
  case_inside_of List_with_tail_case e = tt
  case_inside_of Unknown_case e = tt

  case_read : test_read t (case_of t i).test ≡ test_text (case_test t i)
  unfolding case_of case_test
  case_read = case_read_of (case_kind_of (case_kind t i)) refl

  -- as the code has it
  module _ (x : Case) (is : x ≡ case_of t i) where
    pub case_inside : TestInside m x.test
    unfolding case_of
    case_inside = rw is (case_inside_of (case_kind_of (case_kind t i)) refl)

    pub case_line_lem : 32 ∷ (test_read t x.test ++ (58 ∷ decimal x.child)) ≡ case_line t i
    unfolding case_line case_of
    case_line_lem = rw is (ap (λ (l : List ℕ). 32 ∷ (l ++ (58 ∷ decimal (case_child t i)))) case_read)

-- ---- a node that was read
module _ {t : List ℕ} {m : TreeMap} (ruled : Ruled t m) (k : ℕ) (h : k < m.nodes.count) where
  in_nodes : k < nodes t
  in_nodes = omega (arith, nodes_count ruled.mapped)

  pub node_kind_known : node_kind t k ≤ hoist_node
  node_kind_known = ruled.rules.node_kind_holds k in_nodes

  node_read_of : (kind : NodeKind) → node_kind_of (node_kind t k) ≡ kind → node_read t (node_of_fields t k kind) ≡ node_text t k kind
  unfolding node_of_fields node_text switch_text
  node_read_of Switch e =
      let b = node_byte (node_kind t k) Switch e (omega arith) in
      let none : node_cases t k ≡ node_cases t k + node_tail_cases t k = omega (arith, ruled.rules.switch_no_tails k in_nodes b) in
      ap (λ (n : ℕ). switch_word ++ switch_read t (node_path t k) (node_first_case t k) n (node_default t k)) none
  node_read_of List_switch e = refl
  node_read_of Leaf e = refl
  node_read_of Hoist_node e = refl
  node_read_of Unknown_node e = absurd (omega (arith, node_kind_known, unknown_node (node_kind t k) e))

  node_inside_of : (kind : NodeKind) → node_kind_of (node_kind t k) ≡ kind → NodeInside m (node_of_fields t k kind)
  unfolding node_of_fields
  node_inside_of Switch e =
      let b = node_byte (node_kind t k) Switch e (omega arith) in (
        omega (arith, ruled.rules.switch_path k in_nodes (omega arith), paths_count ruled.mapped),
        omega (arith, (ruled.rules.switch_run k in_nodes (omega arith)).inside, cases_count ruled.mapped),
      )
  node_inside_of List_switch e =
      let b = node_byte (node_kind t k) List_switch e (omega arith) in (
        omega (arith, ruled.rules.switch_path k in_nodes (omega arith), paths_count ruled.mapped),
        omega (arith, (ruled.rules.switch_run k in_nodes (omega arith)).inside, cases_count ruled.mapped),
      )
  node_inside_of Leaf e =
      let b = node_byte (node_kind t k) Leaf e (omega arith) in
      omega (arith, (ruled.rules.bindings_run k in_nodes (omega arith)).inside, bindings_count ruled.mapped)
  node_inside_of Hoist_node e =
      let b = node_byte (node_kind t k) Hoist_node e (omega arith) in
      omega (arith, (ruled.rules.bindings_run k in_nodes (omega arith)).inside, bindings_count ruled.mapped)
  node_inside_of Unknown_node e = absurd (omega (arith, node_kind_known, unknown_node (node_kind t k) e))

  -- as the code has it
  module _ (x : Node) (is : x ≡ node_of t k) where
    pub node_inside : NodeInside m x
    unfolding node_of
    node_inside = rw is (node_inside_of (node_kind_of (node_kind t k)) refl)

    pub node_line_lem : decimal k ++ (32 ∷ (node_read t x ++ 10 ∷ [])) ≡ node_line t k
    unfolding node_line node_of
    node_line_lem = rw is (ap (λ (l : List ℕ). decimal k ++ (32 ∷ (l ++ 10 ∷ []))) (node_read_of (node_kind_of (node_kind t k)) refl))

-- ---- a binding that was read
module _ (t : List ℕ) (b : ℕ) (x : Binding) (is : x ≡ binding_of t b) where
  pub binding_line_lem : 32 ∷ 110 ∷ (decimal x.name ++ (61 ∷ path_text (path_at t x.path))) ≡ binding_line t b
  unfolding binding_line
  binding_line_lem = rw is

  pub binding_inside : {m : TreeMap} → Ruled t m → b < m.bindings.count → x.path < m.paths.count
  binding_inside {m} ruled h =
      rw is
      (omega (arith, ruled.rules.binding_path_holds b (omega (arith, bindings_count ruled.mapped)), paths_count ruled.mapped))
