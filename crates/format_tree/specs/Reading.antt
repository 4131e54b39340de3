-- What the reader answers: the map of a file's sections, and its records as the code has them.
-- Each is the field of the same name in the rules' definitions of the tree file.
use Rattle.std.specs.Prelude.{ℕ, ◌+◌, ◌*◌, ◌≤◌, ◌≡◌, Bool, List, length}
use Rattle.base_words.specs.Words.{both}
use Rattle.spec_rules.specs.Limits.{node_size, case_size, binding_size, path_size, step_size, tree_trailer}
use Rattle.spec_rules.specs.Searching.{every}
use Rattle.spec_rules.specs.TreeReader.{tree_nodes_at, tree_cases_at, tree_bindings_at, tree_paths_at, tree_steps_at, tree_pool_at, nodes, cases, bindings, paths, steps, tree_pool_size, node_kind, node_path, node_first_case, node_cases, node_tail_cases, node_default, node_clause, node_first_binding, node_bindings, node_child, NodeKind, Switch, List_switch, Leaf, Hoist_node, Unknown_node, node_kind_of, case_kind, case_number, case_length, case_child, case_kind_of, binding_name, binding_path, path_first, path_count, step_kind, step_flag, step_index_at, step_type, node_keeps_rules, case_keeps_rules, binding_keeps_rules, path_keeps_rules, step_keeps_rules}
use Rattle.spec_accepted.specs.TreeFacts.{TreeRuled}
use Rattle.format_records.specs.declared.reading.Test.{Test}
use Rattle.format_records.specs.declared.reading.Case.{Case}
use Rattle.format_records.specs.declared.reading.Binding.{Binding}
use Rattle.format_records.specs.declared.reading.Path.{Path}
use Rattle.format_records.specs.declared.reading.Step.{Step}
use Rattle.format_records.specs.Records.{test_from}
use Rattle.format_tree.specs.declared.layout.TreeMap.{TreeMap}
use Rattle.format_tree.specs.declared.reading.Node.{Node}

abbrev pub map_of : List ℕ → TreeMap
map_of t = record {
  nodes = record { start = tree_nodes_at t; count = nodes t };
  cases = record { start = tree_cases_at t; count = cases t };
  bindings = record { start = tree_bindings_at t; count = bindings t };
  paths = record { start = tree_paths_at t; count = paths t };
  steps = record { start = tree_steps_at t; count = steps t };
  pool = record { start = tree_pool_at t; count = tree_pool_size t };
}

-- a section lies in the file: what reading a record of it asks
abbrev pub BindingsLie : List ℕ → Type 0
BindingsLie t = tree_bindings_at t + binding_size * bindings t ≤ length t

abbrev pub PathsLie : List ℕ → Type 0
PathsLie t = tree_paths_at t + path_size * paths t ≤ length t

abbrev pub StepsLie : List ℕ → Type 0
StepsLie t = tree_steps_at t + step_size * steps t ≤ length t

-- m is the map of a file whose starts rise by whole records: the sections lie back to back, the first from 0 on
pub record Mapped (t : List ℕ) (m : TreeMap) : Type 0 where
  pub is : m ≡ map_of t
  pub from_zero : m.nodes.start ≡ 0
  pub nodes_end : node_size * m.nodes.count ≡ m.cases.start
  pub cases_end : m.cases.start + case_size * m.cases.count ≡ m.bindings.start
  pub bindings_end : m.bindings.start + binding_size * m.bindings.count ≡ m.paths.start
  pub paths_end : m.paths.start + path_size * m.paths.count ≡ m.steps.start
  pub steps_end : m.steps.start + step_size * m.steps.count ≡ m.pool.start
  pub pool_end_holds : m.pool.start + m.pool.count + tree_trailer ≡ length t
  pub short : length t ≤ 65535

-- a mapped file whose records keep the rules
pub record Ruled (t : List ℕ) (m : TreeMap) : Type 0 where
  pub mapped : Mapped t m
  pub rules : TreeRuled t

-- the test of case i
unfoldable pub test_of : List ℕ → ℕ → Test
unfolding test_from
test_of t i = test_from (case_kind_of (case_kind t i)) (case_number t i) (case_length t i)

unfoldable pub case_of : List ℕ → ℕ → Case
unfolding test_of
case_of t i = record { test = test_of t i; child = case_child t i }

unfoldable pub node_of_fields : List ℕ → ℕ → NodeKind → Node
node_of_fields t k Switch = Node.Switch (node_path t k) (node_first_case t k) (node_cases t k) (node_default t k) (test_of t (node_first_case t k))
node_of_fields t k List_switch = Node.ListSwitch (node_path t k) (node_first_case t k) (node_cases t k) (node_tail_cases t k) (node_default t k)
node_of_fields t k Leaf = Node.Leaf (node_clause t k) (node_first_binding t k) (node_bindings t k)
node_of_fields t k Hoist_node = Node.Hoist (node_clause t k) (node_first_binding t k) (node_bindings t k) (node_child t k)
node_of_fields t k Unknown_node = Node.Hoist (node_clause t k) (node_first_binding t k) (node_bindings t k) (node_child t k)

unfoldable pub node_of : List ℕ → ℕ → Node
unfolding node_of_fields
node_of t k = node_of_fields t k (node_kind_of (node_kind t k))

abbrev pub binding_of : List ℕ → ℕ → Binding
binding_of t b = record { name = binding_name t b; path = binding_path t b }

abbrev pub path_of : List ℕ → ℕ → Path
path_of t p = record { first = path_first t p; count = path_count t p }

abbrev pub step_of : List ℕ → ℕ → Step
step_of t i = record { kind = step_kind t i; flag = step_flag t i; index = step_index_at t i; of = step_type t i }

-- the rules of records, all of them
unfoldable pub records_keep_rules : List ℕ → Bool
records_keep_rules t =
    both (every (node_keeps_rules t) 0 (nodes t))
    (both (every (case_keeps_rules t) 0 (cases t))
    (both (every (binding_keeps_rules t) 0 (bindings t))
    (both (every (path_keeps_rules t) 0 (paths t))
    (every (step_keeps_rules t) 0 (steps t)))))
