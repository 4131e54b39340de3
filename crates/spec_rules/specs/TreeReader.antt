-- 01, "The tree file": the fields of a tree file, what "A reader asks, else 31", and the tree that a file stands for.
-- A tree file is the list of its bytes; a field that is not there reads 0.
use Rattle.std.specs.Prelude.{ℕ, zero, suc, ◌+◌, ◌-◌, ◌*◌, ◌/◌, Bool, true, false, List, [], ◌∷◌, ◌++◌, length, get_or, eqb, leb, ltb}
use Rattle.base_words.specs.Words.{word_at, text_at, both, either, pick}
use Rattle.spec_rules.specs.Limits.{node_size, case_size, binding_size, path_size, step_size, tree_trailer, node_bindings_most}
use Rattle.spec_rules.specs.Kinds.{switch_node, list_switch_node, leaf_node, hoist_node, path_word, first_case_word, cases_word, tail_cases_word, default_word, clause_word, first_binding_word, bindings_word, child_word, constr_case, int_case, bytes_case, list_case, list_with_tail_case, pair_step, tuple_step, constr_step, list_step, listtail_step}
use Rattle.spec_rules.specs.Searching.{every}
use Rattle.spec_rules.specs.SheetFile.{run_in}
use Rattle.spec_rules.specs.SheetRefusals.{whole_records, whole_between}
use Rattle.spec_rules.specs.Rows.{Step, pair, tuple, constr, list, listtail, Path, Binding}
use Rattle.spec_rules.specs.Splitting.{Test, Constr, Int, Bytes, ListOf, ListWithTail}
use Rattle.spec_rules.specs.Building.{Tree, Cases, absent, leaf, hoist, switch, listswitch, cnil, ccons}

-- ---- sections: nodes, cases, bindings, paths, steps, pool
unfoldable pub tree_start : List ℕ → ℕ → ℕ
unfolding word_at
tree_start t k = word_at t (length t - tree_trailer + 2 * k)

unfoldable pub tree_length : List ℕ → ℕ
unfolding word_at
tree_length t = word_at t (length t - 2)

unfoldable pub tree_nodes_at : List ℕ → ℕ
unfolding tree_start
tree_nodes_at t = tree_start t 0

unfoldable pub tree_cases_at : List ℕ → ℕ
unfolding tree_start
tree_cases_at t = tree_start t 1

unfoldable pub tree_bindings_at : List ℕ → ℕ
unfolding tree_start
tree_bindings_at t = tree_start t 2

unfoldable pub tree_paths_at : List ℕ → ℕ
unfolding tree_start
tree_paths_at t = tree_start t 3

unfoldable pub tree_steps_at : List ℕ → ℕ
unfolding tree_start
tree_steps_at t = tree_start t 4

unfoldable pub tree_pool_at : List ℕ → ℕ
unfolding tree_start
tree_pool_at t = tree_start t 5

unfoldable pub tree_pool_end : List ℕ → ℕ
tree_pool_end t = length t - tree_trailer

-- in this order: the sizes of their records (of the pool, of a byte), and where they start; the last ends where the trailer starts
abbrev pub tree_sizes : List ℕ
tree_sizes = node_size ∷ case_size ∷ binding_size ∷ path_size ∷ step_size ∷ 1 ∷ []

abbrev pub tree_places : List ℕ → List ℕ
tree_places t = tree_nodes_at t ∷ tree_cases_at t ∷ tree_bindings_at t ∷ tree_paths_at t ∷ tree_steps_at t ∷ tree_pool_at t ∷ tree_pool_end t ∷ []

unfoldable pub nodes : List ℕ → ℕ
unfolding tree_nodes_at tree_cases_at
nodes t = (tree_cases_at t - tree_nodes_at t) / node_size

unfoldable pub cases : List ℕ → ℕ
unfolding tree_cases_at tree_bindings_at
cases t = (tree_bindings_at t - tree_cases_at t) / case_size

unfoldable pub bindings : List ℕ → ℕ
unfolding tree_bindings_at tree_paths_at
bindings t = (tree_paths_at t - tree_bindings_at t) / binding_size

unfoldable pub paths : List ℕ → ℕ
unfolding tree_paths_at tree_steps_at
paths t = (tree_steps_at t - tree_paths_at t) / path_size

unfoldable pub steps : List ℕ → ℕ
unfolding tree_steps_at tree_pool_at
steps t = (tree_pool_at t - tree_steps_at t) / step_size

unfoldable pub tree_pool_size : List ℕ → ℕ
unfolding tree_pool_at tree_pool_end
tree_pool_size t = tree_pool_end t - tree_pool_at t

-- ---- fields of records
-- "Nodes .., 12 bytes: kind byte, zero byte, five u16"; the five are numbered from 0
unfoldable pub node_kind : List ℕ → ℕ → ℕ
unfolding tree_nodes_at
node_kind t k = get_or t (tree_nodes_at t + node_size * k) 0

unfoldable pub node_zero : List ℕ → ℕ → ℕ
unfolding tree_nodes_at
node_zero t k = get_or t (tree_nodes_at t + node_size * k + 1) 0

unfoldable pub node_word : List ℕ → ℕ → ℕ → ℕ
unfolding tree_nodes_at word_at
node_word t k i = word_at t (tree_nodes_at t + node_size * k + 2 + 2 * i)

-- "0 switch and 1 list switch: path, first case, cases, tail cases, default node + 1 or 0"
unfoldable pub node_path : List ℕ → ℕ → ℕ
unfolding node_word
node_path t k = node_word t k path_word

unfoldable pub node_first_case : List ℕ → ℕ → ℕ
unfolding node_word
node_first_case t k = node_word t k first_case_word

unfoldable pub node_cases : List ℕ → ℕ → ℕ
unfolding node_word
node_cases t k = node_word t k cases_word

unfoldable pub node_tail_cases : List ℕ → ℕ → ℕ
unfolding node_word
node_tail_cases t k = node_word t k tail_cases_word

unfoldable pub node_default : List ℕ → ℕ → ℕ
unfolding node_word
node_default t k = node_word t k default_word

-- "2 leaf: clause, first binding, count. 3 hoist: clause, first binding, count, child"
unfoldable pub node_clause : List ℕ → ℕ → ℕ
unfolding node_word
node_clause t k = node_word t k clause_word

unfoldable pub node_first_binding : List ℕ → ℕ → ℕ
unfolding node_word
node_first_binding t k = node_word t k first_binding_word

unfoldable pub node_bindings : List ℕ → ℕ → ℕ
unfolding node_word
node_bindings t k = node_word t k bindings_word

unfoldable pub node_child : List ℕ → ℕ → ℕ
unfolding node_word
node_child t k = node_word t k child_word

-- "Cases, 8 bytes: kind .., zero byte, number or text start, text length, child"
unfoldable pub case_kind : List ℕ → ℕ → ℕ
unfolding tree_cases_at
case_kind t i = get_or t (tree_cases_at t + case_size * i) 0

unfoldable pub case_zero : List ℕ → ℕ → ℕ
unfolding tree_cases_at
case_zero t i = get_or t (tree_cases_at t + case_size * i + 1) 0

unfoldable pub case_number : List ℕ → ℕ → ℕ
unfolding tree_cases_at word_at
case_number t i = word_at t (tree_cases_at t + case_size * i + 2)

unfoldable pub case_length : List ℕ → ℕ → ℕ
unfolding tree_cases_at word_at
case_length t i = word_at t (tree_cases_at t + case_size * i + 4)

unfoldable pub case_child : List ℕ → ℕ → ℕ
unfolding tree_cases_at word_at
case_child t i = word_at t (tree_cases_at t + case_size * i + 6)

-- "Bindings: name, path. Paths: first step, count"
unfoldable pub binding_name : List ℕ → ℕ → ℕ
unfolding tree_bindings_at word_at
binding_name t b = word_at t (tree_bindings_at t + binding_size * b)

unfoldable pub binding_path : List ℕ → ℕ → ℕ
unfolding tree_bindings_at word_at
binding_path t b = word_at t (tree_bindings_at t + binding_size * b + 2)

unfoldable pub path_first : List ℕ → ℕ → ℕ
unfolding tree_paths_at word_at
path_first t p = word_at t (tree_paths_at t + path_size * p)

unfoldable pub path_count : List ℕ → ℕ → ℕ
unfolding tree_paths_at word_at
path_count t p = word_at t (tree_paths_at t + path_size * p + 2)

-- "Steps, 6 bytes: kind ..; flag; index; type of the part stepped from"
unfoldable pub step_kind : List ℕ → ℕ → ℕ
unfolding tree_steps_at
step_kind t i = get_or t (tree_steps_at t + step_size * i) 0

unfoldable pub step_flag : List ℕ → ℕ → ℕ
unfolding tree_steps_at
step_flag t i = get_or t (tree_steps_at t + step_size * i + 1) 0

unfoldable pub step_index_at : List ℕ → ℕ → ℕ
unfolding tree_steps_at word_at
step_index_at t i = word_at t (tree_steps_at t + step_size * i + 2)

unfoldable pub step_type : List ℕ → ℕ → ℕ
unfolding tree_steps_at word_at
step_type t i = word_at t (tree_steps_at t + step_size * i + 4)

-- ---- "A reader asks, else 31"
-- "the length true"
unfoldable pub length_true : List ℕ → Bool
unfolding tree_length
length_true t = both (leb tree_trailer (length t)) (eqb (tree_length t) (length t))

-- "starts rising from 0, whole records"
unfoldable pub starts_rise : List ℕ → Bool
unfolding tree_nodes_at tree_cases_at tree_bindings_at tree_paths_at tree_steps_at tree_pool_at tree_pool_end whole_records
starts_rise t = both (eqb (tree_nodes_at t) 0) (whole_between tree_sizes (tree_places t))

-- a switch's and a list switch's path, run of cases and default: "parts inside their sections", "first 0 at count 0 (a switch's
-- count is cases plus tail cases)"
unfoldable pub switch_parts : List ℕ → ℕ → Bool
unfolding nodes cases paths node_path node_first_case node_cases node_tail_cases node_default run_in
switch_parts t k =
    both (ltb (node_path t k) (paths t))
    (both (run_in (node_first_case t k) (node_cases t k + node_tail_cases t k) (cases t))
    (leb (node_default t k) (nodes t)))

unfoldable pub is_kind : List ℕ → ℕ → ℕ → Bool
unfolding case_kind
is_kind t kind i = eqb (case_kind t i) kind

-- "a switch with a case, no tail cases, kinds 0 to 2 all alike"
unfoldable pub switch_cases : List ℕ → ℕ → Bool
unfolding every case_kind is_kind node_first_case node_cases node_tail_cases
switch_cases t k =
    both (leb 1 (node_cases t k))
    (both (eqb (node_tail_cases t k) 0)
    (both (leb (case_kind t (node_first_case t k)) bytes_case)
    (every (is_kind t (case_kind t (node_first_case t k))) (node_first_case t k) (node_cases t k))))

-- "a list switch with one of either, kind 3 in cases, 4 in tail cases"
unfoldable pub list_switch_cases : List ℕ → ℕ → Bool
unfolding every is_kind node_first_case node_cases node_tail_cases
list_switch_cases t k =
    both (leb 1 (node_cases t k + node_tail_cases t k))
    (both (every (is_kind t list_case) (node_first_case t k) (node_cases t k))
    (every (is_kind t list_with_tail_case) (node_first_case t k + node_cases t k) (node_tail_cases t k)))

-- a leaf's and a hoist's bindings: "parts inside their sections", "at most 192 bindings a node"
unfoldable pub binding_parts : List ℕ → ℕ → Bool
unfolding bindings node_first_binding node_bindings run_in
binding_parts t k = both (leb (node_bindings t k) node_bindings_most) (run_in (node_first_binding t k) (node_bindings t k) (bindings t))

pub data NodeKind : Type 0 where
  Switch List_switch Leaf Hoist_node Unknown_node : NodeKind

unfoldable pub node_kind_of : ℕ → NodeKind
node_kind_of k =
    pick (eqb k switch_node) Switch
    (pick (eqb k list_switch_node) List_switch
    (pick (eqb k leaf_node) Leaf
    (pick (eqb k hoist_node) Hoist_node
    Unknown_node)))

-- "known kinds, zero bytes and unused fields 0"
unfoldable pub node_of_kind : List ℕ → ℕ → NodeKind → Bool
unfolding nodes node_word node_child switch_parts switch_cases list_switch_cases binding_parts
node_of_kind t k Switch = both (switch_parts t k) (switch_cases t k)
node_of_kind t k List_switch = both (switch_parts t k) (list_switch_cases t k)
node_of_kind t k Leaf = both (binding_parts t k) (both (eqb (node_word t k child_word) 0) (eqb (node_word t k default_word) 0))
node_of_kind t k Hoist_node = both (binding_parts t k) (both (ltb (node_child t k) (nodes t)) (eqb (node_word t k default_word) 0))
node_of_kind t k Unknown_node = false

unfoldable pub node_keeps_rules : List ℕ → ℕ → Bool
unfolding node_kind node_zero node_kind_of node_of_kind
node_keeps_rules t k = both (eqb (node_zero t k) 0) (node_of_kind t k (node_kind_of (node_kind t k)))

pub data CaseKind : Type 0 where
  Constr_case Int_case Bytes_case List_case List_with_tail_case Unknown_case : CaseKind

unfoldable pub case_kind_of : ℕ → CaseKind
case_kind_of k =
    pick (eqb k constr_case) Constr_case
    (pick (eqb k int_case) Int_case
    (pick (eqb k bytes_case) Bytes_case
    (pick (eqb k list_case) List_case
    (pick (eqb k list_with_tail_case) List_with_tail_case
    Unknown_case))))

unfoldable pub case_of_kind : List ℕ → ℕ → CaseKind → Bool
unfolding tree_pool_size case_number case_length run_in
case_of_kind t i Constr_case = eqb (case_length t i) 0
case_of_kind t i Int_case = run_in (case_number t i) (case_length t i) (tree_pool_size t)
case_of_kind t i Bytes_case = run_in (case_number t i) (case_length t i) (tree_pool_size t)
case_of_kind t i List_case = eqb (case_length t i) 0
case_of_kind t i List_with_tail_case = eqb (case_length t i) 0
case_of_kind t i Unknown_case = false

unfoldable pub case_keeps_rules : List ℕ → ℕ → Bool
unfolding nodes case_kind case_zero case_child case_kind_of case_of_kind
case_keeps_rules t i = both (eqb (case_zero t i) 0) (both (case_of_kind t i (case_kind_of (case_kind t i))) (ltb (case_child t i) (nodes t)))

unfoldable pub binding_keeps_rules : List ℕ → ℕ → Bool
unfolding paths binding_path
binding_keeps_rules t b = ltb (binding_path t b) (paths t)

unfoldable pub path_keeps_rules : List ℕ → ℕ → Bool
unfolding steps path_first path_count run_in
path_keeps_rules t p = run_in (path_first t p) (path_count t p) (steps t)

-- "flag 1 at constr only"
unfoldable pub step_keeps_rules : List ℕ → ℕ → Bool
unfolding step_kind step_flag
step_keeps_rules t i = both (leb (step_kind t i) listtail_step) (either (eqb (step_flag t i) 0) (both (eqb (step_flag t i) 1) (eqb (step_kind t i) constr_step)))

-- "node 0 there, each other node a child exactly once, in pre-order"; the order is the writer's, "(hoist before its child; cases, tail
-- cases, default)"
-- the children of the n cases from i on; of a default field; of a node, in order
unfoldable pub case_children : List ℕ → ℕ → ℕ → List ℕ
unfolding case_child
case_children t i zero = []
case_children t i (suc n) = case_child t i ∷ case_children t (i + 1) n

unfoldable pub default_child : ℕ → List ℕ
default_child zero = []
default_child (suc k) = k ∷ []

unfoldable pub children_of_kind : List ℕ → ℕ → NodeKind → List ℕ
unfolding node_first_case node_cases node_tail_cases node_default node_child case_children default_child
children_of_kind t k Switch = case_children t (node_first_case t k) (node_cases t k + node_tail_cases t k) ++ default_child (node_default t k)
children_of_kind t k List_switch = case_children t (node_first_case t k) (node_cases t k + node_tail_cases t k) ++ default_child (node_default t k)
children_of_kind t k Leaf = []
children_of_kind t k Hoist_node = node_child t k ∷ []
children_of_kind t k Unknown_node = []

unfoldable pub node_children : List ℕ → ℕ → List ℕ
unfolding node_kind node_kind_of children_of_kind
node_children t k = children_of_kind t k (node_kind_of (node_kind t k))

-- Reading the n nodes from k on, while `awaited` are the children still to come: each node is the first one awaited, and puts its
-- own children before the rest; in the end none is awaited.
unfoldable pub in_pre_order : List ℕ → ℕ → ℕ → List ℕ → Bool
unfolding node_children
in_pre_order t k zero [] = true
in_pre_order t k zero (c ∷ cs) = false
in_pre_order t k (suc n) [] = false
in_pre_order t k (suc n) (c ∷ cs) = both (eqb c k) (in_pre_order t (k + 1) n (node_children t k ++ cs))

unfoldable pub nodes_in_pre_order : List ℕ → Bool
unfolding nodes in_pre_order
nodes_in_pre_order t = in_pre_order t 0 (nodes t) (0 ∷ [])

unfoldable pub tree_fits : List ℕ → Bool
unfolding every nodes cases bindings paths steps length_true starts_rise node_keeps_rules case_keeps_rules binding_keeps_rules path_keeps_rules step_keeps_rules nodes_in_pre_order
tree_fits t =
    both (length_true t)
    (both (starts_rise t)
    (both (every (node_keeps_rules t) 0 (nodes t))
    (both (every (case_keeps_rules t) 0 (cases t))
    (both (every (binding_keeps_rules t) 0 (bindings t))
    (both (every (path_keeps_rules t) 0 (paths t))
    (both (every (step_keeps_rules t) 0 (steps t))
    (nodes_in_pre_order t)))))))

-- ---- the tree that a file stands for
unfoldable pub step_of_fields : ℕ → ℕ → ℕ → ℕ → Step
step_of_fields kind flag i t =
    pick (eqb kind pair_step) (pair i t)
    (pick (eqb kind tuple_step) (tuple i t)
    (pick (eqb kind constr_step) (constr i (eqb flag 1) t)
    (pick (eqb kind list_step) (list i t)
    (listtail i t))))

unfoldable pub step_at : List ℕ → ℕ → Step
unfolding step_kind step_flag step_index_at step_type step_of_fields
step_at t i = step_of_fields (step_kind t i) (step_flag t i) (step_index_at t i) (step_type t i)

unfoldable pub steps_from : List ℕ → ℕ → ℕ → Path
unfolding step_at
steps_from t i zero = []
steps_from t i (suc n) = step_at t i ∷ steps_from t (i + 1) n

unfoldable pub path_at : List ℕ → ℕ → Path
unfolding path_first path_count steps_from
path_at t p = steps_from t (path_first t p) (path_count t p)

unfoldable pub bindings_from : List ℕ → ℕ → ℕ → List Binding
unfolding binding_name binding_path path_at
bindings_from t b zero = []
bindings_from t b (suc n) = record { name = binding_name t b; path = path_at t (binding_path t b) } ∷ bindings_from t (b + 1) n

unfoldable pub case_text : List ℕ → ℕ → List ℕ
unfolding tree_pool_at case_number case_length
case_text t i = text_at t (tree_pool_at t + case_number t i) (case_length t i)

unfoldable pub test_of_kind : List ℕ → ℕ → CaseKind → Test
unfolding case_number case_text
test_of_kind t i Constr_case = Constr (case_number t i)
test_of_kind t i Int_case = Int (case_text t i)
test_of_kind t i Bytes_case = Bytes (case_text t i)
test_of_kind t i List_case = ListOf (case_number t i)
test_of_kind t i List_with_tail_case = ListWithTail (case_number t i)
test_of_kind t i Unknown_case = Constr (case_number t i)

unfoldable pub case_test : List ℕ → ℕ → Test
unfolding case_kind case_kind_of test_of_kind
case_test t i = test_of_kind t i (case_kind_of (case_kind t i))

-- where a case's text starts: 0 for a test that is no text
unfoldable pub start_of_test : ℕ → Test → ℕ
start_of_test start (Constr a) = 0
start_of_test start (Int w) = start
start_of_test start (Bytes w) = start
start_of_test start (ListOf n) = 0
start_of_test start (ListWithTail n) = 0

-- the n cases from i on, their subtrees read by f
unfoldable pub cases_for : (ℕ → Tree) → List ℕ → ℕ → ℕ → Cases
unfolding case_number case_child case_test start_of_test
cases_for f t i zero = cnil
cases_for f t i (suc n) = ccons (case_test t i) (start_of_test (case_number t i) (case_test t i)) (f (case_child t i)) (cases_for f t (i + 1) n)

unfoldable pub default_for : (ℕ → Tree) → ℕ → Tree
default_for f zero = absent
default_for f (suc k) = f k

unfoldable pub node_for : (ℕ → Tree) → List ℕ → ℕ → NodeKind → Tree
unfolding node_path node_first_case node_cases node_tail_cases node_default node_clause node_first_binding node_bindings node_child path_at bindings_from cases_for default_for
node_for f t k Switch = switch (path_at t (node_path t k)) (cases_for f t (node_first_case t k) (node_cases t k)) (default_for f (node_default t k))
node_for f t k List_switch =
    listswitch (path_at t (node_path t k))
    (cases_for f t (node_first_case t k) (node_cases t k))
    (cases_for f t (node_first_case t k + node_cases t k) (node_tail_cases t k))
    (default_for f (node_default t k))
node_for f t k Leaf = leaf (node_clause t k) (bindings_from t (node_first_binding t k) (node_bindings t k))
node_for f t k Hoist_node = hoist (node_clause t k) (bindings_from t (node_first_binding t k) (node_bindings t k)) (f (node_child t k))
node_for f t k Unknown_node = absent

-- the tree below node k, as far as `deep` children go down; in pre-order a child's number is larger, so that the number of nodes
-- is deep enough
unfoldable pub tree_below : ℕ → List ℕ → ℕ → Tree
unfolding node_kind node_kind_of node_for
tree_below zero t k = absent
tree_below (suc deep) t k = node_for (tree_below deep t) t k (node_kind_of (node_kind t k))

unfoldable pub tree_of : List ℕ → Tree
unfolding nodes tree_below
tree_of t = tree_below (nodes t) t 0
