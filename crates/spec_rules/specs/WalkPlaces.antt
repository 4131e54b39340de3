-- 02, request 1: where a walk ends, and the place of 32. "following a path says, beside stuck, the number of the step that could not be
-- taken (from 0; a test on a wrong kind of part counts as the path's length); the walk hands this on with the node number; at a leaf
-- the first binding that sticks decides". Nodes are known by their numbers in the tree file. What the walk answers is in Walking.
use Rattle.std.specs.Prelude.{ℕ, zero, suc, List, [], ◌∷◌}
use Rattle.std.proofs.Math.Option.{Option, none, some}
use Rattle.spec_rules.specs.Rows.{Path, Binding}
use Rattle.spec_rules.specs.Building.{Tree, leaf}
use Rattle.spec_rules.specs.TreeReader.{nodes, node_kind, node_path, node_first_binding, node_bindings, NodeKind, Switch, List_switch, Leaf, Hoist_node, Unknown_node, node_kind_of, path_at, bindings_from, node_for}
use Rattle.spec_rules.specs.Walking.{Position, panel_root, Walked, reached, no_leaf, stuck, take_step, follow, walk}

-- ---- how many steps of a path can be taken one after the other: this is the number of the step that could not be taken, and where all
-- could and the test is on a wrong kind of part, it is the path's length
unfoldable pub steps_taken : List ℕ → Path → Position → ℕ
unfolding take_step
steps_taken v [] x = 0
steps_taken v (s ∷ p) x = elim (take_step v s x) [ none ↦ 0 | some y ↦ suc (steps_taken v p y) ]

-- "at a leaf the first binding that sticks decides"
unfoldable pub first_stuck : List ℕ → List Binding → ℕ
unfolding follow steps_taken
first_stuck v [] = 0
first_stuck v (b ∷ bs) = elim (follow v b.path panel_root) [ none ↦ steps_taken v b.path panel_root | some x ↦ first_stuck v bs ]

-- the step at which a node sticks, where it does
unfoldable pub step_at_kind : List ℕ → List ℕ → ℕ → NodeKind → ℕ
unfolding steps_taken first_stuck path_at node_path bindings_from node_first_binding node_bindings
step_at_kind t v k Switch = steps_taken v (path_at t (node_path t k)) panel_root
step_at_kind t v k List_switch = steps_taken v (path_at t (node_path t k)) panel_root
step_at_kind t v k Leaf = first_stuck v (bindings_from t (node_first_binding t k) (node_bindings t k))
step_at_kind t v k Hoist_node = 0
step_at_kind t v k Unknown_node = 0

-- ---- the node that a node leads to; none where the walk goes no further.
-- The node is walked with a leaf for each of its children that carries the child's number in the place of a clause.
abbrev pub numbered : ℕ → Tree
numbered c = leaf c []

unfoldable pub child_reached : Walked → Option ℕ
child_reached (reached c xs) = some c
child_reached no_leaf = none
child_reached stuck = none

unfoldable pub goes_on_by_kind : List ℕ → List ℕ → ℕ → NodeKind → Option ℕ
unfolding walk node_for child_reached
goes_on_by_kind t v k Switch = child_reached (walk (node_for numbered t k Switch) v)
goes_on_by_kind t v k List_switch = child_reached (walk (node_for numbered t k List_switch) v)
goes_on_by_kind t v k Leaf = none
goes_on_by_kind t v k Hoist_node = child_reached (walk (node_for numbered t k Hoist_node) v)
goes_on_by_kind t v k Unknown_node = none

unfoldable pub goes_on : List ℕ → List ℕ → ℕ → Option ℕ
unfolding goes_on_by_kind node_kind node_kind_of
goes_on t v k = goes_on_by_kind t v k (node_kind_of (node_kind t k))

-- ---- the last node of the walk from node k on, as far as `deep` nodes; in pre-order a child's number is larger, so that the number of
-- nodes is deep enough
unfoldable pub last_from : ℕ → List ℕ → List ℕ → ℕ → ℕ
unfolding goes_on
last_from zero t v k = k
last_from (suc deep) t v k = elim (goes_on t v k) [ none ↦ k | some c ↦ last_from deep t v c ]

unfoldable pub last_node : List ℕ → List ℕ → ℕ
unfolding nodes last_from
last_node t v = last_from (nodes t) t v 0

-- the step at which node k sticks
unfoldable pub stuck_step : List ℕ → List ℕ → ℕ → ℕ
unfolding step_at_kind node_kind node_kind_of
stuck_step t v k = step_at_kind t v k (node_kind_of (node_kind t k))
