-- A tree in bytes: each node's record, its own cases and its bindings stand at their numbers, each in the section of its kind.
-- The tree file has a tree so, and so has the buffer that it is built in; the two differ in where the sections start.
use Rattle.std.specs.Prelude.{List, ◌++◌, ℕ, ◌+◌, ◌*◌, length}
use Rattle.spec_rules.specs.Limits.{node_size, case_size, binding_size}
use Rattle.spec_rules.specs.Kinds.{switch_node, list_switch_node, leaf_node, hoist_node}
use Rattle.spec_rules.specs.Rows.{Path, Binding}
use Rattle.spec_rules.specs.Building.{Tree, Cases, absent, leaf, hoist, switch, listswitch, cnil, ccons}
use Rattle.spec_rules.specs.Hoisting.{how_many, nodes_in, nodes_in_of, bindings_in, bindings_in_of}
use Rattle.spec_rules.specs.TreeFile.{path_number, first_of, node_bytes, cases_in, cases_in_of, default_field, own_cases, bindings_bytes}
use Rattle.spec_file.specs.StandingLaws.{Stands}

-- where the sections start
pub record Starts : Type 0 where
  pub nodes : ℕ
  pub cases : ℕ
  pub bindings : ℕ

module _ (o : Starts) (t : List ℕ) where
  -- nodes, and cases, from a number on
  abbrev pub NodesStand : ℕ → List ℕ → Type 0
  NodesStand k xs = Stands t (o.nodes + node_size * k) xs

  abbrev pub CasesStand : ℕ → List ℕ → Type 0
  CasesStand c xs = Stands t (o.cases + case_size * c) xs

  module _ (table : List Path) where
    -- bindings, whose paths are numbers in the table
    abbrev pub BindingsStand : ℕ → List Binding → Type 0
    BindingsStand b bs = Stands t (o.bindings + binding_size * b) (bindings_bytes table bs)

    -- the tree a, whose first node is k, first case c and first binding b; the subtrees of the cases cs, alike
    unfoldable mutual
      pub TreeStands : ℕ → ℕ → ℕ → Tree → Type 0
      TreeStands k c b absent = Unit {0}
      TreeStands k c b (leaf x bs) = NodesStand k (node_bytes leaf_node x (first_of (length bs) b) (length bs) 0 0) × BindingsStand b bs
      TreeStands k c b (hoist x bs a) =
          NodesStand k (node_bytes hoist_node x (first_of (length bs) b) (length bs) (k + 1) 0) × BindingsStand b bs × TreeStands (k + 1) c (b + length bs) a
      TreeStands k c b (switch p cs d) =
          NodesStand k (node_bytes switch_node (path_number table p) (first_of (how_many cs) c) (how_many cs) 0 (default_field (k + 1 + nodes_in_of cs) d))
          × CasesStand c (own_cases (k + 1) cs)
          × TreeStandsOf (k + 1) (c + how_many cs) b cs
          × TreeStands (k + 1 + nodes_in_of cs) (c + how_many cs + cases_in_of cs) (b + length (bindings_in_of cs)) d
      TreeStands k c b (listswitch p cs ts d) =
          NodesStand k (node_bytes list_switch_node (path_number table p) (first_of (how_many cs + how_many ts) c) (how_many cs) (how_many ts) (default_field (k + 1 + nodes_in_of cs + nodes_in_of ts) d))
          × CasesStand c (own_cases (k + 1) cs ++ own_cases (k + 1 + nodes_in_of cs) ts)
          × TreeStandsOf (k + 1) (c + how_many cs + how_many ts) b cs
          × TreeStandsOf (k + 1 + nodes_in_of cs) (c + how_many cs + how_many ts + cases_in_of cs) (b + length (bindings_in_of cs)) ts
          × TreeStands (k + 1 + nodes_in_of cs + nodes_in_of ts) (c + how_many cs + how_many ts + cases_in_of cs + cases_in_of ts) (b + length (bindings_in_of cs) + length (bindings_in_of ts)) d

      pub TreeStandsOf : ℕ → ℕ → ℕ → Cases → Type 0
      TreeStandsOf k c b cnil = Unit {0}
      TreeStandsOf k c b (ccons u start a cs) = TreeStands k c b a × TreeStandsOf (k + nodes_in a) (c + cases_in a) (b + length (bindings_in a)) cs
