-- What a switch chooses, by what the part at its path shows and how long it is: a child, its default, or nothing (stuck). The rule is that
-- of Walking, "the first case that holds; list switch: the first of the exact length, else the first of the largest tail number not above
-- it; else the default", with the node's number and the child's ("Nodes in pre-order"). A switch and a list switch are one kind of node.
use Rattle.std.specs.Prelude.{ℕ, zero, suc, ◌+◌, true, false, eqb}
use Rattle.std.proofs.Math.Option.{Option, none, some}
use Rattle.base_words.specs.Words.{pick}
use Rattle.spec_rules.specs.Rows.{Path}
use Rattle.spec_rules.specs.Splitting.{Test, ListOf, ListWithTail, same_test}
use Rattle.spec_rules.specs.Building.{Tree, Cases, absent, leaf, hoist, switch, listswitch, cnil, ccons}
use Rattle.spec_rules.specs.Hoisting.{how_many, nodes_in, nodes_in_of}
use Rattle.spec_rules.specs.Walking.{test_kind, first_kind, largest_tail}

-- a child that is chosen: its case's test, its number among the branches, its node and its tree
pub record Chosen : Type 0 where
  pub test : Test
  pub index : ℕ
  pub node : ℕ
  pub tree : Tree

-- the first case of this test, from case i on, the first of them with its child at node j
unfoldable pub lookup : ℕ → ℕ → Cases → Test → Option Chosen
unfolding same_test nodes_in
lookup i j cnil t = none
lookup i j (ccons u at a cs) t =
    elim (same_test t u) [ true ↦ some (record { test = u; index = i; node = j; tree = a }) | false ↦ lookup (i + 1) (j + nodes_in a) cs t ]

-- a switch; none: stuck, and in it none: the default
unfoldable pub by_test : ℕ → Cases → Option Test → Option (Option Chosen)
unfolding lookup first_kind test_kind
by_test k cs none = none
by_test k cs (some t) = pick (eqb (test_kind t) (first_kind cs)) (some (lookup 0 (k + 1) cs t)) none

-- a list switch: one more than the largest tail number, 0 where there is none
unfoldable pub tail_of : ℕ → ℕ → Cases → ℕ → Option Chosen
unfolding lookup
tail_of i j ts zero = none
tail_of i j ts (suc n) = lookup i j ts (ListWithTail n)

abbrev pub or_tail : Option Chosen → Option Chosen → Option Chosen
or_tail none o = o
or_tail (some c) o = some c

unfoldable pub by_length : ℕ → Cases → Cases → Option ℕ → Option (Option Chosen)
unfolding lookup tail_of largest_tail how_many nodes_in_of
by_length k cs ts none = none
by_length k cs ts (some n) = some (or_tail (lookup 0 (k + 1) cs (ListOf n)) (tail_of (how_many cs) (k + 1 + nodes_in_of cs) ts (largest_tail n ts)))

-- a switch or list switch as node k: its path, what it chooses by what a part shows and how long it is, and its default
pub record Node : Type 0 where
  pub path : Path
  pub choose : Option Test → Option ℕ → Option (Option Chosen)
  pub next : ℕ
  pub default : Tree

unfoldable pub node_of : ℕ → Tree → Option Node
unfolding by_test by_length nodes_in_of
node_of k absent = none
node_of k (leaf c bs) = none
node_of k (hoist c bs a) = none
node_of k (switch p cs d) = some (record { path = p; choose = λ t n. by_test k cs t; next = k + 1 + nodes_in_of cs; default = d })
node_of k (listswitch p cs ts d) = some (record { path = p; choose = λ t n. by_length k cs ts n; next = k + 1 + nodes_in_of cs + nodes_in_of ts; default = d })
