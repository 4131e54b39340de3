-- The nodes of a tree by their numbers: node j of the arena is the root of the tree's j-th subtree in pre-order.
-- A switch and a list switch are seen alike, by their cases with the tail cases after them and by their default.
use Rattle.std.specs.Prelude.{◌≡◌, Bool, true, false, List, [], ◌∷◌, ◌++◌, ℕ, zero, suc, ◌+◌, ◌*◌, ◌≤◌, ◌<◌, length, get_or}
use Rattle.spec_rules.specs.Limits.{nodes_most, bindings_most, case_size, binding_size}
use Rattle.spec_rules.specs.Kinds.{leaf_node, first_case_word, cases_word, tail_cases_word, default_word, clause_word, first_binding_word, bindings_word}
use Rattle.spec_rules.specs.Rows.{Path, Binding}
use Rattle.spec_rules.specs.Building.{Tree, Cases, absent, leaf, hoist, switch, listswitch, cnil, ccons}
use Rattle.spec_rules.specs.Hoisting.{how_many, nodes_in, nodes_in_of, bindings_in}
use Rattle.spec_rules.specs.TreeFile.{cases_in, default_field, own_cases, bindings_bytes}
use Rattle.spec_file.specs.StandingLaws.{Stands}
use Rattle.build_arena.specs.Arena.{cases_start, cases_most, bindings_start, arena_end, node_kind, node_word, Held}

-- ---- subtrees
-- the subtrees of a tree that are there, itself first, in the order of their nodes
unfoldable mutual
  pub subtrees : Tree → List Tree
  subtrees absent = []
  subtrees (leaf c bs) = leaf c bs ∷ []
  subtrees (hoist c bs a) = hoist c bs a ∷ subtrees a
  subtrees (switch p cs d) = switch p cs d ∷ (subtrees_of cs ++ subtrees d)
  subtrees (listswitch p cs ts d) = listswitch p cs ts d ∷ (subtrees_of cs ++ (subtrees_of ts ++ subtrees d))

  pub subtrees_of : Cases → List Tree
  subtrees_of cnil = []
  subtrees_of (ccons t at a cs) = subtrees a ++ subtrees_of cs

-- the subtree whose root is node j
unfoldable pub subtree_at : Tree → ℕ → Tree
unfolding subtrees
subtree_at a j = get_or (subtrees a) j absent

-- the trees xs are those of `all` from number j on
pub record Within (all : List Tree) (j : ℕ) (xs : List Tree) : Type 0 where
  pub inside : j + length xs ≤ length all
  pub same : (i : ℕ) → i < length xs → get_or all (j + i) absent ≡ get_or xs i absent

-- P of each tree and its number, of which the first is k
abbrev pub Each : (ℕ → Tree → Type 0) → ℕ → List Tree → Type 0
Each P k [] = Unit {0}
Each P k (x ∷ xs) = P k x × Each P (k + 1) xs

-- ---- switches
unfoldable pub joined : Cases → Cases → Cases
joined cnil ts = ts
joined (ccons t at a cs) ts = ccons t at a (joined cs ts)

unfoldable pub is_switch : Tree → Bool
is_switch absent = false
is_switch (leaf c bs) = false
is_switch (hoist c bs a) = false
is_switch (switch p cs d) = true
is_switch (listswitch p cs ts d) = true

-- the cases of a switch, tail cases last; its default
unfoldable pub cases_under : Tree → Cases
unfolding joined
cases_under absent = cnil
cases_under (leaf c bs) = cnil
cases_under (hoist c bs a) = cnil
cases_under (switch p cs d) = cs
cases_under (listswitch p cs ts d) = joined cs ts

unfoldable pub default_under : Tree → Tree
default_under absent = absent
default_under (leaf c bs) = absent
default_under (hoist c bs a) = absent
default_under (switch p cs d) = d
default_under (listswitch p cs ts d) = d

-- the subtree of case i; how many nodes the cases before it have
unfoldable pub case_at : Cases → ℕ → Tree
case_at cnil i = absent
case_at (ccons t at a cs) zero = a
case_at (ccons t at a cs) (suc i) = case_at cs i

unfoldable pub nodes_before : Cases → ℕ → ℕ
unfolding nodes_in
nodes_before cnil i = 0
nodes_before (ccons t at a cs) zero = 0
nodes_before (ccons t at a cs) (suc i) = nodes_in a + nodes_before cs i

-- each case's subtree is there
unfoldable pub AllThere : Cases → Type 0
unfolding nodes_in
AllThere cnil = Unit {0}
AllThere (ccons t at a cs) = (1 ≤ nodes_in a) × AllThere cs

-- ---- what the records of a node say
-- the tree s has node j for its root, and its cases and bindings are among so many
pub record HeldAt (w : List ℕ) (table : List Path) (cases bindings j : ℕ) (s : Tree) : Type 0 where
  pub first_case : ℕ
  pub first_binding : ℕ
  pub cases_inside : first_case + cases_in s ≤ cases
  pub bindings_inside : first_binding + length (bindings_in s) ≤ bindings
  pub held : Held w table j first_case first_binding s

-- a leaf
pub record LeafNode (w : List ℕ) (table : List Path) (bindings j x : ℕ) (bs : List Binding) : Type 0 where
  pub kind_is : node_kind w j ≡ leaf_node
  pub clause_is : node_word w j clause_word ≡ x
  pub count_is : node_word w j bindings_word ≡ length bs
  pub inside : node_word w j first_binding_word + length bs ≤ bindings
  pub bound : Stands w (bindings_start + binding_size * node_word w j first_binding_word) (bindings_bytes table bs)

-- a switch or a list switch
pub record SwitchNode (w : List ℕ) (cases j : ℕ) (s : Tree) : Type 0 where
  pub kind_is : node_kind w j < leaf_node
  pub count_is : node_word w j cases_word + node_word w j tail_cases_word ≡ how_many (cases_under s)
  pub inside : node_word w j first_case_word + how_many (cases_under s) ≤ cases
  pub own : Stands w (cases_start + case_size * node_word w j first_case_word) (own_cases (j + 1) (cases_under s))
  pub default_is : node_word w j default_word ≡ default_field (j + 1 + nodes_in_of (cases_under s)) (default_under s)

-- n is the number of the child s of node j of the tree a
pub record ChildNode (a : Tree) (j n : ℕ) (s : Tree) : Type 0 where
  pub above : j < n
  pub inside : n < nodes_in a
  pub there : subtree_at a n ≡ s

-- ---- a tree's nodes in the arena
-- the tree a is in the arena from node 0, case 0 and binding 0 on, within the room of each section
pub record Nodes (w : List ℕ) (table : List Path) (a : Tree) : Type 0 where
  pub room : arena_end ≤ length w
  pub nodes_most_holds : nodes_in a ≤ nodes_most
  pub cases_most_holds : cases_in a ≤ cases_most
  pub bindings_most_holds : length (bindings_in a) ≤ bindings_most
  pub node : (j : ℕ) → j < nodes_in a → HeldAt w table (cases_in a) (length (bindings_in a)) j (subtree_at a j)
  pub within : (j : ℕ) → j < nodes_in a → Within (subtrees a) j (subtrees (subtree_at a j))
