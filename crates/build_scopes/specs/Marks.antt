-- What the search for scopes knows of each node: whether its subtree has a leaf of a clause, and the clause of the last leaf in it.
-- The clauses with a leaf at a node are a set, a bit by clause; both tables are by node number. What is read of the arena at one node is
-- said over its bytes alone.
use Rattle.std.specs.Prelude.{◌≡◌, Bool, true, List, [], ◌∷◌, ℕ, zero, suc, ◌+◌, ◌-◌, ◌/◌, ◌%◌, ◌^◌, ◌≤◌, ◌<◌, length, get_or, eqb, leb, ltb}
use Rattle.std.proofs.Math.Option.{some}
use Rattle.std.specs.Int.Bits.{bit_or}
use Rattle.base_words.specs.Words.{either, pick}
use Rattle.spec_rules.specs.Limits.{clauses_most, nodes_most}
use Rattle.spec_rules.specs.Kinds.{leaf_node, first_case_word, cases_word, tail_cases_word, default_word, clause_word}
use Rattle.spec_rules.specs.Rows.{Path, Binding, bit}
use Rattle.spec_rules.specs.Building.{Tree, leaf}
use Rattle.spec_rules.specs.Hoisting.{how_many, nodes_in, has_leaf}
use Rattle.spec_rules.specs.TreeFile.{cases_in}
use Rattle.spec_hoist.specs.Trees.{Plain, is_present, WellMade}
use Rattle.spec_hoist.specs.Scopes.{last_leaf}
use Rattle.build_arena.specs.Arena.{cases_most, arena_end, node_kind, node_word, case_child}
use Rattle.build_arena.specs.Numbered.{subtree_at, is_switch, cases_under, AllThere, SwitchNode, Nodes}
use Rattle.build_scopes.specs.declared.marks.Children.{Children}

-- ---- a tree whose scopes are looked for
-- the tree a is in the arena before it is hoisted, and its clauses are at most 32
pub record ReadyTree (w : List ℕ) (a : Tree) : Type 0 where
  pub table : List Path
  pub nodes : Nodes w table a
  pub plain : Plain a
  pub made : WellMade clauses_most a
  pub there : is_present a ≡ true

-- one of so many nodes
pub record ReadyWith (w : List ℕ) (nodes : ℕ) : Type 0 where
  pub tree : Tree
  pub ready : ReadyTree w tree
  pub count : nodes_in tree ≡ nodes

-- node k is a leaf ..
pub record LeafThere (w : List ℕ) (a : Tree) (k : ℕ) : Type 0 where
  pub clause : ℕ
  pub bindings : List Binding
  pub is : subtree_at a k ≡ leaf clause bindings
  pub kind_is : node_kind w k ≡ leaf_node
  pub clause_is : node_word w k clause_word ≡ clause
  pub small : clause < clauses_most

-- .. or a switch
pub record SwitchThere (w : List ℕ) (a : Tree) (k : ℕ) : Type 0 where
  pub is : is_switch (subtree_at a k) ≡ true
  pub shown : SwitchNode w (cases_in a) k (subtree_at a k)
  pub all_there : AllThere (cases_under (subtree_at a k))
  pub some_case : 0 < how_many (cases_under (subtree_at a k))

-- ---- marks
-- whether clause c is in a set of clauses: its bit, 1 or 0
unfoldable pub bit_at : ℕ → ℕ → ℕ
bit_at c set = set / 2 ^ c % 2

-- the bits of clause c in a table of sets
unfoldable pub column : ℕ → List ℕ → List ℕ
unfolding bit_at
column c [] = []
column c (set ∷ sets) = bit_at c set ∷ column c sets

-- from node `from` on, `has` is 1 where the subtree has a leaf of clause c, and 0 elsewhere
pub record Marked (a : Tree) (c from : ℕ) (has : List ℕ) : Type 0 where
  pub mark : (j : ℕ) → from ≤ j → j < nodes_in a → get_or has j 0 ≡ bit (has_leaf c (subtree_at a j))

-- from node `from` on, `sets` has the clauses with a leaf in the subtree
pub record SetsMarked (a : Tree) (from : ℕ) (sets : List ℕ) : Type 0 where
  pub clause : (c : ℕ) → Marked a c from (column c sets)

-- from node `from` on, `last` is the clause of the leaf visited last
pub record LastMarked (a : Tree) (from : ℕ) (last : List ℕ) : Type 0 where
  pub last_leaf_holds : (j : ℕ) → from ≤ j → j < nodes_in a → last_leaf (subtree_at a j) ≡ some (get_or last j 0)

-- a tree with the marks of one of its clauses
pub record ClauseMarks (w : List ℕ) (c : ℕ) (sets : List ℕ) : Type 0 where
  pub tree : Tree
  pub ready : ReadyTree w tree
  pub small : c < clauses_most
  pub marked : Marked tree c 0 (column c sets)
  pub long : nodes_in tree ≤ length sets
  pub leaf_there : has_leaf c tree ≡ true

-- and with the last leaves
pub record ScopeMarks (w : List ℕ) (c : ℕ) (last sets : List ℕ) : Type 0 where
  pub marks : ClauseMarks w c sets
  pub last_marked : LastMarked marks.tree 0 last
  pub last_long : nodes_in marks.tree ≤ length last

-- ---- what is read at one node
-- the n cases from i on, of which each child is one of m nodes
pub record CasesInside (w : List ℕ) (i n m : ℕ) : Type 0 where
  pub room : arena_end ≤ length w
  pub inside : i + n ≤ cases_most
  pub children : (j : ℕ) → j < n → case_child w (i + j) < m

pub record SwitchInside (w : List ℕ) (k m : ℕ) : Type 0 where
  pub node : k < nodes_most
  pub cases : CasesInside w (node_word w k first_case_word) (node_word w k cases_word + node_word w k tail_cases_word) m
  pub some_case : 1 ≤ node_word w k cases_word + node_word w k tail_cases_word
  pub default : node_word w k default_word ≤ m

-- a node that is a leaf of a small clause, or a switch
pub record NodeInside (w : List ℕ) (k m : ℕ) : Type 0 where
  pub room : arena_end ≤ length w
  pub node : k < nodes_most
  pub clause : node_kind w k ≡ leaf_node → node_word w k clause_word < clauses_most
  pub switch : (node_kind w k ≡ leaf_node → ⊥) → SwitchInside w k m

-- a node at which a clause has a leaf: where that is not visited last, the node is a switch
pub record ScopeInside (w last sets : List ℕ) (c k : ℕ) : Type 0 where
  pub small : c < clauses_most
  pub node : k < length last
  pub switch : (c ≡ get_or last k 0 → ⊥) → SwitchInside w k (length sets)

-- where a switch's cases begin, how many it has with the tail cases, and its default, one more than the node or 0
abbrev pub children_of : List ℕ → ℕ → Children
children_of w k = record { first = node_word w k first_case_word; count = node_word w k cases_word + node_word w k tail_cases_word; default = node_word w k default_word }

-- the sum of the marks of the n cases from i on
unfoldable pub marked_cases : List ℕ → List ℕ → ℕ → ℕ → ℕ
marked_cases w has i zero = 0
marked_cases w has i (suc n) = get_or has (case_child w i) 0 + marked_cases w has (i + 1) n

-- the child of the first of them whose mark is 1, or 1,024
unfoldable pub first_marked : List ℕ → List ℕ → ℕ → ℕ → ℕ
first_marked w has i zero = nodes_most
first_marked w has i (suc n) = pick (eqb (get_or has (case_child w i) 0) 1) (case_child w i) (first_marked w has (i + 1) n)

unfoldable pub marked_default : List ℕ → ℕ → ℕ
marked_default has default = pick (eqb default 0) 0 (get_or has (default - 1) 0)

-- the sum of the marks of the children of switch k
unfoldable pub marked_children : List ℕ → List ℕ → ℕ → ℕ
unfolding marked_cases marked_default
marked_children w has k = marked_cases w has (node_word w k first_case_word) (node_word w k cases_word + node_word w k tail_cases_word) + marked_default has (node_word w k default_word)

-- the child of switch k that was built first of those with a mark: the default, or the first of the cases
unfoldable pub first_child : List ℕ → List ℕ → ℕ → ℕ
unfolding first_marked marked_default
first_child w has k = pick (ltb 0 (marked_default has (node_word w k default_word))) (node_word w k default_word - 1) (first_marked w has (node_word w k first_case_word) (node_word w k cases_word + node_word w k tail_cases_word))

-- the child of switch k that is visited last: the default, or the last of the cases
unfoldable pub last_child : List ℕ → ℕ → ℕ
last_child w k = pick (eqb (node_word w k default_word) 0) (case_child w (node_word w k first_case_word + (node_word w k cases_word + node_word w k tail_cases_word) - 1)) (node_word w k default_word - 1)

-- whether the subtree of node k has a leaf of clause c
unfoldable pub node_marked : List ℕ → List ℕ → ℕ → ℕ → ℕ
unfolding bit marked_children
node_marked w has c k = pick (eqb (node_kind w k) leaf_node) (bit (eqb c (node_word w k clause_word))) (bit (ltb 0 (marked_children w has k)))

-- the clauses of `all` and those of the n cases from i on
unfoldable pub union_cases : List ℕ → List ℕ → ℕ → ℕ → ℕ → ℕ
union_cases w sets i zero all = all
union_cases w sets i (suc n) all = union_cases w sets (i + 1) n (bit_or all (get_or sets (case_child w i) 0))

unfoldable pub default_set : List ℕ → ℕ → ℕ
default_set sets default = pick (eqb default 0) 0 (get_or sets (default - 1) 0)

-- the clauses with a leaf at or below node k
unfoldable pub node_set : List ℕ → List ℕ → ℕ → ℕ
unfolding union_cases default_set
node_set w sets k =
    pick (eqb (node_kind w k) leaf_node) (2 ^ node_word w k clause_word)
    (union_cases w sets (node_word w k first_case_word) (node_word w k cases_word + node_word w k tail_cases_word) (default_set sets (node_word w k default_word)))

unfoldable pub last_of : List ℕ → List ℕ → ℕ → ℕ
unfolding last_child
last_of w last k = pick (eqb (node_kind w k) leaf_node) (node_word w k clause_word) (get_or last (last_child w k) 0)

unfoldable pub scope_here : List ℕ → List ℕ → List ℕ → ℕ → ℕ → Bool
unfolding marked_children
scope_here w last has c k = either (eqb c (get_or last k 0)) (leb 2 (marked_children w has k))
