-- What the search for scopes answers of the tree in the arena.
-- Rests on scopes and first leaves by number.
use Rattle.std.specs.Prelude.{◌≡◌, List, ℕ, ◌+◌, ◌≤◌, ◌<◌, length, get_or, set}
use Rattle.base_words.specs.Words.{pick}
use Rattle.spec_rules.specs.Searching.{times}
use Rattle.spec_rules.specs.Building.{Tree}
use Rattle.spec_rules.specs.Hoisting.{nodes_in, has_leaf}
use Rattle.spec_rules.specs.Calls.{lowest_idle}
use Rattle.build_scopes.specs.declared.Scopes.{Scopes}
use Rattle.build_scopes.specs.Numbers.{scope_number, first_number, scope_node, first_leaf_node, idle_number}
use Rattle.build_scopes.specs.Marks.{ReadyTree, LastMarked, SetsMarked}

-- the tree in the arena, with the clause of the last leaf of each node and the clauses with a leaf there
pub record Surveyed (w last sets : List ℕ) : Type 0 where
  pub tree : Tree
  pub ready : ReadyTree w tree
  pub last_marked : LastMarked tree 0 last
  pub last_long : nodes_in tree ≤ length last
  pub sets_marked : SetsMarked tree 0 sets
  pub sets_long : nodes_in tree ≤ length sets

-- x with the scope of clause c, or with c for its lowest idle clause
unfoldable pub with_clause : Tree → ℕ → Scopes → Scopes
with_clause a c x =
    pick (has_leaf c a)
    (record { node = set x.node c (scope_number c 0 a); leaf = set x.leaf c (first_number c 0 a); hoists = x.hoists + 1; idle = x.idle })
    (record { node = x.node; leaf = x.leaf; hoists = x.hoists; idle = c })

-- THE ANSWER: by clause the node above which it is hoisted and its first leaf, how many clauses have one, and the lowest that has none
pub record Scoped (a : Tree) (clauses : ℕ) (x : Scopes) : Type 0 where
  pub node : (c : ℕ) → c < clauses → get_or x.node c 0 ≡ scope_node c a
  pub leaf : (c : ℕ) → c < clauses → get_or x.leaf c 0 ≡ first_leaf_node c a
  pub hoists : x.hoists ≡ times (λ c. has_leaf c a) 0 clauses
  pub idle : x.idle ≡ idle_number (lowest_idle clauses a)

-- with the clauses that have a leaf at or below each node, by node
pub record ScopedWith (a : Tree) (clauses : ℕ) (sets : List ℕ) (x : Scopes) : Type 0 where
  pub scopes : Scoped a clauses x
  pub sets_marked : SetsMarked a 0 sets
