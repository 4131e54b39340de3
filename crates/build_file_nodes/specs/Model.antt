-- What the writing functions do, over the bytes of the arena: each record that they write, and the state of the file after it.
-- And what each asks: that the numbers it reads in the arena are in range, and that the file has room.
use Rattle.std.specs.Prelude.{◌≡◌, List, [], ◌++◌, ℕ, zero, suc, ◌+◌, ◌-◌, ◌*◌, ◌≤◌, ◌<◌, length, get_or, eqb}
use Rattle.base_words.specs.Words.{word_bytes, pick}
use Rattle.base_words.specs.Stored.{stored}
use Rattle.spec_rules.specs.Limits.{clauses_most, patterns_most, nodes_most, bindings_most, tree_room, node_size, case_size, binding_size}
use Rattle.spec_rules.specs.Kinds.{leaf_node, hoist_node, path_word, first_case_word, cases_word, tail_cases_word, default_word, clause_word, first_binding_word, bindings_word}
use Rattle.spec_rules.specs.TreeFile.{first_of, node_bytes}
use Rattle.build_arena.specs.Arena.{cases_start, cases_most, bindings_start, arena_end, node_kind, node_word, case_kind, case_number, case_length, case_child, binding_name, binding_path}
use Rattle.spec_file.specs.RecordsLaws.{case_fields}
use Rattle.build_scopes.specs.Marks.{SwitchInside}
use Rattle.build_scopes.specs.WriterLaws.{hoists_before, hoists_at, stands_at}
use Rattle.build_file_nodes.specs.declared.Tops.{Tops}
use Rattle.build_file_nodes.specs.Uses.{Uses, uses_of, Counted, with_class, number_in}

-- ---- bindings
-- binding b of the arena as the file has it
abbrev pub bound_binding : List ℕ → ℕ → Uses → List ℕ
bound_binding w b u = word_bytes (binding_name w b) ++ word_bytes (number_in u (binding_path w b))

-- the n bindings from b on; the path numbers after them
unfoldable pub bound_bytes : List ℕ → ℕ → ℕ → Uses → List ℕ
unfolding with_class
bound_bytes w b zero u = []
bound_bytes w b (suc n) u = bound_binding w b (with_class u (binding_path w b)) ++ bound_bytes w (b + 1) n (with_class u (binding_path w b))

unfoldable pub bound_uses : List ℕ → ℕ → ℕ → Uses → Uses
unfolding with_class
bound_uses w b zero u = u
bound_uses w b (suc n) u = bound_uses w (b + 1) n (with_class u (binding_path w b))

pub record BindingAsked (w : List ℕ) (b : ℕ) : Type 0 where
  pub room : arena_end ≤ length w
  pub inside : b < bindings_most
  pub class : binding_path w b < patterns_most

pub record BindingsAsked (w : List ℕ) (first count : ℕ) : Type 0 where
  pub room : arena_end ≤ length w
  pub inside : first + count ≤ bindings_most
  pub classes : (i : ℕ) → i < count → binding_path w (first + i) < patterns_most

pub record PutBinding (w : List ℕ) (b at : ℕ) (u : Uses) (before after : List ℕ) (r : Uses) : Type 0 where
  pub uses_are : r ≡ with_class u (binding_path w b)
  pub bytes_are : after ≡ stored before at (bound_binding w b (with_class u (binding_path w b)))

pub record PutBindings (w : List ℕ) (first count at : ℕ) (u : Uses) (before after : List ℕ) (r : Uses) : Type 0 where
  pub uses_are : r ≡ bound_uses w first count u
  pub bytes_are : after ≡ stored before at (bound_bytes w first count u)

-- ---- cases
-- by clause, the node above which it is hoisted and the leaf whose bindings its hoist has
pub record Places : Type 0 where
  pub node : List ℕ
  pub leaf : List ℕ

abbrev pub places_of : List ℕ → List ℕ → Places
places_of node leaf = record { node = node; leaf = leaf }

abbrev pub node_in : List ℕ → ℕ → ℕ
node_in node c = get_or node c 0

-- the node above which a clause is hoisted
abbrev pub clause_node : Places → ℕ → ℕ
clause_node x = node_in x.node

-- where node k comes to stand, by a table of how far nodes are moved
abbrev pub moved_by : List ℕ → ℕ → ℕ
moved_by shift k = k + get_or shift k 0

-- a table of zeros for the hoists of so many clauses
pub record ShiftAsked (node : ℕ → ℕ) (clauses : ℕ) (shift : List ℕ) : Type 0 where
  pub few : clauses ≤ clauses_most
  pub scopes : (c : ℕ) → c < clauses → node c ≤ nodes_most
  pub long : length shift ≡ nodes_most + 1
  pub none_yet : (k : ℕ) → k ≤ nodes_most → get_or shift k 0 ≡ 0

pub record HoistsCounted (node : ℕ → ℕ) (clauses : ℕ) (shift : List ℕ) : Type 0 where
  pub long : length shift ≡ nodes_most + 1
  pub count_is : (k : ℕ) → k ≤ nodes_most → get_or shift k 0 ≡ hoists_at node clauses k

-- the sum of the first k of a table
unfoldable pub sum_of : List ℕ → ℕ → ℕ
sum_of l zero = 0
sum_of l (suc k) = sum_of l k + get_or l k 0

pub record SumsAsked (nodes : ℕ) (shift : List ℕ) : Type 0 where
  pub most : nodes ≤ nodes_most
  pub long : length shift ≡ nodes_most + 1
  pub small : (k : ℕ) → k ≤ nodes + 1 → sum_of shift k ≤ clauses_most

pub record SummedUp (nodes : ℕ) (before after : List ℕ) : Type 0 where
  pub sum_is : (k : ℕ) → k ≤ nodes → get_or after k 0 ≡ sum_of before k

-- each of so many nodes is moved by the hoists before it, and what follows the last by all of them
pub record Shifted (node : ℕ → ℕ) (clauses nodes : ℕ) (shift : List ℕ) : Type 0 where
  pub shift_is : (k : ℕ) → k ≤ nodes → get_or shift k 0 ≡ hoists_before node clauses k

-- case i of the arena with this child
abbrev pub moved_case : List ℕ → ℕ → ℕ → List ℕ
moved_case w i child = case_fields (case_kind w i) (case_number w i) (case_length w i) child

-- by where each node comes to stand
unfoldable pub moved_cases : List ℕ → (ℕ → ℕ) → ℕ → ℕ → List ℕ
moved_cases w stand i zero = []
moved_cases w stand i (suc m) = moved_case w i (stand (case_child w i)) ++ moved_cases w stand (i + 1) m

unfoldable pub moved_default : (ℕ → ℕ) → ℕ → ℕ
moved_default stand default = pick (eqb default 0) 0 (stand (default - 1) + 1)

pub record CasesAsked (w : List ℕ) (first count : ℕ) : Type 0 where
  pub room : arena_end ≤ length w
  pub inside : first + count ≤ cases_most
  pub children : (i : ℕ) → i < count → case_child w (first + i) < nodes_most

-- ---- the state of the file
-- how much is written of each section, and the path numbers
pub record Reach : Type 0 where
  pub nodes : ℕ
  pub cases : ℕ
  pub bindings : ℕ
  pub uses : Uses

-- as the code has it: the tops of the sections, and the buffers of the path numbers
abbrev pub reach_of : List ℕ → List ℕ → Tops → Reach
reach_of number list f = record { nodes = f.nodes; cases = f.cases; bindings = f.bindings; uses = uses_of number list f.paths }

-- its bytes, and how far it is written
pub record Out : Type 0 where
  pub tree : List ℕ
  pub tops : Reach

abbrev pub out_of : List ℕ → Reach → Out
out_of t f = record { tree = t; tops = f }

-- ---- a leaf or a hoist
unfoldable pub bound_out : List ℕ → ℕ → ℕ → ℕ → ℕ → Out → Out
unfolding node_bytes first_of bound_bytes bound_uses
bound_out w at leaf kind child o =
    let f = o.tops in
    let n = node_word w leaf bindings_word in
    let record_bytes = node_bytes kind (node_word w leaf clause_word) (first_of n f.bindings) n child 0 in
    record {
      tree = stored (stored o.tree (node_size * f.nodes) record_bytes) (at + binding_size * f.bindings) (bound_bytes w (node_word w leaf first_binding_word) n f.uses);
      tops = record { nodes = f.nodes + 1; cases = f.cases; bindings = f.bindings + n; uses = bound_uses w (node_word w leaf first_binding_word) n f.uses };
    }

-- the hoist of clause c, if node k is its scope
unfoldable pub hoist_out : List ℕ → ℕ → Places → ℕ → ℕ → Out → Out
unfolding bound_out
hoist_out w at x k c o = pick (eqb (clause_node x c) k) (bound_out w at (get_or x.leaf c 0) hoist_node (o.tops.nodes + 1) o) o

-- of the n clauses from c on
unfoldable pub hoists_out : List ℕ → ℕ → Places → ℕ → ℕ → ℕ → Out → Out
unfolding hoist_out
hoists_out w at x k c zero o = o
hoists_out w at x k c (suc n) o = hoists_out w at x k (c + 1) n (hoist_out w at x k c o)

-- a leaf of the arena whose numbers are in range
pub record LeafSound (w : List ℕ) (leaf : ℕ) : Type 0 where
  pub room : arena_end ≤ length w
  pub node : leaf < nodes_most
  pub bindings : BindingsAsked w (node_word w leaf first_binding_word) (node_word w leaf bindings_word)

pub record BoundAsked (w : List ℕ) (leaf at : ℕ) (tree : List ℕ) (f : Reach) : Type 0 where
  pub sound : LeafSound w leaf
  pub tree_room_holds : tree_room ≤ length tree
  pub start : at ≤ bindings_start
  pub counted : Counted f.uses
  pub nodes_fit : f.nodes < nodes_most
  pub bindings_fit : f.bindings + node_word w leaf bindings_word ≤ bindings_most

-- within what refusals 12 and 13 leave
pub record Within (f : Reach) : Type 0 where
  pub nodes_most_holds : f.nodes ≤ nodes_most
  pub cases_most_holds : f.cases ≤ cases_most
  pub bindings_most_holds : f.bindings ≤ bindings_most

pub record HoistsAsked (w : List ℕ) (k : ℕ) (x : Places) (clauses : ℕ) (shift : List ℕ) (at : ℕ) (tree : List ℕ) (f : Reach) : Type 0 where
  pub few : clauses ≤ clauses_most
  pub node : k < nodes_most
  pub none_here : get_or shift k 0 ≡ get_or shift (k + 1) 0 → (c : ℕ) → c < clauses → clause_node x c ≡ k → ⊥
  pub leaf : (c : ℕ) → c < clauses → clause_node x c ≡ k → LeafSound w (get_or x.leaf c 0)
  pub tree_room_holds : tree_room ≤ length tree
  pub start : at ≤ bindings_start
  pub counted : Counted f.uses
  pub within : Within (hoists_out w at x k 0 clauses (out_of tree f)).tops

-- ---- a switch
abbrev pub switch_uses : List ℕ → ℕ → Reach → Uses
switch_uses w k f = with_class f.uses (node_word w k path_word)

unfoldable pub switch_bytes : List ℕ → (ℕ → ℕ) → ℕ → Reach → List ℕ
unfolding node_bytes moved_default with_class
switch_bytes w stand k f =
    node_bytes (node_kind w k) (number_in (switch_uses w k f) (node_word w k path_word)) f.cases (node_word w k cases_word) (node_word w k tail_cases_word) (moved_default stand (node_word w k default_word))

unfoldable pub switch_out : List ℕ → ℕ → (ℕ → ℕ) → ℕ → Out → Out
unfolding switch_bytes moved_cases with_class
switch_out w at stand k o =
    let f = o.tops in
    let m = node_word w k cases_word + node_word w k tail_cases_word in
    record {
      tree = stored (stored o.tree (node_size * f.nodes) (switch_bytes w stand k f)) (at + case_size * f.cases) (moved_cases w stand (node_word w k first_case_word) m);
      tops = record { nodes = f.nodes + 1; cases = f.cases + m; bindings = f.bindings; uses = switch_uses w k f };
    }

pub record SwitchSound (w : List ℕ) (k : ℕ) : Type 0 where
  pub room : arena_end ≤ length w
  pub node : k < nodes_most
  pub path : node_word w k path_word < patterns_most
  pub cases : CasesAsked w (node_word w k first_case_word) (node_word w k cases_word + node_word w k tail_cases_word)
  pub default : node_word w k default_word ≤ nodes_most

pub record SwitchNodeAsked (w : List ℕ) (k : ℕ) (tree : List ℕ) (f : Reach) : Type 0 where
  pub sound : SwitchSound w k
  pub tree_room_holds : tree_room ≤ length tree
  pub counted : Counted f.uses
  pub nodes_fit : f.nodes < nodes_most
  pub cases_fit : f.cases + (node_word w k cases_word + node_word w k tail_cases_word) ≤ cases_most

pub record SwitchAsked (w : List ℕ) (k at : ℕ) (tree : List ℕ) (f : Reach) : Type 0 where
  pub asked : SwitchNodeAsked w k tree f
  pub start : at ≤ cases_start

pub record PutSwitchNode (w : List ℕ) (stand : ℕ → ℕ) (k : ℕ) (f : Reach) (before after : List ℕ) (r : Uses) : Type 0 where
  pub uses_are : r ≡ switch_uses w k f
  pub bytes_are : after ≡ stored before (node_size * f.nodes) (switch_bytes w stand k f)

-- ---- nodes
unfoldable pub own_out : List ℕ → ℕ → ℕ → (ℕ → ℕ) → ℕ → Out → Out
unfolding bound_out switch_out
own_out w cases_at bindings_at stand k o = pick (eqb (node_kind w k) leaf_node) (bound_out w bindings_at k leaf_node 0 o) (switch_out w cases_at stand k o)

pub record OwnAsked (w : List ℕ) (k cases_at bindings_at : ℕ) (tree : List ℕ) (f : Reach) : Type 0 where
  pub room : arena_end ≤ length w
  pub node : k < nodes_most
  pub leaf : node_kind w k ≡ leaf_node → BoundAsked w k bindings_at tree f
  pub switch : (node_kind w k ≡ leaf_node → ⊥) → SwitchAsked w k cases_at tree f

-- node k with the hoists above it
unfoldable pub node_out : List ℕ → ℕ → ℕ → Places → ℕ → ℕ → Out → Out
unfolding hoists_out own_out stands_at
node_out w cases_at bindings_at x n k o = own_out w cases_at bindings_at (stands_at (clause_node x) n) k (hoists_out w bindings_at x k 0 n o)

-- the m nodes from k on
unfoldable pub nodes_out : List ℕ → ℕ → ℕ → Places → ℕ → ℕ → ℕ → Out → Out
unfolding node_out
nodes_out w cases_at bindings_at x n k zero o = o
nodes_out w cases_at bindings_at x n k (suc m) o = nodes_out w cases_at bindings_at x n (k + 1) m (node_out w cases_at bindings_at x n k o)

-- an arena of so many nodes, and scopes of so many clauses, whose numbers are in range
pub record ArenaSound (w : List ℕ) (nodes : ℕ) (x : Places) (clauses : ℕ) : Type 0 where
  pub room : arena_end ≤ length w
  pub most : nodes ≤ nodes_most
  pub few : clauses ≤ clauses_most
  pub leaf : (k : ℕ) → k < nodes → node_kind w k ≡ leaf_node → LeafSound w k
  pub switch : (k : ℕ) → k < nodes → (node_kind w k ≡ leaf_node → ⊥) → SwitchSound w k
  pub below : (k : ℕ) → k < nodes → (node_kind w k ≡ leaf_node → ⊥) → SwitchInside w k nodes
  pub hoist : (c : ℕ) → c < clauses → clause_node x c < nodes → LeafSound w (get_or x.leaf c 0)

-- a file with room for all that a tree may have
pub record FileRoom (cases_at bindings_at : ℕ) (tree : List ℕ) : Type 0 where
  pub tree_room_holds : tree_room ≤ length tree
  pub cases_start_holds : cases_at ≤ cases_start
  pub bindings_start_holds : bindings_at ≤ bindings_start

pub record NodeAsked (w : List ℕ) (k : ℕ) (x : Places) (clauses : ℕ) (shift : List ℕ) (cases_at bindings_at : ℕ) (tree : List ℕ) (f : Reach) : Type 0 where
  pub nodes : ℕ
  pub sound : ArenaSound w nodes x clauses
  pub shifted : Shifted (clause_node x) clauses nodes shift
  pub inside : k < nodes
  pub file : FileRoom cases_at bindings_at tree
  pub counted : Counted f.uses
  pub within : Within (node_out w cases_at bindings_at x clauses k (out_of tree f)).tops

pub record NodesAsked (w : List ℕ) (nodes : ℕ) (x : Places) (clauses : ℕ) (shift : List ℕ) (cases_at bindings_at : ℕ) (tree : List ℕ) (f : Reach) : Type 0 where
  pub sound : ArenaSound w nodes x clauses
  pub shifted : Shifted (clause_node x) clauses nodes shift
  pub file : FileRoom cases_at bindings_at tree
  pub counted : Counted f.uses
  pub within : Within (nodes_out w cases_at bindings_at x clauses 0 nodes (out_of tree f)).tops
