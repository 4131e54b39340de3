-- 01, "The tree file": the bytes that a tree is written as.
-- Nodes, cases and bindings follow in node order; paths and steps by first use.
use Rattle.std.specs.Prelude.{ℕ, zero, suc, ◌+◌, Bool, true, false, List, [], ◌∷◌, ◌++◌, length}
use Rattle.base_words.specs.Words.{word_bytes, either}
use Rattle.spec_rules.specs.Kinds.{switch_node, list_switch_node, leaf_node, hoist_node, constr_case, int_case, bytes_case, list_case, list_with_tail_case, pair_step, tuple_step, constr_step, list_step, listtail_step}
use Rattle.spec_rules.specs.Sections.{file_of}
use Rattle.spec_rules.specs.Rows.{Step, pair, tuple, constr, list, listtail, Path, bit, same_path, Binding}
use Rattle.spec_rules.specs.Splitting.{Test, Constr, Int, Bytes, ListOf, ListWithTail}
use Rattle.spec_rules.specs.Building.{Tree, Cases, absent, leaf, hoist, switch, listswitch, cnil, ccons}
use Rattle.spec_rules.specs.Hoisting.{how_many, nodes_in, nodes_in_of, bindings_in, bindings_in_of}

-- ---- the paths: "by first use in node order, one where every step field is equal"
unfoldable pub binding_paths : List Binding → List Path
binding_paths [] = []
binding_paths (b ∷ bs) = b.path ∷ binding_paths bs

-- the paths that a tree's nodes use, in node order
unfoldable mutual
  unfolding binding_paths

  pub paths_used : Tree → List Path
  paths_used absent = []
  paths_used (leaf c bs) = binding_paths bs
  paths_used (hoist c bs a) = binding_paths bs ++ paths_used a
  paths_used (switch p cs d) = p ∷ (paths_used_of cs ++ paths_used d)
  paths_used (listswitch p cs ts d) = p ∷ (paths_used_of cs ++ (paths_used_of ts ++ paths_used d))

  pub paths_used_of : Cases → List Path
  paths_used_of cnil = []
  paths_used_of (ccons t at a cs) = paths_used a ++ paths_used_of cs

unfoldable pub is_among : Path → List Path → Bool
unfolding same_path
is_among p [] = false
is_among p (q ∷ qs) = either (same_path p q) (is_among p qs)

-- those that are new, in order, behind the ones already there
unfoldable pub first_uses : List Path → List Path → List Path
unfolding is_among
first_uses there [] = there
first_uses there (p ∷ ps) = elim (is_among p there) [ true ↦ first_uses there ps | false ↦ first_uses (there ++ p ∷ []) ps ]

unfoldable pub path_table : Tree → List Path
unfolding paths_used first_uses
path_table a = first_uses [] (paths_used a)

-- a path's number in the table
unfoldable pub path_number : List Path → Path → ℕ
unfolding same_path
path_number [] p = 0
path_number (q ∷ qs) p = elim (same_path p q) [ true ↦ 0 | false ↦ suc (path_number qs p) ]

-- ---- records
-- "first 0 at count 0"
unfoldable pub first_of : ℕ → ℕ → ℕ
first_of zero first = 0
first_of (suc count) first = first

-- "Nodes .., 12 bytes: kind byte, zero byte, five u16"
unfoldable pub node_bytes : ℕ → ℕ → ℕ → ℕ → ℕ → ℕ → List ℕ
node_bytes kind a b c d e = kind ∷ 0 ∷ (word_bytes a ++ (word_bytes b ++ (word_bytes c ++ (word_bytes d ++ word_bytes e))))

-- how many cases a tree has
unfoldable mutual
  unfolding how_many

  pub cases_in : Tree → ℕ
  cases_in absent = 0
  cases_in (leaf c bs) = 0
  cases_in (hoist c bs a) = cases_in a
  cases_in (switch p cs d) = how_many cs + (cases_in_of cs + cases_in d)
  cases_in (listswitch p cs ts d) = how_many cs + (how_many ts + (cases_in_of cs + (cases_in_of ts + cases_in d)))

  pub cases_in_of : Cases → ℕ
  cases_in_of cnil = 0
  cases_in_of (ccons t at a cs) = cases_in a + cases_in_of cs

-- "default node + 1 or 0": the default, if there is one, is node k
unfoldable pub default_field : ℕ → Tree → ℕ
default_field k absent = 0
default_field k (leaf c bs) = suc k
default_field k (hoist c bs a) = suc k
default_field k (switch p cs d) = suc k
default_field k (listswitch p cs ts d) = suc k

-- The nodes of a tree whose first node is number k, whose first case is c and whose first binding is b; table has the paths.
-- "Nodes in pre-order (hoist before its child; cases, tail cases, default), .. 0 switch and 1 list switch: path, first case, cases,
-- tail cases, default node + 1 or 0. 2 leaf: clause, first binding, count. 3 hoist: clause, first binding, count, child"
unfoldable mutual
  unfolding path_number node_bytes first_of default_field how_many nodes_in nodes_in_of cases_in cases_in_of bindings_in bindings_in_of

  pub nodes_from : List Path → ℕ → ℕ → ℕ → Tree → List ℕ
  nodes_from table k c b absent = []
  nodes_from table k c b (leaf x bs) = node_bytes leaf_node x (first_of (length bs) b) (length bs) 0 0
  nodes_from table k c b (hoist x bs a) = node_bytes hoist_node x (first_of (length bs) b) (length bs) (k + 1) 0 ++ nodes_from table (k + 1) c (b + length bs) a
  nodes_from table k c b (switch p cs d) =
      node_bytes switch_node (path_number table p) (first_of (how_many cs) c) (how_many cs) 0 (default_field (k + 1 + nodes_in_of cs) d)
      ++ (nodes_from_of table (k + 1) (c + how_many cs) b cs
      ++ nodes_from table (k + 1 + nodes_in_of cs) (c + how_many cs + cases_in_of cs) (b + length (bindings_in_of cs)) d)
  nodes_from table k c b (listswitch p cs ts d) =
      node_bytes list_switch_node (path_number table p) (first_of (how_many cs + how_many ts) c) (how_many cs) (how_many ts) (default_field (k + 1 + nodes_in_of cs + nodes_in_of ts) d)
      ++ (nodes_from_of table (k + 1) (c + how_many cs + how_many ts) b cs
      ++ (nodes_from_of table (k + 1 + nodes_in_of cs) (c + how_many cs + how_many ts + cases_in_of cs) (b + length (bindings_in_of cs)) ts
      ++ nodes_from table (k + 1 + nodes_in_of cs + nodes_in_of ts) (c + how_many cs + how_many ts + cases_in_of cs + cases_in_of ts) (b + length (bindings_in_of cs) + length (bindings_in_of ts)) d))

  pub nodes_from_of : List Path → ℕ → ℕ → ℕ → Cases → List ℕ
  nodes_from_of table k c b cnil = []
  nodes_from_of table k c b (ccons t at a cs) =
      nodes_from table k c b a ++ nodes_from_of table (k + nodes_in a) (c + cases_in a) (b + length (bindings_in a)) cs

-- "Cases, 8 bytes: kind (0 Constr, 1 Int, 2 Bytes, 3 List, 4 ListWithTail), zero byte, number or text start, text length, child"
unfoldable pub case_bytes : Test → ℕ → ℕ → List ℕ
case_bytes (Constr a) start child = constr_case ∷ 0 ∷ (word_bytes a ++ (word_bytes 0 ++ word_bytes child))
case_bytes (Int w) start child = int_case ∷ 0 ∷ (word_bytes start ++ (word_bytes (length w) ++ word_bytes child))
case_bytes (Bytes w) start child = bytes_case ∷ 0 ∷ (word_bytes start ++ (word_bytes (length w) ++ word_bytes child))
case_bytes (ListOf n) start child = list_case ∷ 0 ∷ (word_bytes n ++ (word_bytes 0 ++ word_bytes child))
case_bytes (ListWithTail n) start child = list_with_tail_case ∷ 0 ∷ (word_bytes n ++ (word_bytes 0 ++ word_bytes child))

-- the cases of one switch, whose first child is node k
unfoldable pub own_cases : ℕ → Cases → List ℕ
unfolding case_bytes nodes_in
own_cases k cnil = []
own_cases k (ccons t at a cs) = case_bytes t at k ++ own_cases (k + nodes_in a) cs

-- the cases of a tree whose first node is number k
unfoldable mutual
  unfolding own_cases nodes_in nodes_in_of

  pub cases_from : ℕ → Tree → List ℕ
  cases_from k absent = []
  cases_from k (leaf x bs) = []
  cases_from k (hoist x bs a) = cases_from (k + 1) a
  cases_from k (switch p cs d) = own_cases (k + 1) cs ++ (cases_from_of (k + 1) cs ++ cases_from (k + 1 + nodes_in_of cs) d)
  cases_from k (listswitch p cs ts d) =
      own_cases (k + 1) cs
      ++ (own_cases (k + 1 + nodes_in_of cs) ts
      ++ (cases_from_of (k + 1) cs
      ++ (cases_from_of (k + 1 + nodes_in_of cs) ts
      ++ cases_from (k + 1 + nodes_in_of cs + nodes_in_of ts) d)))

  pub cases_from_of : ℕ → Cases → List ℕ
  cases_from_of k cnil = []
  cases_from_of k (ccons t at a cs) = cases_from k a ++ cases_from_of (k + nodes_in a) cs

-- "Bindings: name, path"
unfoldable pub bindings_bytes : List Path → List Binding → List ℕ
unfolding path_number
bindings_bytes table [] = []
bindings_bytes table (b ∷ bs) = word_bytes b.name ++ (word_bytes (path_number table b.path) ++ bindings_bytes table bs)

-- "Paths: first step, count"; the first path's steps start at `at`
unfoldable pub paths_bytes : ℕ → List Path → List ℕ
unfolding first_of
paths_bytes at [] = []
paths_bytes at (p ∷ ps) = word_bytes (first_of (length p) at) ++ (word_bytes (length p) ++ paths_bytes (at + length p) ps)

-- "Steps, 6 bytes: kind 0 pair, 1 tuple, 2 constr, 3 list, 4 listtail; flag; index; type of the part stepped from"
unfoldable pub step_bytes : Step → List ℕ
unfolding bit
step_bytes (pair i t) = pair_step ∷ 0 ∷ (word_bytes i ++ word_bytes t)
step_bytes (tuple i t) = tuple_step ∷ 0 ∷ (word_bytes i ++ word_bytes t)
step_bytes (constr i b t) = constr_step ∷ bit b ∷ (word_bytes i ++ word_bytes t)
step_bytes (list i t) = list_step ∷ 0 ∷ (word_bytes i ++ word_bytes t)
step_bytes (listtail i t) = listtail_step ∷ 0 ∷ (word_bytes i ++ word_bytes t)

unfoldable pub path_steps : Path → List ℕ
unfolding step_bytes
path_steps [] = []
path_steps (s ∷ ss) = step_bytes s ++ path_steps ss

unfoldable pub steps_bytes : List Path → List ℕ
unfolding path_steps
steps_bytes [] = []
steps_bytes (p ∷ ps) = path_steps p ++ steps_bytes ps

-- ---- the file
-- nodes, cases, bindings, paths, steps; "Then the sheet's pool"
unfoldable pub tree_sections : List ℕ → List Path → Tree → List (List ℕ)
unfolding nodes_from cases_from bindings_in bindings_bytes paths_bytes steps_bytes
tree_sections pool table a =
    nodes_from table 0 0 0 a
    ∷ cases_from 0 a
    ∷ bindings_bytes table (bindings_in a)
    ∷ paths_bytes 0 table
    ∷ steps_bytes table
    ∷ pool
    ∷ []

unfoldable pub tree_file : List ℕ → Tree → List ℕ
unfolding file_of tree_sections path_table
tree_file pool a = file_of (tree_sections pool (path_table a) a)
