-- A tree's records placed in a file: what stands at a node's numbers, opened one level, gives the node's fields and places its
-- subtrees at theirs. Reading the tree back and keeping the reader's rules are recursions over this.
use Rattle.std.specs.Prelude.{◌≡◌, List, ◌∷◌, ◌++◌, ℕ, ◌+◌, ◌*◌, ◌<◌, length}
use Rattle.std.proofs.Common.{arith, add-zero}
use Rattle.spec_rules.specs.Limits.{case_size}
use Rattle.spec_rules.specs.Kinds.{switch_node, list_switch_node, leaf_node, hoist_node}
use Rattle.spec_rules.specs.Rows.{Path, Binding}
use Rattle.spec_rules.specs.Splitting.{Test}
use Rattle.spec_rules.specs.Building.{Tree, Cases, leaf, hoist, switch, listswitch, ccons}
use Rattle.spec_rules.specs.Hoisting.{how_many, nodes_in, nodes_in_of, bindings_in, bindings_in_of}
use Rattle.spec_rules.specs.TreeFile.{binding_paths, paths_used, paths_used_of, path_number, first_of, cases_in, cases_in_of, default_field, case_bytes, own_cases}
use Rattle.spec_rules.specs.TreeReader.{tree_nodes_at, tree_cases_at, tree_bindings_at, paths, path_at, bindings_from}
use Rattle.spec_file.specs.PathsLaws.{Covers, covers_left, covers_right, covers_first, covers_rest}
use Rattle.spec_file.specs.StandingLaws.{Stands, stands_left, stands_right}
use Rattle.spec_file.specs.LengthLaws.{length_own_cases}
use Rattle.spec_file.specs.FileLaws.{Filed}
use Rattle.spec_file.specs.RecordsLaws.{NodeIs, node_is, CaseIs, case_is}
use Rattle.spec_file.specs.TableLaws.{Tabled, tabled, bindings_read}
use Rattle.spec_file.specs.TreeStands.{Starts, TreeStands, TreeStandsOf}
use Rattle.spec_file.specs.TreeStandsLaws.{tree_stands}

-- where a file's sections start
abbrev pub file_starts : List ℕ → Starts
file_starts t = record { nodes = tree_nodes_at t; cases = tree_cases_at t; bindings = tree_bindings_at t }

-- the records of the tree a, whose first node is k, first case c and first binding b, and whose paths are in the table
pub record Placed (t : List ℕ) (table : List Path) (k c b : ℕ) (a : Tree) : Type 0 where
  pub stands : TreeStands (file_starts t) t table k c b a
  pub used : Covers table (paths_used a)

-- the records below the cases cs, alike
pub record PlacedOf (t : List ℕ) (table : List Path) (k c b : ℕ) (cs : Cases) : Type 0 where
  pub stands : TreeStandsOf (file_starts t) t table k c b cs
  pub used : Covers table (paths_used_of cs)

-- the path p is number q
pub record PathRead (t : List ℕ) (q : ℕ) (p : Path) : Type 0 where
  pub inside : q < paths t
  pub there : path_at t q ≡ p

pub record LeafAt (t : List ℕ) (b k x : ℕ) (bs : List Binding) : Type 0 where
  pub node : NodeIs t k leaf_node x (first_of (length bs) b) (length bs) 0 0
  pub bound : bindings_from t b (length bs) ≡ bs

pub record HoistAt (t : List ℕ) (table : List Path) (k c b x : ℕ) (bs : List Binding) (a : Tree) : Type 0 where
  pub node : NodeIs t k hoist_node x (first_of (length bs) b) (length bs) (k + 1) 0
  pub bound : bindings_from t b (length bs) ≡ bs
  pub below : Placed t table (k + 1) c (b + length bs) a

pub record SwitchAt (t : List ℕ) (table : List Path) (k c b : ℕ) (p : Path) (cs : Cases) (d : Tree) : Type 0 where
  pub node : NodeIs t k switch_node (path_number table p) (first_of (how_many cs) c) (how_many cs) 0 (default_field (k + 1 + nodes_in_of cs) d)
  pub path : PathRead t (path_number table p) p
  pub own : Stands t (tree_cases_at t + case_size * c) (own_cases (k + 1) cs)
  pub below : PlacedOf t table (k + 1) (c + how_many cs) b cs
  pub default : Placed t table (k + 1 + nodes_in_of cs) (c + how_many cs + cases_in_of cs) (b + length (bindings_in_of cs)) d

pub record ListSwitchAt (t : List ℕ) (table : List Path) (k c b : ℕ) (p : Path) (cs ts : Cases) (d : Tree) : Type 0 where
  pub node :
      NodeIs t k list_switch_node (path_number table p) (first_of (how_many cs + how_many ts) c) (how_many cs) (how_many ts) (default_field (k + 1 + nodes_in_of cs + nodes_in_of ts) d)
  pub path : PathRead t (path_number table p) p
  pub own : Stands t (tree_cases_at t + case_size * c) (own_cases (k + 1) cs)
  pub own_tailed : Stands t (tree_cases_at t + case_size * (c + how_many cs)) (own_cases (k + 1 + nodes_in_of cs) ts)
  pub below : PlacedOf t table (k + 1) (c + how_many cs + how_many ts) b cs
  pub below_tailed : PlacedOf t table (k + 1 + nodes_in_of cs) (c + how_many cs + how_many ts + cases_in_of cs) (b + length (bindings_in_of cs)) ts
  pub default :
      Placed t table (k + 1 + nodes_in_of cs + nodes_in_of ts) (c + how_many cs + how_many ts + cases_in_of cs + cases_in_of ts)
      (b + length (bindings_in_of cs) + length (bindings_in_of ts))
      d

-- the first of the own cases of a switch
pub own_first : (t : List ℕ) (i k : ℕ) (u : Test) (start : ℕ) (a : Tree) (cs : Cases)
    → Stands t (tree_cases_at t + case_size * i) (own_cases k (ccons u start a cs)) → CaseIs t i u start k
unfolding own_cases
own_first t i k u start a cs h = case_is t i u start k (stands_left (case_bytes u start k) (own_cases (k + nodes_in a) cs) h)

module _ (t : List ℕ) (table : List Path) (tab : Tabled t table) where
  path_read : (p : Path) (ps : List Path) → Covers table (p ∷ ps) → PathRead t (path_number table p) p
  path_read p ps v =
      let m = covers_first table p ps v in
      record { inside = tab.number_inside p m; there = tab.path_there p m }

  pub leaf_placed : (k c b x : ℕ) (bs : List Binding) → Placed t table k c b (leaf x bs) → LeafAt t b k x bs
  unfolding TreeStands paths_used
  leaf_placed k c b x bs h = record { node = node_is h.stands.0; bound = bindings_read t table tab bs b h.stands.1 h.used }

  pub hoist_placed : (k c b x : ℕ) (bs : List Binding) (a : Tree) → Placed t table k c b (hoist x bs a) → HoistAt t table k c b x bs a
  unfolding TreeStands paths_used
  hoist_placed k c b x bs a h =
      record {
        node = node_is h.stands.0;
        bound = bindings_read t table tab bs b h.stands.1 (covers_left table (binding_paths bs) (paths_used a) h.used);
        below = record { stands = h.stands.2; used = covers_right table (binding_paths bs) (paths_used a) h.used };
      }

  pub switch_placed : (k c b : ℕ) (p : Path) (cs : Cases) (d : Tree) → Placed t table k c b (switch p cs d) → SwitchAt t table k c b p cs d
  unfolding TreeStands paths_used
  switch_placed k c b p cs d h =
      let g = h.stands in
      let v = covers_rest table p (paths_used_of cs ++ paths_used d) h.used in
      record {
        node = node_is g.0;
        path = path_read p (paths_used_of cs ++ paths_used d) h.used;
        own = g.1;
        below = record { stands = g.2; used = covers_left table (paths_used_of cs) (paths_used d) v };
        default = record { stands = g.3; used = covers_right table (paths_used_of cs) (paths_used d) v };
      }

  pub list_switch_placed : (k c b : ℕ) (p : Path) (cs ts : Cases) (d : Tree) → Placed t table k c b (listswitch p cs ts d)
      → ListSwitchAt t table k c b p cs ts d
  unfolding TreeStands paths_used
  list_switch_placed k c b p cs ts d h =
      let g = h.stands in
      let own_cs = own_cases (k + 1) cs in
      let own_ts = own_cases (k + 1 + nodes_in_of cs) ts in
      let v = covers_rest table p (paths_used_of cs ++ (paths_used_of ts ++ paths_used d)) h.used in
      let v₂ = covers_right table (paths_used_of cs) (paths_used_of ts ++ paths_used d) v in
      record {
        node = node_is g.0;
        path = path_read p (paths_used_of cs ++ (paths_used_of ts ++ paths_used d)) h.used;
        own = stands_left own_cs own_ts g.1;
        own_tailed = stands_right own_cs own_ts (tree_cases_at t + case_size * (c + how_many cs)) (omega (arith, length_own_cases (k + 1) cs)) g.1;
        below = record { stands = g.2; used = covers_left table (paths_used_of cs) (paths_used_of ts ++ paths_used d) v };
        below_tailed = record { stands = g.3; used = covers_left table (paths_used_of ts) (paths_used d) v₂ };
        default = record { stands = g.4; used = covers_right table (paths_used_of ts) (paths_used d) v₂ };
      }

-- the subtree of the first case, and those of the rest
module _ (t : List ℕ) (table : List Path) (k c b : ℕ) (u : Test) (start : ℕ) (a : Tree) (cs : Cases) (h : PlacedOf t table k c b (ccons u start a cs)) where
  pub first_placed : Placed t table k c b a
  unfolding TreeStands paths_used
  first_placed = record { stands = h.stands.0; used = covers_left table (paths_used a) (paths_used_of cs) h.used }

  pub rest_placed : PlacedOf t table (k + nodes_in a) (c + cases_in a) (b + length (bindings_in a)) cs
  unfolding TreeStands paths_used
  rest_placed = record { stands = h.stands.1; used = covers_right table (paths_used a) (paths_used_of cs) h.used }

-- the records of the whole tree
pub root_placed : {t pool : List ℕ} {table : List Path} {a : Tree} → Filed t pool table a → Covers table (paths_used a) → Placed t table 0 0 0 a
root_placed {t} {pool} {table} {a} h v =
    record {
      stands = tree_stands (file_starts t) t table a 0 0 0 (rw add-zero h.nodes_stand) (rw add-zero h.cases_stand) (rw add-zero h.bindings_stand);
      used = v;
    }

pub table_read : {t pool : List ℕ} {table : List Path} {a : Tree} → Filed t pool table a → Tabled t table
table_read {t} {pool} {table} h = tabled t table h.paths_are h.paths_stand h.steps_stand
