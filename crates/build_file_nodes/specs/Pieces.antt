-- What one node of the tree before it is hoisted gives to the tree file: the hoists that come to stand above it, and itself.
-- The sections of the hoisted tree are those pieces one after another, in the order of the nodes.
use Rattle.std.specs.Prelude.{ℕ, zero, suc, ◌+◌, Bool, true, false}
use mathlib.Core.List.{List, [], ◌∷◌, ◌++◌}
use Rattle.std.proofs.Math.ListN.{length}
use Rattle.std.proofs.Math.Dec.{eqb}
use Rattle.spec_rules.specs.Kinds.{leaf_node, hoist_node}
use Rattle.spec_rules.specs.Rows.{Path, Binding}
use Rattle.spec_rules.specs.Building.{Tree, Cases, absent, leaf, hoist, switch, listswitch, cnil, ccons}
use Rattle.spec_rules.specs.Hoisting.{how_many, nodes_in, nodes_in_of, bindings_in, bindings_in_of}
use Rattle.spec_rules.specs.TreeFile.{binding_paths, paths_used, paths_used_of, path_number, first_of, node_bytes, cases_in, cases_in_of, default_field, nodes_from, nodes_from_of, case_bytes, cases_from, cases_from_of}
use Rattle.build_arena.specs.Numbered.{joined}
use Rattle.build_scopes.specs.WriterLaws.{stands_at}

-- ---- a part of the tree file
-- so many nodes and their records, so many cases and theirs; its bindings; the paths that it uses, in order
pub record Piece : Type 0 where
  pub nodes : ℕ
  pub node_bytes_holds : List ℕ
  pub cases : ℕ
  pub case_bytes_holds : List ℕ
  pub bindings : List Binding
  pub paths : List Path

unfoldable pub nothing : Piece
nothing = record { nodes = 0; node_bytes_holds = []; cases = 0; case_bytes_holds = []; bindings = []; paths = [] }

-- one behind the other, in each section
unfoldable pub join : Piece → Piece → Piece
join x y =
    record {
      nodes = x.nodes + y.nodes;
      node_bytes_holds = x.node_bytes_holds ++ y.node_bytes_holds;
      cases = x.cases + y.cases;
      case_bytes_holds = x.case_bytes_holds ++ y.case_bytes_holds;
      bindings = x.bindings ++ y.bindings;
      paths = x.paths ++ y.paths;
    }

-- a tree whose first node is k, first case c and first binding b, over the table of paths
unfoldable pub tree_piece : List Path → ℕ → ℕ → ℕ → Tree → Piece
unfolding nodes_in nodes_from cases_in cases_from bindings_in paths_used
tree_piece table k c b a =
    record { nodes = nodes_in a; node_bytes_holds = nodes_from table k c b a; cases = cases_in a; case_bytes_holds = cases_from k a; bindings = bindings_in a; paths = paths_used a }

-- the trees below cases
unfoldable pub cases_piece : List Path → ℕ → ℕ → ℕ → Cases → Piece
unfolding nodes_in nodes_from cases_in cases_from bindings_in paths_used
cases_piece table k c b cs =
    record {
      nodes = nodes_in_of cs;
      node_bytes_holds = nodes_from_of table k c b cs;
      cases = cases_in_of cs;
      case_bytes_holds = cases_from_of k cs;
      bindings = bindings_in_of cs;
      paths = paths_used_of cs;
    }

-- ---- a node's own part
-- a leaf or a hoist, whose first binding is b
unfoldable pub bound_piece : ℕ → ℕ → ℕ → ℕ → List Binding → Piece
unfolding node_bytes first_of binding_paths
bound_piece kind clause child b bs =
    record {
      nodes = 1;
      node_bytes_holds = node_bytes kind clause (first_of (length bs) b) (length bs) child 0;
      cases = 0;
      case_bytes_holds = [];
      bindings = bs;
      paths = binding_paths bs;
    }

-- of the n clauses from i on those that f has, each hoisted above the node after it, of which the first is k
unfoldable pub hoists_piece : (ℕ → Bool) → (ℕ → List Binding) → ℕ → ℕ → ℕ → ℕ → Piece
unfolding nothing join bound_piece
hoists_piece f bs k b i zero = nothing
hoists_piece f bs k b i (suc n) =
    elim (f i) [ true ↦ join (bound_piece hoist_node i (k + 1) b (bs i)) (hoists_piece f bs (k + 1) (b + length (bs i)) (i + 1) n) | false ↦ hoists_piece f bs k b (i + 1) n ]

module _ (table : List Path) (node : ℕ → ℕ) (n : ℕ) where
  -- the cases of a switch, whose first child was node k before hoisting: each child is where it comes to stand
  unfoldable pub shifted_cases : ℕ → Cases → List ℕ
  unfolding case_bytes nodes_in stands_at
  shifted_cases k cnil = []
  shifted_cases k (ccons t at a cs) = case_bytes t at (stands_at node n k) ++ shifted_cases (k + nodes_in a) cs

  -- a switch of either kind, with so many cases and tail cases, which was node k; its first case is c
  unfoldable pub switch_piece : ℕ → ℕ → ℕ → Path → ℕ → ℕ → Cases → Tree → Piece
  unfolding node_bytes path_number first_of default_field stands_at shifted_cases
  switch_piece k c kind p cases tails cs d =
      record {
        nodes = 1;
        node_bytes_holds = node_bytes kind (path_number table p) (first_of (cases + tails) c) cases tails (default_field (stands_at node n (k + 1 + nodes_in_of cs)) d);
        cases = cases + tails;
        case_bytes_holds = shifted_cases (k + 1) cs;
        bindings = [];
        paths = p ∷ [];
      }

  -- the root of a tree without hoists, which was node k
  unfoldable pub own_piece : ℕ → ℕ → ℕ → Tree → Piece
  unfolding nothing bound_piece switch_piece joined
  own_piece k c b absent = nothing
  own_piece k c b (leaf x bs) = bound_piece leaf_node x 0 b bs
  own_piece k c b (hoist x bs a) = nothing
  own_piece k c b (switch p cs d) = switch_piece k c 0 p (how_many cs) 0 cs d
  own_piece k c b (listswitch p cs ts d) = switch_piece k c 1 p (how_many cs) (how_many ts) (joined cs ts) d

  module _ (bs : ℕ → List Binding) where
    -- the hoists above node k
    unfoldable pub above_piece : ℕ → ℕ → Piece
    unfolding hoists_piece stands_at
    above_piece k b = hoists_piece (λ x. eqb (node x) k) bs (stands_at node n k) b 0 n

    -- the hoists and the node
    unfoldable pub node_piece : ℕ → ℕ → ℕ → Tree → Piece
    unfolding join above_piece own_piece
    node_piece k c b s = join (above_piece k b) (own_piece k c (b + length (above_piece k b).bindings) s)

    -- the nodes from k on, one after another
    unfoldable pub over_piece : ℕ → ℕ → ℕ → List Tree → Piece
    unfolding nothing join node_piece
    over_piece k c b [] = nothing
    over_piece k c b (s ∷ ss) =
        join (node_piece k c b s) (over_piece (k + 1) (c + (node_piece k c b s).cases) (b + length (node_piece k c b s).bindings) ss)
