-- The search for the lowest switch that some value falls out of, over a tree by node numbers. A node is reached where each branch on the
-- way to it is possible, asked alone (`reach`: its tree, the types of its columns, and the tests on the way); a reached switch without
-- default is the answer if its missing default is possible, and the lowest of them is reported.
use Rattle.std.specs.Prelude.{ℕ, ◌+◌, Bool, true, false, not, List, [], ◌∷◌, eqb, ltb}
use Rattle.std.proofs.Math.Option.{Option, none, some}
use Rattle.base_words.specs.Words.{both}
use Rattle.spec_rules.specs.Searching.{lowest}
use Rattle.spec_rules.specs.SheetFile.{subject}
use Rattle.spec_rules.specs.Rows.{Path}
use Rattle.spec_rules.specs.Building.{Tree, Cases, absent, leaf, hoist, switch, listswitch, cnil, ccons}
use Rattle.spec_rules.specs.Hoisting.{Fallback, Case, how_many, nodes_in, nodes_in_of}
use Rattle.spec_hoist.specs.Trees.{is_present}
use Rattle.spec_match.specs.ColumnTypes.{type_after, retyped}
use Rattle.spec_forgotten.specs.Values.{Passed}
use Rattle.spec_forgotten.specs.Shapes.{possible}

-- a node that is reached: what stands there, the types at its columns' paths, and the tests on the way
pub record Came : Type 0 where
  pub types : Path → ℕ
  pub tree : Tree
  pub way : List Passed

-- by branch b of switch k
unfoldable pub onward : ℕ → ℕ → Option Came → Option Came
onward k b none = none
onward k b (some c) = some (record { types = c.types; tree = c.tree; way = record { node = k; branch = b } ∷ c.way })

unfoldable pub if_so : Bool → (Unit {0} → Option Came) → (Unit {0} → Option Came) → Option Came
if_so true go otherwise = go tt
if_so false go otherwise = otherwise tt

-- node n of a tree whose first node is k
unfoldable mutual
  unfolding possible onward if_so retyped how_many nodes_in nodes_in_of

  pub reach : Tree → List ℕ → (Path → ℕ) → ℕ → ℕ → Option Came
  reach absent s types k n = none
  reach (leaf c bs) s types k n = if_so (eqb n k) (λ here. some (record { types = types; tree = leaf c bs; way = [] })) (λ no. none)
  reach (hoist c bs a) s types k n =
      if_so (eqb n k) (λ here. some (record { types = types; tree = hoist c bs a; way = [] })) (λ below. reach a s types (k + 1) n)
  reach (switch p cs d) s types k n =
      if_so (eqb n k) (λ here. some (record { types = types; tree = switch p cs d; way = [] }))
      (λ below. reach_in cs s types p (possible s (types p) k (switch p cs d)) k 0 (k + 1) n
      (λ else. if_so (possible s (types p) k (switch p cs d) Fallback) (λ on. onward k Fallback (reach d s types (k + 1 + nodes_in_of cs) n)) (λ no. none)))
  reach (listswitch p cs ts d) s types k n =
      if_so (eqb n k) (λ here. some (record { types = types; tree = listswitch p cs ts d; way = [] }))
      (λ below. reach_in cs s types p (possible s (types p) k (listswitch p cs ts d)) k 0 (k + 1) n
      (λ tails. reach_in ts s types p (possible s (types p) k (listswitch p cs ts d)) k (how_many cs) (k + 1 + nodes_in_of cs) n
      (λ else. if_so (possible s (types p) k (listswitch p cs ts d) Fallback) (λ on. onward k Fallback (reach d s types (k + 1 + nodes_in_of cs + nodes_in_of ts) n)) (λ no. none))))

  -- in the cases of switch k from case i on, the first of them with its child at node j
  pub reach_in : Cases → List ℕ → (Path → ℕ) → Path → (ℕ → Bool) → ℕ → ℕ → ℕ → ℕ → (Unit {0} → Option Came) → Option Came
  reach_in cnil s types p can k i j n otherwise = otherwise tt
  reach_in (ccons u at a cs) s types p can k i j n otherwise =
      if_so (ltb n (j + nodes_in a))
      (λ here. if_so (can (Case i)) (λ on. onward k (Case i) (reach a s (retyped s types p u) j n)) (λ no. none))
      (λ later. reach_in cs s types p can k (i + 1) (j + nodes_in a) n otherwise)

-- ---- falling out
unfoldable pub path_of : Tree → Path
path_of absent = []
path_of (leaf c bs) = []
path_of (hoist c bs a) = []
path_of (switch p cs d) = p
path_of (listswitch p cs ts d) = p

unfoldable pub lacks_default : Tree → Bool
unfolding is_present
lacks_default absent = false
lacks_default (leaf c bs) = false
lacks_default (hoist c bs a) = false
lacks_default (switch p cs d) = not (is_present d)
lacks_default (listswitch p cs ts d) = not (is_present d)

unfoldable pub falls_out : List ℕ → ℕ → Option Came → Bool
unfolding lacks_default path_of possible
falls_out s n none = false
falls_out s n (some c) = both (lacks_default c.tree) (possible s (c.types (path_of c.tree)) n c.tree Fallback)

-- ---- "the lowest-numbered switch without a default that some panel of the subject type leaves without a leaf"
unfoldable pub lowest_gap : List ℕ → Tree → Option ℕ
unfolding lowest falls_out reach nodes_in subject
lowest_gap s b = lowest (λ n. falls_out s n (reach b s (type_after s (subject s)) 0 n)) 0 (nodes_in b)

-- "with the tests taken on the way"
unfoldable pub way_of : Option Came → List Passed
way_of none = []
way_of (some c) = c.way

unfoldable pub way_to : List ℕ → Tree → ℕ → List Passed
unfolding way_of reach subject
way_to s b n = way_of (reach b s (type_after s (subject s)) 0 n)
