-- The walk of a value at a node is what the node chooses by the part at its path (`walk_node`).
use Rattle.std.specs.Prelude.{ℕ, zero, suc, ◌+◌, ◌≡◌, Bool, eqb}
use Rattle.std.proofs.Common.{arith, ap, ◌∙◌}
use Rattle.std.proofs.Math.Path.{refl}
use Rattle.std.proofs.Math.Bool.{true, false}
use Rattle.std.proofs.Math.Option.{Option, none, some}
use Rattle.base_words.specs.Words.{pick}
use Rattle.spec_rules.specs.Rows.{Path}
use Rattle.spec_rules.specs.Splitting.{Test, ListOf, ListWithTail, same_test}
use Rattle.spec_rules.specs.Building.{Tree, Cases, absent, leaf, hoist, switch, listswitch, cnil, ccons}
use Rattle.spec_rules.specs.Hoisting.{Case, how_many, nodes_in, nodes_in_of}
use Rattle.spec_rules.specs.Walking.{test_kind, first_kind, largest_tail}
use Rattle.spec_forgotten.specs.Values.{Value, part_along, shows, length_of, Ended, stuck_on, took, fell, on_test, on_part, on_count, on_length, on_tail, on_same, walk_on, cases_on}
use Rattle.spec_forgotten.specs.PuttingLaws.{on_shows}
use Rattle.spec_forgotten.specs.Choosing.{Chosen, lookup, by_test, tail_of, or_tail, by_length, Node, node_of}

pub no_node_there : (w : Node) → ◌≡◌ {A = Option Node} none (some w) → ⊥
no_node_there w e = let z : ◌≡◌ {A = ℕ} 0 1 = cc in absurd (omega arith)

abbrev enter : ℕ → Option Chosen → Value → Ended → Ended
enter k none v otherwise = otherwise
enter k (some c) v otherwise = took k (Case c.index) (walk_on c.node c.tree v)

cases_lookup : (k i j : ℕ) (cs : Cases) (t : Test) (v : Value) (otherwise : Unit {0} → Ended) → cases_on k i j cs t v otherwise ≡ enter k (lookup i j cs t) v (otherwise tt)
unfolding cases_on lookup on_same
cases_lookup k i j cnil t v otherwise = refl
cases_lookup k i j (ccons u at a cs) t v otherwise = go (same_test t u) (cases_lookup k (i + 1) (j + nodes_in a) cs t v otherwise)
  where
    go : (b : Bool) → cases_on k (i + 1) (j + nodes_in a) cs t v otherwise ≡ enter k (lookup (i + 1) (j + nodes_in a) cs t) v (otherwise tt)
        → on_same b (λ go. took k (Case i) (walk_on j a v)) (λ on. cases_on k (i + 1) (j + nodes_in a) cs t v otherwise)
        ≡ enter k (elim b as (λ z. Option Chosen) [ true ↦ some (record { test = u; index = i; node = j; tree = a }) | false ↦ lookup (i + 1) (j + nodes_in a) cs t ]) v (otherwise tt)
    go true ih = refl
    go false ih = ih

abbrev pub choose_at : Node → Value → Option (Option Chosen)
choose_at w v = w.choose (on_shows shows (part_along w.path v)) (on_shows length_of (part_along w.path v))

abbrev pub go_on : ℕ → Node → Value → Option (Option Chosen) → Ended
go_on k w v none = stuck_on
go_on k w v (some o) = enter k o v (fell k (walk_on w.next w.default v))

-- the walk at a node is what it chooses
module _ (k : ℕ) (v : Value) where
  walk_switch : (p : Path) (cs : Cases) (d : Tree) (w : Node) → node_of k (switch p cs d) ≡ some w → walk_on k (switch p cs d) v ≡ go_on k w v (choose_at w v)
  unfolding node_of walk_on on_part on_test by_test
  walk_switch p cs d w e = let x : record { path = p; choose = λ t n. by_test k cs t; next = k + 1 + nodes_in_of cs; default = d } ≡ w = cc in rw (← x) (go (part_along p v))
    where
      same : (t : Test) (b : Bool) → elim b as (λ z. Ended) [ true ↦ cases_on k 0 (k + 1) cs t v (λ else. fell k (walk_on (k + 1 + nodes_in_of cs) d v)) | false ↦ stuck_on ]
          ≡ go_on k (record { path = p; choose = λ t n. by_test k cs t; next = k + 1 + nodes_in_of cs; default = d }) v (pick b (some (lookup 0 (k + 1) cs t)) none)
      same t true = cases_lookup k 0 (k + 1) cs t v (λ else. fell k (walk_on (k + 1 + nodes_in_of cs) d v))
      same t false = refl

      shown : (o : Option Test) → on_test (first_kind cs) o (λ t. cases_on k 0 (k + 1) cs t v (λ else. fell k (walk_on (k + 1 + nodes_in_of cs) d v)))
          ≡ go_on k (record { path = p; choose = λ t n. by_test k cs t; next = k + 1 + nodes_in_of cs; default = d }) v (by_test k cs o)
      shown none = refl
      shown (some t) = same t (eqb (test_kind t) (first_kind cs))

      go : (o : Option Value) → on_part (first_kind cs) o (λ t. cases_on k 0 (k + 1) cs t v (λ else. fell k (walk_on (k + 1 + nodes_in_of cs) d v)))
          ≡ go_on k (record { path = p; choose = λ t n. by_test k cs t; next = k + 1 + nodes_in_of cs; default = d }) v (by_test k cs (on_shows shows o))
      go none = refl
      go (some x) = shown (shows x)

  walk_list : (p : Path) (cs ts : Cases) (d : Tree) (w : Node) → node_of k (listswitch p cs ts d) ≡ some w → walk_on k (listswitch p cs ts d) v ≡ go_on k w v (choose_at w v)
  unfolding node_of walk_on on_length on_count by_length on_tail tail_of
  walk_list p cs ts d w e =
      let x : record { path = p; choose = λ t n. by_length k cs ts n; next = k + 1 + nodes_in_of cs + nodes_in_of ts; default = d } ≡ w = cc in rw (← x) (go (part_along p v))
    where
      other : Ended
      other = fell k (walk_on (k + 1 + nodes_in_of cs + nodes_in_of ts) d v)

      tails : (m : ℕ) → on_tail m (λ j. cases_on k (how_many cs) (k + 1 + nodes_in_of cs) ts (ListWithTail j) v (λ else. fell k (walk_on (k + 1 + nodes_in_of cs + nodes_in_of ts) d v)))
          (λ else. fell k (walk_on (k + 1 + nodes_in_of cs + nodes_in_of ts) d v))
          ≡ enter k (tail_of (how_many cs) (k + 1 + nodes_in_of cs) ts m) v (fell k (walk_on (k + 1 + nodes_in_of cs + nodes_in_of ts) d v))
      tails zero = refl
      tails (suc j) = cases_lookup k (how_many cs) (k + 1 + nodes_in_of cs) ts (ListWithTail j) v (λ else. fell k (walk_on (k + 1 + nodes_in_of cs + nodes_in_of ts) d v))

      exact : (o q : Option Chosen) (x : Ended) → enter k o v (enter k q v x) ≡ enter k (or_tail o q) v x
      exact none q x = refl
      exact (some c) q x = refl

      long : (o : Option ℕ) → on_count o
          (λ n. cases_on k 0 (k + 1) cs (ListOf n) v
          (λ else. on_tail (largest_tail n ts)
          (λ j. cases_on k (how_many cs) (k + 1 + nodes_in_of cs) ts (ListWithTail j) v (λ else. fell k (walk_on (k + 1 + nodes_in_of cs + nodes_in_of ts) d v)))
          (λ else. fell k (walk_on (k + 1 + nodes_in_of cs + nodes_in_of ts) d v))))
          ≡ go_on k (record { path = p; choose = λ t n. by_length k cs ts n; next = k + 1 + nodes_in_of cs + nodes_in_of ts; default = d }) v (by_length k cs ts o)
      long none = refl
      long (some n) =
          cases_lookup k 0 (k + 1) cs (ListOf n) v
          (λ else. on_tail (largest_tail n ts)
          (λ j. cases_on k (how_many cs) (k + 1 + nodes_in_of cs) ts (ListWithTail j) v (λ else. fell k (walk_on (k + 1 + nodes_in_of cs + nodes_in_of ts) d v)))
          (λ else. fell k (walk_on (k + 1 + nodes_in_of cs + nodes_in_of ts) d v)))
          ∙ ap (enter k (lookup 0 (k + 1) cs (ListOf n)) v) (tails (largest_tail n ts))
          ∙ exact (lookup 0 (k + 1) cs (ListOf n)) (tail_of (how_many cs) (k + 1 + nodes_in_of cs) ts (largest_tail n ts)) (fell k (walk_on (k + 1 + nodes_in_of cs + nodes_in_of ts) d v))

      go : (o : Option Value) → on_length o
          (λ n. cases_on k 0 (k + 1) cs (ListOf n) v
          (λ else. on_tail (largest_tail n ts)
          (λ j. cases_on k (how_many cs) (k + 1 + nodes_in_of cs) ts (ListWithTail j) v (λ else. fell k (walk_on (k + 1 + nodes_in_of cs + nodes_in_of ts) d v)))
          (λ else. fell k (walk_on (k + 1 + nodes_in_of cs + nodes_in_of ts) d v))))
          ≡ go_on k (record { path = p; choose = λ t n. by_length k cs ts n; next = k + 1 + nodes_in_of cs + nodes_in_of ts; default = d }) v (by_length k cs ts (on_shows length_of o))
      go none = refl
      go (some x) = long (length_of x)

  pub walk_node : (a : Tree) (w : Node) → node_of k a ≡ some w → walk_on k a v ≡ go_on k w v (choose_at w v)
  walk_node absent w e = absurd (no_node_there w (unfold node_of in e))
  walk_node (leaf c bs) w e = absurd (no_node_there w (unfold node_of in e))
  walk_node (hoist c bs a) w e = absurd (no_node_there w (unfold node_of in e))
  walk_node (switch p cs d) w e = walk_switch p cs d w e
  walk_node (listswitch p cs ts d) w e = walk_list p cs ts d w e
