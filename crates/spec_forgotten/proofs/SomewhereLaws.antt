-- A tree that is there leads a walk to a node: only where a default is absent does a walk come to none.
use Rattle.std.specs.Prelude.{ℕ, zero, suc, ◌+◌, ◌≡◌, Bool, true, false, List, [], ◌∷◌, eqb}
use Rattle.std.proofs.Common.{arith}
use Rattle.std.proofs.lemmas.Bool.{false≢true}
use Rattle.std.proofs.Math.Option.{Option, none, some}
use Rattle.spec_rules.specs.Splitting.{Test, ListOf, ListWithTail, same_test}
use Rattle.spec_rules.specs.Building.{Tree, Cases, absent, leaf, hoist, switch, listswitch, cnil, ccons}
use Rattle.spec_rules.specs.Hoisting.{Fallback, Case, how_many, nodes_in, nodes_in_of}
use Rattle.spec_rules.specs.Walking.{test_kind, first_kind, largest_tail}
use Rattle.spec_hoist.specs.Trees.{is_present, WellMade, WellMadeOf}
use Rattle.spec_forgotten.specs.Values.{Value, part_along, shows, length_of, Passed, Ended, at_clause, without, stuck_on, no_node, took, fell, on_test, on_part, on_count, on_length, on_tail, on_same, walk_on, cases_on}

abbrev pub Somewhere : Ended → Type 0
Somewhere e = e ≡ no_node → ⊥

clause_somewhere : (c : ℕ) → Somewhere (at_clause c)
clause_somewhere c e = let z : ◌≡◌ {A = ℕ} 0 1 = cc in absurd (omega arith)

stuck_somewhere : Somewhere stuck_on
stuck_somewhere e = let z : ◌≡◌ {A = ℕ} 0 1 = cc in absurd (omega arith)

without_somewhere : (n : ℕ) (ts : List Passed) → Somewhere (without n ts)
without_somewhere n ts e = let z : ◌≡◌ {A = ℕ} 0 1 = cc in absurd (omega arith)

took_somewhere : (k b : ℕ) (e : Ended) → Somewhere e → Somewhere (took k b e)
unfolding took
took_somewhere k b (at_clause c) h = h
took_somewhere k b (without n ts) h = without_somewhere n (record { node = k; branch = b } ∷ ts)
took_somewhere k b stuck_on h = h
took_somewhere k b no_node h = h

fell_somewhere : (k : ℕ) (e : Ended) → Somewhere (fell k e)
unfolding fell took
fell_somewhere k (at_clause c) = clause_somewhere c
fell_somewhere k (without n ts) = without_somewhere n (record { node = k; branch = Fallback } ∷ ts)
fell_somewhere k stuck_on = stuck_somewhere
fell_somewhere k no_node = without_somewhere k []

part_somewhere : (kind : ℕ) (o : Option Value) (go : Test → Ended) → ((t : Test) → Somewhere (go t)) → Somewhere (on_part kind o go)
unfolding on_part on_test
part_somewhere kind none go h = stuck_somewhere
part_somewhere kind (some x) go h = shown (shows x)
  where
    shown : (o : Option Test) → Somewhere (on_test kind o go)
    shown none = stuck_somewhere
    shown (some t) = alike (eqb (test_kind t) kind)
      where
        alike : (b : Bool) → Somewhere (elim b as (λ z. Ended) [ true ↦ go t | false ↦ stuck_on ])
        alike true = h t
        alike false = stuck_somewhere

length_somewhere : (o : Option Value) (go : ℕ → Ended) → ((n : ℕ) → Somewhere (go n)) → Somewhere (on_length o go)
unfolding on_length on_count
length_somewhere none go h = stuck_somewhere
length_somewhere (some x) go h = counted (length_of x)
  where
    counted : (o : Option ℕ) → Somewhere (on_count o go)
    counted none = stuck_somewhere
    counted (some n) = h n

tail_somewhere : (m : ℕ) (go : ℕ → Ended) (otherwise : Unit {0} → Ended) → ((n : ℕ) → Somewhere (go n)) → Somewhere (otherwise tt) → Somewhere (on_tail m go otherwise)
unfolding on_tail
tail_somewhere zero go otherwise h k = k
tail_somewhere (suc m) go otherwise h k = h m

same_somewhere : (b : Bool) (go otherwise : Unit {0} → Ended) → Somewhere (go tt) → Somewhere (otherwise tt) → Somewhere (on_same b go otherwise)
unfolding on_same
same_somewhere true go otherwise h k = h
same_somewhere false go otherwise h k = k

module _ (m : ℕ) where
  mutual
    unfolding WellMade is_present walk_on

    pub walk_somewhere : (a : Tree) → WellMade m a → is_present a ≡ true → (k : ℕ) (v : Value) → Somewhere (walk_on k a v)
    walk_somewhere absent w p k v = absurd (false≢true p)
    walk_somewhere (leaf c bs) w p k v = clause_somewhere c
    walk_somewhere (hoist c bs a) w p k v = walk_somewhere a w.2 w.1 (k + 1) v
    walk_somewhere (switch p cs d) w i k v =
        part_somewhere (first_kind cs) (part_along p v) (λ t. cases_on k 0 (k + 1) cs t v (λ else. fell k (walk_on (k + 1 + nodes_in_of cs) d v)))
        (λ t. cases_somewhere cs w.1 k 0 (k + 1) t v (λ else. fell k (walk_on (k + 1 + nodes_in_of cs) d v)) (fell_somewhere k (walk_on (k + 1 + nodes_in_of cs) d v)))
    walk_somewhere (listswitch p cs ts d) w i k v =
        length_somewhere (part_along p v)
        (λ n. cases_on k 0 (k + 1) cs (ListOf n) v
        (λ else. on_tail (largest_tail n ts)
        (λ j. cases_on k (how_many cs) (k + 1 + nodes_in_of cs) ts (ListWithTail j) v (λ else. fell k (walk_on (k + 1 + nodes_in_of cs + nodes_in_of ts) d v)))
        (λ else. fell k (walk_on (k + 1 + nodes_in_of cs + nodes_in_of ts) d v))))
        (λ n. cases_somewhere cs w.1 k 0 (k + 1) (ListOf n) v
        (λ else. on_tail (largest_tail n ts)
        (λ j. cases_on k (how_many cs) (k + 1 + nodes_in_of cs) ts (ListWithTail j) v (λ else. fell k (walk_on (k + 1 + nodes_in_of cs + nodes_in_of ts) d v)))
        (λ else. fell k (walk_on (k + 1 + nodes_in_of cs + nodes_in_of ts) d v)))
        (tail_somewhere (largest_tail n ts)
        (λ j. cases_on k (how_many cs) (k + 1 + nodes_in_of cs) ts (ListWithTail j) v (λ else. fell k (walk_on (k + 1 + nodes_in_of cs + nodes_in_of ts) d v)))
        (λ else. fell k (walk_on (k + 1 + nodes_in_of cs + nodes_in_of ts) d v))
        (λ j. cases_somewhere ts w.2 k (how_many cs) (k + 1 + nodes_in_of cs) (ListWithTail j) v
        (λ else. fell k (walk_on (k + 1 + nodes_in_of cs + nodes_in_of ts) d v)) (fell_somewhere k (walk_on (k + 1 + nodes_in_of cs + nodes_in_of ts) d v)))
        (fell_somewhere k (walk_on (k + 1 + nodes_in_of cs + nodes_in_of ts) d v))))

    cases_somewhere : (cs : Cases) → WellMadeOf m cs → (k i j : ℕ) (t : Test) (v : Value) (otherwise : Unit {0} → Ended) → Somewhere (otherwise tt)
        → Somewhere (cases_on k i j cs t v otherwise)
    cases_somewhere cnil w k i j t v otherwise h = h
    cases_somewhere (ccons u at a cs) w k i j t v otherwise h =
        same_somewhere (same_test t u) (λ go. took k (Case i) (walk_on j a v)) (λ on. cases_on k (i + 1) (j + nodes_in a) cs t v otherwise)
        (took_somewhere k (Case i) (walk_on j a v) (walk_somewhere a w.1 w.0 j v))
        (cases_somewhere cs w.2 k (i + 1) (j + nodes_in a) t v otherwise h)
