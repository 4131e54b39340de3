-- What a pass over the nodes by their numbers rests on: a reached node's tree stands within the whole, and to go on from a
-- reached node is to reach from the root (`reach_through`). So from a reached switch a child is reached exactly if its branch is possible
-- (`child_reached`, `child_unreached`), its default likewise (`default_reached`, `default_unreached`), and from a reached hoist its child always
-- (`hoist_reached`).
use Prim.Native.Nat.{ℕ, suc, ◌+◌, ◌≤◌, ◌<◌}
use native.Mathlib.Omega.{arith}
use Rattle.std.specs.Prelude.{◌≡◌, Bool}
use Rattle.std.proofs.Math.Path.{refl, ap}
use Rattle.std.proofs.Common.{◌∙◌, ⊎_elim, eqb-true, eq-eqb}
use Rattle.std.proofs.Math.Bool.{true, false}
use Rattle.std.proofs.lemmas.Bool.{false≢true}
use mathlib.Core.List.{List, [], ◌∷◌}
use Rattle.std.proofs.Math.Option.{Option, none, some}
use Rattle.std.proofs.Math.Dec.{eqb}
use Rattle.spec_rules.specs.Rows.{Path, Binding}
use Rattle.spec_rules.specs.Building.{Tree, Cases, absent, leaf, hoist, switch, listswitch, cnil, ccons}
use Rattle.spec_rules.specs.Hoisting.{Fallback, Case, how_many, nodes_in, nodes_in_of}
use Rattle.spec_hoist.specs.Trees.{is_present}
use Rattle.spec_match.specs.ColumnTypes.{retyped}
use Rattle.spec_forgotten.specs.Values.{Passed}
use Rattle.spec_forgotten.specs.Choosing.{Chosen, by_test, by_length, Node, node_of}
use Rattle.spec_forgotten.specs.Shapes.{possible}
use Rattle.spec_forgotten.specs.Search.{Came, onward, if_so, reach}
use Rattle.spec_forgotten.specs.ChildrenLaws.{CaseOf, ChildOf, child_within, default_within}
use Rattle.spec_forgotten.proofs.SearchLaws.{no_came, not_itself, ReachedAt, here, by_child, by_default, reached_at, reach_child, reach_default, onward_some}

-- the tests of a way before those of a further one
unfoldable pub after : List Passed → Option Came → Option Came
unfolding onward
after [] o = o
after (t ∷ ts) o = onward t.node t.branch (after ts o)

module _ (s : List ℕ) where
  -- ---- node n, which is reached from k, has its tree within a; and what is reached from there is reached from k
  pub record Through (types : Path → ℕ) (k : ℕ) (a : Tree) (n : ℕ) (c : Came) : Type 0 where
    pub from : k ≤ n
    pub to : n + nodes_in c.tree ≤ k + nodes_in a
    pub on : (m : ℕ) → n ≤ m → m < n + nodes_in c.tree → reach a s types k m ≡ after c.way (reach c.tree s c.types n m)

  abbrev Passes : Tree → Type 0
  Passes a = (types : Path → ℕ) (k n : ℕ) (c : Came) → reach a s types k n ≡ some c → Through types k a n c

  itself : (types : Path → ℕ) (k : ℕ) (a : Tree) (n : ℕ) (c : Came) → n ≡ k → record { types = types; tree = a; way = [] } ≡ c → Through types k a n c
  unfolding after
  itself types k a n c e same = rw (e, ← same) (record { from = omega arith; to = omega arith; on = λ m l u. refl })

  -- one branch further
  further : (types : Path → ℕ) (k : ℕ) (a : Tree) (n : ℕ) (c d : Came) (b j : ℕ) (types' : Path → ℕ) (x : Tree) → k < j → j + nodes_in x ≤ k + nodes_in a
      → ((m : ℕ) → j ≤ m → m < j + nodes_in x → reach a s types k m ≡ onward k b (reach x s types' j m))
      → c ≡ record { types = d.types; tree = d.tree; way = record { node = k; branch = b } ∷ d.way } → Through types' j x n d → Through types k a n c
  unfolding after
  further types k a n c d b j types' x l m step e r =
      rw e
      (record {
        from = omega (arith, r.from);
        to = omega (arith, r.to);
        on = λ i low high. step i (omega (arith, r.from)) (omega (arith, r.to)) ∙ ap (onward k b) (r.on i low high);
      })

  taken : (b : Bool) → b ≡ true → (o : Option Came) → if_so b (λ on. o) (λ no. none) ≡ o
  unfolding if_so
  taken b h o = rw h

  node_passes : (types : Path → ℕ) (k : ℕ) (a : Tree) (w : Node) → node_of k a ≡ some w → ((d : Chosen) → ChildOf k a d → Passes d.tree) → Passes w.default
      → (n : ℕ) (c : Came) → ReachedAt s types k a w n c → Through types k a n c
  node_passes types k a w e ih ihd n c (here m same) = itself types k a n c m same
  node_passes types k a w e ih ihd n c (by_child d is can onto) =
      let (came, r, same) = onward_some s k (Case d.index) (reach d.tree s (retyped s types w.path d.test) d.node n) c onto in
      let (p, q) = child_within k a w e d is in
      let (x, y) = default_within k a w e in
      further types k a n c came (Case d.index) d.node (retyped s types w.path d.test) d.tree p (omega (arith, q, y))
      (λ m low high. reach_child s types k a w e m d is low high ∙ taken (possible s (types w.path) k a (Case d.index)) can (onward k (Case d.index) (reach d.tree s (retyped s types w.path d.test) d.node m)))
      same (ih d is (retyped s types w.path d.test) d.node n came r)
  node_passes types k a w e ih ihd n c (by_default can onto) =
      let (came, r, same) = onward_some s k Fallback (reach w.default s types w.next n) c onto in
      let (x, y) = default_within k a w e in
      further types k a n c came Fallback w.next types w.default x (omega (arith, y))
      (λ m low high. reach_default s types k a w e m low ∙ taken (possible s (types w.path) k a Fallback) can (onward k Fallback (reach w.default s types w.next m)))
      same (ihd types w.next n came r)

  came_here : (x c : Came) → ◌≡◌ {A = Option Came} (some x) (some c) → x ≡ c
  came_here x c e = cc

  leaf_passes : (types : Path → ℕ) (k d : ℕ) (bs : List Binding) (n : ℕ) (c : Came) → reach (leaf d bs) s types k n ≡ some c → Through types k (leaf d bs) n c
  unfolding reach
  leaf_passes types k d bs n c e = go (eqb n k) refl e
    where
      go : (b : Bool) → eqb n k ≡ b → if_so b (λ here. some (record { types = types; tree = leaf d bs; way = [] })) (λ no. none) ≡ some c → Through types k (leaf d bs) n c
      go true q h = itself types k (leaf d bs) n c (eqb-true n k q) (came_here (record { types = types; tree = leaf d bs; way = [] }) c (unfold if_so in h))
      go false q h = absurd (no_came c (unfold if_so in h))

  hoist_passes : (types : Path → ℕ) (k d : ℕ) (bs : List Binding) (a : Tree) (n : ℕ) (c : Came) → (reach a s types (k + 1) n ≡ some c → Through types (k + 1) a n c)
      → reach (hoist d bs a) s types k n ≡ some c → Through types k (hoist d bs a) n c
  unfolding reach nodes_in
  hoist_passes types k d bs a n c ih e = go (eqb n k) refl e
    where
      below : Through types (k + 1) a n c → Through types k (hoist d bs a) n c
      below r =
          record {
            from = omega (arith, r.from);
            to = omega (arith, r.to);
            on = λ m low high. rw (not_itself k m (omega (arith, r.from))) (unfold if_so in (r.on m low high));
          }

      go : (b : Bool) → eqb n k ≡ b → if_so b (λ here. some (record { types = types; tree = hoist d bs a; way = [] })) (λ below. reach a s types (k + 1) n) ≡ some c → Through types k (hoist d bs a) n c
      go true q h = itself types k (hoist d bs a) n c (eqb-true n k q) (came_here (record { types = types; tree = hoist d bs a; way = [] }) c (unfold if_so in h))
      go false q h = below (ih (unfold if_so in h))

  mutual
    unfolding reach node_of ChildOf CaseOf

    -- THEOREM: to go on from a reached node is to reach from the root
    pub reach_through : (a : Tree) → Passes a
    reach_through absent types k n c e = absurd (no_came c e)
    reach_through (leaf d bs) types k n c e = leaf_passes types k d bs n c e
    reach_through (hoist d bs a) types k n c e = hoist_passes types k d bs a n c (λ q. reach_through a types (k + 1) n c q) e
    reach_through (switch p cs d) types k n c e =
        node_passes types k (switch p cs d) (record { path = p; choose = λ t n. by_test k cs t; next = k + 1 + nodes_in_of cs; default = d }) refl
        (λ x is t1 k1 n1 c1 e1. each_through cs 0 (k + 1) x is t1 k1 n1 c1 e1) (λ t1 k1 n1 c1 e1. reach_through d t1 k1 n1 c1 e1) n c
        (reached_at s types k n c (switch p cs d) (record { path = p; choose = λ t n. by_test k cs t; next = k + 1 + nodes_in_of cs; default = d }) refl e)
    reach_through (listswitch p cs ts d) types k n c e =
        node_passes types k (listswitch p cs ts d) (record { path = p; choose = λ t n. by_length k cs ts n; next = k + 1 + nodes_in_of cs + nodes_in_of ts; default = d }) refl
        (λ x is. ⊎_elim (λ y t1 k1 n1 c1 e1. each_through cs 0 (k + 1) x y t1 k1 n1 c1 e1) (λ y t1 k1 n1 c1 e1. each_through ts (how_many cs) (k + 1 + nodes_in_of cs) x y t1 k1 n1 c1 e1) is)
        (λ t1 k1 n1 c1 e1. reach_through d t1 k1 n1 c1 e1) n c
        (reached_at s types k n c (listswitch p cs ts d) (record { path = p; choose = λ t n. by_length k cs ts n; next = k + 1 + nodes_in_of cs + nodes_in_of ts; default = d }) refl e)

    each_through : (cs : Cases) (i j : ℕ) (d : Chosen) → CaseOf i j cs d → Passes d.tree
    each_through cnil i j d h = absurd h
    each_through (ccons u at a cs) i j d h =
        ⊎_elim (λ e. rw e (λ t1 k1 n1 c1 e1. reach_through a t1 k1 n1 c1 e1)) (λ y t1 k1 n1 c1 e1. each_through cs (i + 1) (j + nodes_in a) d y t1 k1 n1 c1 e1) h

  -- ---- from a reached node to the next, by numbers
  pub after_none : (ts : List Passed) → after ts none ≡ none
  unfolding after onward
  after_none [] = refl
  after_none (t ∷ ts) = ap (onward t.node t.branch) (after_none ts)

  reach_self : (a : Tree) (types : Path → ℕ) (k : ℕ) → is_present a ≡ true → reach a s types k k ≡ some (record { types = types; tree = a; way = [] })
  unfolding reach is_present if_so
  reach_self absent types k h = absurd (false≢true h)
  reach_self (leaf c bs) types k h = rw (eq-eqb k k refl)
  reach_self (hoist c bs a) types k h = rw (eq-eqb k k refl)
  reach_self (switch p cs d) types k h = rw (eq-eqb k k refl)
  reach_self (listswitch p cs ts d) types k h = rw (eq-eqb k k refl)

  some_nodes : (a : Tree) → is_present a ≡ true → 0 < nodes_in a
  unfolding is_present nodes_in
  some_nodes absent h = absurd (false≢true h)
  some_nodes (leaf c bs) h = omega arith
  some_nodes (hoist c bs a) h = omega arith
  some_nodes (switch p cs d) h = omega arith
  some_nodes (listswitch p cs ts d) h = omega arith

  -- node k of the tree b, whose types are `types`, is reached as c
  module _ (types : Path → ℕ) (b : Tree) (k : ℕ) (c : Came) (reached : reach b s types 0 k ≡ some c) where
    through : Through types 0 b k c
    through = reach_through b types 0 k c reached

    module _ (w : Node) (is_node : node_of k c.tree ≡ some w) where
      -- the nodes of a child, where its branch is possible and where it is not
      child_on : (d : Chosen) → ChildOf k c.tree d → (m : ℕ) → d.node ≤ m → m < d.node + nodes_in d.tree
          → reach b s types 0 m
          ≡ after c.way (if_so (possible s (c.types w.path) k c.tree (Case d.index)) (λ on. onward k (Case d.index) (reach d.tree s (retyped s c.types w.path d.test) d.node m)) (λ no. none))
      child_on d is m low high =
          let (p, q) = child_within k c.tree w is_node d is in
          let (x, y) = default_within k c.tree w is_node in
          through.on m (omega (arith, p, low)) (omega (arith, q, y, high)) ∙ ap (after c.way) (reach_child s c.types k c.tree w is_node m d is low high)

      -- THEOREM: a child whose branch is possible is reached, by the tests of the way and its own
      pub child_reached : (d : Chosen) → ChildOf k c.tree d → is_present d.tree ≡ true → possible s (c.types w.path) k c.tree (Case d.index) ≡ true
          → reach b s types 0 d.node ≡ after c.way (onward k (Case d.index) (some (record { types = retyped s c.types w.path d.test; tree = d.tree; way = [] })))
      child_reached d is there can =
          child_on d is d.node (omega arith) (omega (arith, some_nodes d.tree there))
          ∙ ap (λ o. after c.way (if_so o (λ on. onward k (Case d.index) (reach d.tree s (retyped s c.types w.path d.test) d.node d.node)) (λ no. none))) can
          ∙ (unfold if_so in (ap (λ o. after c.way (onward k (Case d.index) o)) (reach_self d.tree (retyped s c.types w.path d.test) d.node there)))

      -- THEOREM: below a branch that is not possible nothing is reached
      pub child_unreached : (d : Chosen) → ChildOf k c.tree d → possible s (c.types w.path) k c.tree (Case d.index) ≡ false
          → (m : ℕ) → d.node ≤ m → m < d.node + nodes_in d.tree → reach b s types 0 m ≡ none
      child_unreached d is can m low high =
          child_on d is m low high
          ∙ ap (λ o. after c.way (if_so o (λ on. onward k (Case d.index) (reach d.tree s (retyped s c.types w.path d.test) d.node m)) (λ no. none))) can
          ∙ (unfold if_so in (after_none c.way))

      default_on : (m : ℕ) → w.next ≤ m → m < w.next + nodes_in w.default
          → reach b s types 0 m
          ≡ after c.way (if_so (possible s (c.types w.path) k c.tree Fallback) (λ on. onward k Fallback (reach w.default s c.types w.next m)) (λ no. none))
      default_on m low high =
          let (x, y) = default_within k c.tree w is_node in
          through.on m (omega (arith, x, low)) (omega (arith, y, high)) ∙ ap (after c.way) (reach_default s c.types k c.tree w is_node m low)

      -- THEOREM: a default that is possible is reached, and below one that is not nothing is
      pub default_reached : is_present w.default ≡ true → possible s (c.types w.path) k c.tree Fallback ≡ true
          → reach b s types 0 w.next ≡ after c.way (onward k Fallback (some (record { types = c.types; tree = w.default; way = [] })))
      default_reached there can =
          default_on w.next (omega arith) (omega (arith, some_nodes w.default there))
          ∙ ap (λ o. after c.way (if_so o (λ on. onward k Fallback (reach w.default s c.types w.next w.next)) (λ no. none))) can
          ∙ (unfold if_so in (ap (λ o. after c.way (onward k Fallback o)) (reach_self w.default c.types w.next there)))

      pub default_unreached : possible s (c.types w.path) k c.tree Fallback ≡ false → (m : ℕ) → w.next ≤ m → m < w.next + nodes_in w.default → reach b s types 0 m ≡ none
      default_unreached can m low high =
          default_on m low high
          ∙ ap (λ o. after c.way (if_so o (λ on. onward k Fallback (reach w.default s c.types w.next m)) (λ no. none))) can
          ∙ (unfold if_so in (after_none c.way))

    -- THEOREM: the child of a reached hoist is reached, by the same tests
    pub hoist_reached : (x : ℕ) (bs : List Binding) (a : Tree) → c.tree ≡ hoist x bs a → is_present a ≡ true
        → reach b s types 0 (k + 1) ≡ after c.way (some (record { types = c.types; tree = a; way = [] }))
    unfolding reach nodes_in
    hoist_reached x bs a e there =
        let n : nodes_in c.tree ≡ suc (nodes_in a) = ap nodes_in e in
        through.on (k + 1) (omega arith) (omega (arith, n, some_nodes a there))
        ∙ ap (λ y. after c.way (reach y s c.types k (k + 1))) e
        ∙ ap (after c.way) (rw (not_itself k (k + 1) (omega arith)) (unfold if_so in (reach_self a c.types (k + 1) there)))
