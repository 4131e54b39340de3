-- The children of a switch: each has its own branch number and its own range of nodes, and what a switch chooses is one of them.
use Rattle.std.specs.Prelude.{ℕ, ◌+◌, ◌≤◌, ◌<◌, ◌≡◌, ◌⊎◌, Bool, true, false}
use Rattle.std.proofs.Common.{arith, sym, ap, ◌∙◌, inl, inr}
use Rattle.std.proofs.Math.Option.{Option, some}
use Rattle.spec_rules.specs.Splitting.{Test, ListOf, ListWithTail, same_test}
use Rattle.spec_rules.specs.Building.{Tree, Cases, absent, leaf, hoist, switch, listswitch, cnil, ccons}
use Rattle.spec_rules.specs.Hoisting.{how_many, nodes_in, nodes_in_of}
use Rattle.spec_forgotten.specs.Values.{Value, shows, length_of}
use Rattle.spec_forgotten.specs.Choosing.{Chosen, lookup, by_test, by_length, Node, node_of}
use Rattle.spec_forgotten.specs.ReachingLaws.{no_node_there}
use Rattle.spec_forgotten.specs.Shapes.{Shape, shape_of, choose_in}
use Rattle.spec_forgotten.specs.Search.{path_of}
use Rattle.spec_forgotten.specs.CasesFound.{by_test_lem, ByLength, exactly, at_least, by_length_lem}

-- one of the cases from number i on, the first of which has its child at node j
unfoldable pub CaseOf : ℕ → ℕ → Cases → Chosen → Type 0
unfolding nodes_in
CaseOf i j cnil c = ⊥
CaseOf i j (ccons u at a cs) c = (c ≡ record { test = u; index = i; node = j; tree = a }) ⊎ CaseOf (i + 1) (j + nodes_in a) cs c

lookup_case : (i j : ℕ) (cs : Cases) (t : Test) (c : Chosen) → lookup i j cs t ≡ some c → CaseOf i j cs c
unfolding lookup CaseOf
lookup_case i j cnil t c e = let z : ◌≡◌ {A = ℕ} 0 1 = cc in absurd (omega arith)
lookup_case i j (ccons u at a cs) t c e = go (same_test t u) e (lookup_case (i + 1) (j + nodes_in a) cs t c)
  where
    go : (b : Bool) → elim b as (λ z. Option Chosen) [ true ↦ some (record { test = u; index = i; node = j; tree = a }) | false ↦ lookup (i + 1) (j + nodes_in a) cs t ] ≡ some c
        → (lookup (i + 1) (j + nodes_in a) cs t ≡ some c → CaseOf (i + 1) (j + nodes_in a) cs c)
        → (c ≡ record { test = u; index = i; node = j; tree = a }) ⊎ CaseOf (i + 1) (j + nodes_in a) cs c
    go true h ih = let x : record { test = u; index = i; node = j; tree = a } ≡ c = cc in inl (sym x)
    go false h ih = inr (ih h)

pub record Within (i j : ℕ) (cs : Cases) (c : Chosen) : Type 0 where
  pub number_from : i ≤ c.index
  pub number_to : c.index < i + how_many cs
  pub node_from : j ≤ c.node
  pub node_to : c.node + nodes_in c.tree ≤ j + nodes_in_of cs

pub case_within : (i j : ℕ) (cs : Cases) (c : Chosen) → CaseOf i j cs c → Within i j cs c
unfolding CaseOf how_many nodes_in
case_within i j cnil c h = absurd h
case_within i j (ccons u at a cs) c (inl e) =
    rw e (record { number_from = omega arith; number_to = omega arith; node_from = omega arith; node_to = omega arith })
case_within i j (ccons u at a cs) c (inr h) =
    let r = case_within (i + 1) (j + nodes_in a) cs c h in
    record {
      number_from = omega (arith, r.number_from);
      number_to = omega (arith, r.number_to);
      node_from = omega (arith, r.node_from);
      node_to = omega (arith, r.node_to);
    }

one_case : (i j : ℕ) (cs : Cases) (c d : Chosen) → CaseOf i j cs c → CaseOf i j cs d → c.index ≡ d.index → c ≡ d
unfolding CaseOf
one_case i j cnil c d x y e = absurd x
one_case i j (ccons u at a cs) c d (inl x) (inl y) e = x ∙ sym y
one_case i j (ccons u at a cs) c d (inl x) (inr y) e =
    let n : c.index ≡ i = ap (λ (z : Chosen). z.index) x in
    absurd (omega (arith, n, e, (case_within (i + 1) (j + nodes_in a) cs d y).number_from))
one_case i j (ccons u at a cs) c d (inr x) (inl y) e =
    let n : d.index ≡ i = ap (λ (z : Chosen). z.index) y in
    absurd (omega (arith, n, e, (case_within (i + 1) (j + nodes_in a) cs c x).number_from))
one_case i j (ccons u at a cs) c d (inr x) (inr y) e = one_case (i + 1) (j + nodes_in a) cs c d x y e

-- ---- of node k
unfoldable pub ChildOf : ℕ → Tree → Chosen → Type 0
unfolding CaseOf how_many nodes_in_of
ChildOf k absent c = ⊥
ChildOf k (leaf d bs) c = ⊥
ChildOf k (hoist d bs a) c = ⊥
ChildOf k (switch p cs d) c = CaseOf 0 (k + 1) cs c
ChildOf k (listswitch p cs ts d) c = CaseOf 0 (k + 1) cs c ⊎ CaseOf (how_many cs) (k + 1 + nodes_in_of cs) ts c

pub one_child : (k : ℕ) (a : Tree) (c d : Chosen) → ChildOf k a c → ChildOf k a d → c.index ≡ d.index → c ≡ d
unfolding ChildOf
one_child k absent c d x y e = absurd x
one_child k (leaf l bs) c d x y e = absurd x
one_child k (hoist l bs a) c d x y e = absurd x
one_child k (switch p cs f) c d x y e = one_case 0 (k + 1) cs c d x y e
one_child k (listswitch p cs ts f) c d (inl x) (inl y) e = one_case 0 (k + 1) cs c d x y e
one_child k (listswitch p cs ts f) c d (inl x) (inr y) e =
    absurd (omega (arith, e, (case_within 0 (k + 1) cs c x).number_to, (case_within (how_many cs) (k + 1 + nodes_in_of cs) ts d y).number_from))
one_child k (listswitch p cs ts f) c d (inr x) (inl y) e =
    absurd (omega (arith, e, (case_within 0 (k + 1) cs d y).number_to, (case_within (how_many cs) (k + 1 + nodes_in_of cs) ts c x).number_from))
one_child k (listswitch p cs ts f) c d (inr x) (inr y) e = one_case (how_many cs) (k + 1 + nodes_in_of cs) ts c d x y e

pub chosen_child : (k : ℕ) (a : Tree) (x : Shape) (c : Chosen) → choose_in k a x ≡ some (some c) → ChildOf k a c
unfolding choose_in ChildOf
chosen_child k absent x c e = let z : ◌≡◌ {A = ℕ} 0 1 = cc in absurd (omega arith)
chosen_child k (leaf d bs) x c e = let z : ◌≡◌ {A = ℕ} 0 1 = cc in absurd (omega arith)
chosen_child k (hoist d bs a) x c e = let z : ◌≡◌ {A = ℕ} 0 1 = cc in absurd (omega arith)
chosen_child k (switch p cs d) x c e = let (t, o, h) = by_test_lem k cs x.shown c e in lookup_case 0 (k + 1) cs t c h
chosen_child k (listswitch p cs ts d) x c e = let (n, o, h) = by_length_lem k cs ts x.long c e in go n h
  where
    go : (n : ℕ) → ByLength k cs ts n c → CaseOf 0 (k + 1) cs c ⊎ CaseOf (how_many cs) (k + 1 + nodes_in_of cs) ts c
    go n (exactly h) = inl (lookup_case 0 (k + 1) cs (ListOf n) c h)
    go n (at_least j l h) = inr (lookup_case (how_many cs) (k + 1 + nodes_in_of cs) ts (ListWithTail j) c h)

-- ---- the node of a tree
pub node_chooses : (k : ℕ) (a : Tree) (w : Node) → node_of k a ≡ some w → (x : Value) → w.choose (shows x) (length_of x) ≡ choose_in k a (shape_of x)
unfolding node_of choose_in shape_of
node_chooses k absent w e x = absurd (no_node_there w e)
node_chooses k (leaf c bs) w e x = absurd (no_node_there w e)
node_chooses k (hoist c bs a) w e x = absurd (no_node_there w e)
node_chooses k (switch p cs d) w e x = let z : (λ t n. by_test k cs t) ≡ w.choose = cc in rw (← z)
node_chooses k (listswitch p cs ts d) w e x = let z : (λ t n. by_length k cs ts n) ≡ w.choose = cc in rw (← z)

pub node_path : (k : ℕ) (a : Tree) (w : Node) → node_of k a ≡ some w → w.path ≡ path_of a
unfolding node_of path_of
node_path k absent w e = absurd (no_node_there w e)
node_path k (leaf c bs) w e = absurd (no_node_there w e)
node_path k (hoist c bs a) w e = absurd (no_node_there w e)
node_path k (switch p cs d) w e = let z : p ≡ w.path = cc in sym z
node_path k (listswitch p cs ts d) w e = let z : p ≡ w.path = cc in sym z

-- a child's nodes stand between its switch and the default's
pub child_within : (k : ℕ) (a : Tree) (w : Node) → node_of k a ≡ some w → (c : Chosen) → ChildOf k a c → (k < c.node) × (c.node + nodes_in c.tree ≤ w.next)
unfolding node_of ChildOf
child_within k absent w e c h = absurd h
child_within k (leaf d bs) w e c h = absurd h
child_within k (hoist d bs a) w e c h = absurd h
child_within k (switch p cs d) w e c h =
    let z : k + 1 + nodes_in_of cs ≡ w.next = cc in
    let r = case_within 0 (k + 1) cs c h in
    (omega (arith, r.node_from), omega (arith, z, r.node_to))
child_within k (listswitch p cs ts d) w e c (inl h) =
    let z : k + 1 + nodes_in_of cs + nodes_in_of ts ≡ w.next = cc in
    let r = case_within 0 (k + 1) cs c h in
    (omega (arith, r.node_from), omega (arith, z, r.node_to))
child_within k (listswitch p cs ts d) w e c (inr h) =
    let z : k + 1 + nodes_in_of cs + nodes_in_of ts ≡ w.next = cc in
    let r = case_within (how_many cs) (k + 1 + nodes_in_of cs) ts c h in
    (omega (arith, r.node_from), omega (arith, z, r.node_to))

pub default_within : (k : ℕ) (a : Tree) (w : Node) → node_of k a ≡ some w → (k < w.next) × (w.next + nodes_in w.default ≡ k + nodes_in a)
unfolding node_of nodes_in
default_within k absent w e = absurd (no_node_there w e)
default_within k (leaf c bs) w e = absurd (no_node_there w e)
default_within k (hoist c bs a) w e = absurd (no_node_there w e)
default_within k (switch p cs d) w e =
    let z : k + 1 + nodes_in_of cs ≡ w.next = cc in
    let y : nodes_in d ≡ nodes_in w.default = ap nodes_in (same d w.default cc) in
    (omega (arith, z), omega (arith, z, y))
  where
    same : (a b : Tree) → a ≡ b → a ≡ b
    same a b h = h
default_within k (listswitch p cs ts d) w e =
    let z : k + 1 + nodes_in_of cs + nodes_in_of ts ≡ w.next = cc in
    let y : nodes_in d ≡ nodes_in w.default = ap nodes_in (same d w.default cc) in
    (omega (arith, z), omega (arith, z, y))
  where
    same : (a b : Tree) → a ≡ b → a ≡ b
    same a b h = h
