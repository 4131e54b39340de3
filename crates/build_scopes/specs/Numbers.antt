-- Scopes and first leaves by the numbers of nodes, and hoisting by those numbers.
-- Each is found by one way down from the root, always into a child that has a leaf of the clause.
use Rattle.std.specs.Prelude.{ℕ, ◌+◌, Bool, false, List, length, eqb, ◌≡◌}
use Rattle.std.proofs.Math.Option.{Option, none, some}
use Rattle.base_words.specs.Words.{pick}
use Rattle.spec_rules.specs.Limits.{clauses_most, nodes_most}
use Rattle.spec_rules.specs.Rows.{Binding}
use Rattle.spec_rules.specs.Building.{Tree, Cases, absent, leaf, hoist, switch, listswitch, cnil, ccons}
use Rattle.spec_rules.specs.Hoisting.{nodes_in, nodes_in_of, has_leaf}
use Rattle.spec_hoist.specs.Descent.{is_scope, wrap_by}

-- ---- the way down
-- From node k, the root of the tree, into the child that has a leaf of clause c: the default before the cases, and those in order.
-- It ends at a leaf, or at the first node where `stop` holds.
unfoldable mutual
  unfolding nodes_in nodes_in_of has_leaf

  pub descent : (Tree → Bool) → ℕ → ℕ → Tree → ℕ
  descent stop c k absent = k
  descent stop c k (leaf d bs) = k
  descent stop c k (hoist d bs a) = k
  descent stop c k (switch p cs d) =
      pick (stop (switch p cs d)) k (pick (has_leaf c d) (descent stop c (k + 1 + nodes_in_of cs) d) (descent_of stop c (k + 1) cs k))
  descent stop c k (listswitch p cs ts d) =
      pick (stop (listswitch p cs ts d)) k
      (pick (has_leaf c d) (descent stop c (k + 1 + nodes_in_of cs + nodes_in_of ts) d)
      (descent_of stop c (k + 1) cs (descent_of stop c (k + 1 + nodes_in_of cs) ts k)))

  -- into the first of the cases that has one, the first of which is node k; else z
  pub descent_of : (Tree → Bool) → ℕ → ℕ → Cases → ℕ → ℕ
  descent_of stop c k cnil z = z
  descent_of stop c k (ccons t at a cs) z = pick (has_leaf c a) (descent stop c k a) (descent_of stop c (k + nodes_in a) cs z)

abbrev pub never : Tree → Bool
never s = false

-- the node above which clause c is hoisted, where it has a leaf; the tree's root is node k
unfoldable pub scope_number : ℕ → ℕ → Tree → ℕ
unfolding is_scope descent
scope_number c k a = descent (is_scope c) c k a

-- its first leaf "in building order": default, cases, tail cases
unfoldable pub first_number : ℕ → ℕ → Tree → ℕ
unfolding descent
first_number c k a = descent never c k a

-- the same of the whole tree; a clause without a leaf has the number 1,024, which no node has
unfoldable pub scope_node : ℕ → Tree → ℕ
unfolding has_leaf scope_number
scope_node c a = pick (has_leaf c a) (scope_number c 0 a) nodes_most

unfoldable pub first_leaf_node : ℕ → Tree → ℕ
unfolding has_leaf first_number
first_leaf_node c a = pick (has_leaf c a) (first_number c 0 a) nodes_most

-- the lowest idle clause, or 32 where there is none
unfoldable pub idle_number : Option ℕ → ℕ
idle_number none = clauses_most
idle_number (some c) = c

-- ---- hoisting by numbers
-- Above node j the hoists of those of n clauses whose number is j, the lowest clause outermost; the root of the tree is node k.
unfoldable mutual
  unfolding wrap_by nodes_in nodes_in_of

  pub hoist_by_number : (ℕ → ℕ) → (ℕ → List Binding) → ℕ → ℕ → Tree → Tree
  hoist_by_number node bs n k absent = absent
  hoist_by_number node bs n k (leaf c cs) = wrap_by (λ x. eqb (node x) k) bs 0 n (leaf c cs)
  hoist_by_number node bs n k (hoist c cs a) = hoist c cs (hoist_by_number node bs n (k + 1) a)
  hoist_by_number node bs n k (switch p cs d) =
      wrap_by (λ x. eqb (node x) k) bs 0 n
      (switch p (hoist_by_number_of node bs n (k + 1) cs) (hoist_by_number node bs n (k + 1 + nodes_in_of cs) d))
  hoist_by_number node bs n k (listswitch p cs ts d) =
      wrap_by (λ x. eqb (node x) k) bs 0 n
      (listswitch p (hoist_by_number_of node bs n (k + 1) cs) (hoist_by_number_of node bs n (k + 1 + nodes_in_of cs) ts)
      (hoist_by_number node bs n (k + 1 + nodes_in_of cs + nodes_in_of ts) d))

  pub hoist_by_number_of : (ℕ → ℕ) → (ℕ → List Binding) → ℕ → ℕ → Cases → Cases
  hoist_by_number_of node bs n k cnil = cnil
  hoist_by_number_of node bs n k (ccons t at a cs) = ccons t at (hoist_by_number node bs n k a) (hoist_by_number_of node bs n (k + nodes_in a) cs)

-- ---- as many bindings at each leaf of a clause
-- each leaf of clause c has f c bindings
unfoldable mutual
  pub BindCounts : (ℕ → ℕ) → Tree → Type 0
  BindCounts f absent = Unit {0}
  BindCounts f (leaf c bs) = length bs ≡ f c
  BindCounts f (hoist c bs a) = BindCounts f a
  BindCounts f (switch p cs d) = BindCountsOf f cs × BindCounts f d
  BindCounts f (listswitch p cs ts d) = BindCountsOf f cs × BindCountsOf f ts × BindCounts f d

  pub BindCountsOf : (ℕ → ℕ) → Cases → Type 0
  BindCountsOf f cnil = Unit {0}
  BindCountsOf f (ccons t at a cs) = BindCounts f a × BindCountsOf f cs
