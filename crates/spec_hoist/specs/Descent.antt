-- Hoisting by going down the tree once, with no place written down: each node is given the clauses not hoisted yet whose scope it is.
-- proofs/DescentLaws.antt shows that this is the hoisting of rule 7.
use Rattle.std.specs.Prelude.{ℕ, zero, suc, ◌+◌, Bool, true, false, not, List, leb}
use Rattle.base_words.specs.Words.{both, either}
use Rattle.spec_rules.specs.Rows.{Binding, bit}
use Rattle.spec_rules.specs.Building.{Tree, Cases, absent, leaf, hoist, switch, listswitch, cnil, ccons}
use Rattle.spec_rules.specs.Hoisting.{has_leaf}
use Rattle.spec_hoist.specs.Scopes.{last_leaf, is_clause}

-- how many of the cases have a leaf of clause c
unfoldable pub cases_with : ℕ → Cases → ℕ
unfolding bit has_leaf
cases_with c cnil = 0
cases_with c (ccons t at a cs) = bit (has_leaf c a) + cases_with c cs

-- how many children of a switch have one
unfoldable pub children_with : ℕ → Tree → ℕ
unfolding cases_with
children_with c absent = 0
children_with c (leaf d bs) = 0
children_with c (hoist d bs a) = children_with c a
children_with c (switch p cs d) = cases_with c cs + bit (has_leaf c d)
children_with c (listswitch p cs ts d) = cases_with c cs + (cases_with c ts + bit (has_leaf c d))

-- the root of the tree is the scope of c in it: c is the clause of the leaf visited last, or has a leaf in two children
unfoldable pub is_scope : ℕ → Tree → Bool
unfolding is_clause last_leaf children_with
is_scope c a = either (is_clause c (last_leaf a)) (leb 2 (children_with c a))

-- of the clauses that f has: those to hoist at the root of the tree; those to hoist further down
abbrev pub here : (ℕ → Bool) → Tree → ℕ → Bool
here f a c = both (f c) (is_scope c a)

abbrev pub further : (ℕ → Bool) → Tree → ℕ → Bool
further f a c = both (f c) (not (is_scope c a))

-- of n clauses from c on those that f has, hoisted with these bindings: "the highest clause is innermost"
unfoldable pub wrap_by : (ℕ → Bool) → (ℕ → List Binding) → ℕ → ℕ → Tree → Tree
wrap_by f bs c zero a = a
wrap_by f bs c (suc n) a = elim (f c) [ true ↦ hoist c (bs c) (wrap_by f bs (c + 1) n a) | false ↦ wrap_by f bs (c + 1) n a ]

unfoldable mutual
  unfolding is_scope wrap_by

  pub hoist_by : (ℕ → List Binding) → ℕ → (ℕ → Bool) → Tree → Tree
  hoist_by bs n f absent = absent
  hoist_by bs n f (leaf c cs) = wrap_by (here f (leaf c cs)) bs 0 n (leaf c cs)
  hoist_by bs n f (hoist c cs a) = hoist c cs (hoist_by bs n f a)
  hoist_by bs n f (switch p cs d) =
      wrap_by (here f (switch p cs d)) bs 0 n
      (switch p (hoist_by_of bs n (further f (switch p cs d)) cs) (hoist_by bs n (further f (switch p cs d)) d))
  hoist_by bs n f (listswitch p cs ts d) =
      wrap_by (here f (listswitch p cs ts d)) bs 0 n
      (listswitch p (hoist_by_of bs n (further f (listswitch p cs ts d)) cs) (hoist_by_of bs n (further f (listswitch p cs ts d)) ts)
      (hoist_by bs n (further f (listswitch p cs ts d)) d))

  pub hoist_by_of : (ℕ → List Binding) → ℕ → (ℕ → Bool) → Cases → Cases
  hoist_by_of bs n f cnil = cnil
  hoist_by_of bs n f (ccons t at a cs) = ccons t at (hoist_by bs n f a) (hoist_by_of bs n f cs)
