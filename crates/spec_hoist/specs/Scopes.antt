-- A clause's scope by going over the tree once: from the scopes in the children of a switch, without the places of all leaves.
-- proofs/ScopesLaws.antt shows that it is the scope of rule 6, the common start of the clause's visits.
use Rattle.std.specs.Prelude.{ℕ, suc, Bool, true, false, [], ◌∷◌, ◌++◌, eqb}
use Rattle.std.proofs.Math.Option.{Option, none, some}
use Rattle.base_words.specs.Words.{pick}
use Rattle.spec_rules.specs.Building.{Tree, Cases, absent, leaf, hoist, switch, listswitch, cnil, ccons}
use Rattle.spec_rules.specs.Hoisting.{Place, Fallback, Case, Visit, how_many, common_start}

-- ---- scopes of lists of visits
-- the common start of two scopes, either of which may be none
unfoldable pub meet : Option Place → Option Place → Option Place
unfolding common_start
meet none o = o
meet (some p) none = some p
meet (some p) (some q) = some (common_start p q)

unfoldable pub has_scope : Option Place → Bool
has_scope none = false
has_scope (some s) = true

-- the scope of one visit
unfoldable pub visited : ℕ → Visit → Option Place
visited c x = pick (eqb c x.clause) (some x.place) none

-- ---- the leaf visited last, on which the step-back notes turn: its clause
-- the second, or where there is none the first
unfoldable pub later : Option ℕ → Option ℕ → Option ℕ
later o none = o
later o (some c) = some c

unfoldable mutual
  unfolding later

  pub last_leaf : Tree → Option ℕ
  last_leaf absent = none
  last_leaf (leaf c bs) = some c
  last_leaf (hoist c bs a) = last_leaf a
  last_leaf (switch p cs d) = later (last_leaf_of cs) (last_leaf d)
  last_leaf (listswitch p cs ts d) = later (last_leaf_of cs) (later (last_leaf_of ts) (last_leaf d))

  pub last_leaf_of : Cases → Option ℕ
  last_leaf_of cnil = none
  last_leaf_of (ccons t at a cs) = later (last_leaf a) (last_leaf_of cs)

unfoldable pub is_clause : ℕ → Option ℕ → Bool
is_clause c none = false
is_clause c (some d) = eqb c d

-- ---- the scope, as a place from the root of the tree at hand
-- one step down
unfoldable pub beneath : ℕ → Option Place → Option Place
beneath k none = none
beneath k (some s) = some (k ∷ s)

-- of two different children of a switch: a clause that is in both has the switch for its scope
unfoldable pub merge : Option Place → Option Place → Option Place
merge none o = o
merge (some s) none = some s
merge (some s) (some t) = some []

-- the clause visited last is noted at the switch itself
unfoldable pub noted : Bool → Option Place → Option Place
noted true o = some []
noted false o = o

unfoldable mutual
  unfolding last_leaf is_clause beneath merge noted how_many

  pub scope_in : ℕ → Tree → Option Place
  scope_in c absent = none
  scope_in c (leaf d bs) = noted (eqb c d) none
  scope_in c (hoist d bs a) = scope_in c a
  scope_in c (switch p cs d) =
      noted (is_clause c (later (last_leaf_of cs) (last_leaf d)))
      (merge (scope_in_of c 0 cs) (beneath Fallback (scope_in c d)))
  scope_in c (listswitch p cs ts d) =
      noted (is_clause c (later (last_leaf_of cs) (later (last_leaf_of ts) (last_leaf d))))
      (merge (scope_in_of c 0 cs) (merge (scope_in_of c (how_many cs) ts) (beneath Fallback (scope_in c d))))

  -- in cases i, i + 1, ..
  pub scope_in_of : ℕ → ℕ → Cases → Option Place
  scope_in_of c i cnil = none
  scope_in_of c i (ccons t at a cs) = merge (beneath (Case i) (scope_in c a)) (scope_in_of c (suc i) cs)

-- the scope of a tree that itself stands at q
unfoldable pub placed : Place → Option Place → Option Place
placed q none = none
placed q (some s) = some (q ++ s)
