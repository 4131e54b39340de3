-- 01, "How a tree is built", rules 5 (a hoist's bindings), 6 (places, visits, scopes) and 7 (hoisting).
-- The whole tree of a sheet's clauses, its counts, and what refusals 12, 13 and 14 ask of it.
use Rattle.std.specs.Prelude.{ℕ, zero, suc, ◌+◌, Bool, true, false, List, [], ◌∷◌, ◌++◌, length, eqb}
use Rattle.std.proofs.Math.Option.{Option, none, some}
use Rattle.base_words.specs.Words.{either, same_text}
use Rattle.spec_rules.specs.Patterns.{Pat}
use Rattle.spec_rules.specs.Rows.{Binding}
use Rattle.spec_rules.specs.Building.{Tree, Cases, absent, leaf, hoist, switch, listswitch, cnil, ccons, plain_tree}

-- ---- rule 6: "A place is the steps Case(i) or Fallback from the root": Fallback is written 0, Case(i) i + 1
abbrev pub Place : Type 0
Place = List ℕ

abbrev pub Fallback : ℕ
Fallback = 0

abbrev pub Case : ℕ → ℕ
Case i = suc i

unfoldable pub under : Place → ℕ → Place
under q step = q ++ step ∷ []

-- A leaf of a clause, met at a place.
pub record Visit : Type 0 where
  pub clause : ℕ
  pub place : Place

unfoldable pub how_many : Cases → ℕ
how_many cnil = 0
how_many (ccons t at a cs) = suc (how_many cs)

-- the last visited leaf, once more at place q
unfoldable pub last_at : Place → List Visit → List Visit
last_at q [] = []
last_at q (x ∷ []) = record { clause = x.clause; place = q } ∷ []
last_at q (x ∷ y ∷ ys) = last_at q (y ∷ ys)

-- "After the last child of a switch, the last visited leaf is noted once more at that switch's own place, and so at each level
-- stepped back"
unfoldable pub stepped_back : Place → List Visit → List Visit
unfolding last_at
stepped_back q xs = xs ++ last_at q xs

-- "tail cases are numbered after cases. Leaves are visited cases, tail cases, default"
unfoldable mutual
  unfolding stepped_back under how_many

  pub visits : Place → Tree → List Visit
  visits q absent = []
  visits q (leaf c bs) = record { clause = c; place = q } ∷ []
  visits q (hoist c bs a) = visits q a
  visits q (switch p cs d) = stepped_back q (visits_of q 0 cs ++ visits (under q Fallback) d)
  visits q (listswitch p cs ts d) = stepped_back q (visits_of q 0 cs ++ (visits_of q (how_many cs) ts ++ visits (under q Fallback) d))

  pub visits_of : Place → ℕ → Cases → List Visit
  visits_of q i cnil = []
  visits_of q i (ccons t at a cs) = visits (under q (Case i)) a ++ visits_of q (suc i) cs

-- "A clause's scope is the common start of its visits"; none where it has no leaf
unfoldable pub common_start : Place → Place → Place
common_start [] q = []
common_start (a ∷ p) [] = []
common_start (a ∷ p) (b ∷ q) = elim (eqb a b) [ true ↦ a ∷ common_start p q | false ↦ [] ]

unfoldable pub scope : ℕ → List Visit → Option Place
unfolding common_start
scope c [] = none
scope c (x ∷ xs) =
    elim (eqb c x.clause) [
      | false ↦ scope c xs
      | true ↦ elim (scope c xs) [ none ↦ some x.place | some q ↦ some (common_start x.place q) ]
    ]

-- ---- rule 5: "A hoist's bindings are those of its clause's first non-empty leaf in building order": default, cases, tail cases
unfoldable pub or_else : List Binding → List Binding → List Binding
or_else [] ys = ys
or_else (x ∷ xs) ys = x ∷ xs

unfoldable mutual
  unfolding or_else

  pub first_bindings : ℕ → Tree → List Binding
  first_bindings c absent = []
  first_bindings c (leaf k bs) = elim (eqb c k) [ true ↦ bs | false ↦ [] ]
  first_bindings c (hoist k bs a) = first_bindings c a
  first_bindings c (switch p cs d) = or_else (first_bindings c d) (first_bindings_of c cs)
  first_bindings c (listswitch p cs ts d) = or_else (first_bindings c d) (or_else (first_bindings_of c cs) (first_bindings_of c ts))

  pub first_bindings_of : ℕ → Cases → List Binding
  first_bindings_of c cnil = []
  first_bindings_of c (ccons t at a cs) = or_else (first_bindings c a) (first_bindings_of c cs)

-- ---- rule 7: "Each clause is hoisted at its scope. At one place the highest clause is innermost"
-- A clause to hoist: its bindings and its scope.
pub record Hoist : Type 0 where
  pub clause : ℕ
  pub bindings : List Binding
  pub scope : Option Place

-- those of the n clauses from c on, of the tree a with visits xs
unfoldable pub hoists : ℕ → ℕ → Tree → List Visit → List Hoist
unfolding scope first_bindings
hoists c zero a xs = []
hoists c (suc n) a xs = record { clause = c; bindings = first_bindings c a; scope = scope c xs } ∷ hoists (suc c) n a xs

unfoldable pub is_at : Place → Option Place → Bool
unfolding same_text
is_at q none = false
is_at q (some p) = same_text q p

unfoldable pub wrap : Place → List Hoist → Tree → Tree
unfolding is_at
wrap q [] a = a
wrap q (h ∷ hs) a = elim (is_at q h.scope) [ true ↦ hoist h.clause h.bindings (wrap q hs a) | false ↦ wrap q hs a ]

unfoldable mutual
  unfolding wrap under how_many

  pub hoisted : List Hoist → Place → Tree → Tree
  hoisted hs q absent = absent
  hoisted hs q (leaf c bs) = wrap q hs (leaf c bs)
  hoisted hs q (hoist c bs a) = hoist c bs (hoisted hs q a)
  hoisted hs q (switch p cs d) = wrap q hs (switch p (hoisted_of hs q 0 cs) (hoisted hs (under q Fallback) d))
  hoisted hs q (listswitch p cs ts d) =
      wrap q hs (listswitch p (hoisted_of hs q 0 cs) (hoisted_of hs q (how_many cs) ts) (hoisted hs (under q Fallback) d))

  pub hoisted_of : List Hoist → Place → ℕ → Cases → Cases
  hoisted_of hs q i cnil = cnil
  hoisted_of hs q i (ccons t at a cs) = ccons t at (hoisted hs (under q (Case i)) a) (hoisted_of hs q (suc i) cs)

unfoldable pub hoist_all : ℕ → Tree → Tree
unfolding hoists visits hoisted
hoist_all n a = hoisted (hoists 0 n a (visits [] a)) [] a

-- the whole tree of the clauses with these patterns
unfoldable pub whole_tree : List Pat → Tree
unfolding plain_tree hoist_all
whole_tree qs = hoist_all (length qs) (plain_tree qs)

-- ---- the counts of refusals 12 and 13
unfoldable mutual
  pub nodes_in : Tree → ℕ
  nodes_in absent = 0
  nodes_in (leaf c bs) = 1
  nodes_in (hoist c bs a) = suc (nodes_in a)
  nodes_in (switch p cs d) = suc (nodes_in_of cs + nodes_in d)
  nodes_in (listswitch p cs ts d) = suc (nodes_in_of cs + (nodes_in_of ts + nodes_in d))

  pub nodes_in_of : Cases → ℕ
  nodes_in_of cnil = 0
  nodes_in_of (ccons t at a cs) = nodes_in a + nodes_in_of cs

-- all bindings of leaves and hoists, in node order
unfoldable mutual
  pub bindings_in : Tree → List Binding
  bindings_in absent = []
  bindings_in (leaf c bs) = bs
  bindings_in (hoist c bs a) = bs ++ bindings_in a
  bindings_in (switch p cs d) = bindings_in_of cs ++ bindings_in d
  bindings_in (listswitch p cs ts d) = bindings_in_of cs ++ (bindings_in_of ts ++ bindings_in d)

  pub bindings_in_of : Cases → List Binding
  bindings_in_of cnil = []
  bindings_in_of (ccons t at a cs) = bindings_in a ++ bindings_in_of cs

-- ---- refusal 14: "a clause has no leaf in the tree"
unfoldable mutual
  pub has_leaf : ℕ → Tree → Bool
  has_leaf c absent = false
  has_leaf c (leaf k bs) = eqb c k
  has_leaf c (hoist k bs a) = has_leaf c a
  has_leaf c (switch p cs d) = either (has_leaf_of c cs) (has_leaf c d)
  has_leaf c (listswitch p cs ts d) = either (has_leaf_of c cs) (either (has_leaf_of c ts) (has_leaf c d))

  pub has_leaf_of : ℕ → Cases → Bool
  has_leaf_of c cnil = false
  has_leaf_of c (ccons t at a cs) = either (has_leaf c a) (has_leaf_of c cs)
