-- What is said of a tree in the theorems of hoisting: its hoists, leaves and places, and what a tree is before it is hoisted.
-- Definitions alone, over the trees of Building and the places of Hoisting.
use Rattle.std.specs.Prelude.{ℕ, zero, suc, ◌+◌, ◌<◌, ◌≡◌, ◌⊎◌, Bool, true, false, List, [], ◌∷◌, ◌++◌, eqb}
use Rattle.base_words.specs.Words.{pick, same_text}
use Rattle.spec_rules.specs.Rows.{Binding, bit}
use Rattle.spec_rules.specs.Building.{Tree, Cases, absent, leaf, hoist, switch, listswitch, cnil, ccons}
use Rattle.spec_rules.specs.Hoisting.{Place, Fallback, Case, how_many}

-- ---- before hoisting
-- a tree with no hoist in it
unfoldable mutual
  pub Plain : Tree → Type 0
  Plain absent = Unit {0}
  Plain (leaf c bs) = Unit {0}
  Plain (hoist c bs a) = ⊥
  Plain (switch p cs d) = PlainOf cs × Plain d
  Plain (listswitch p cs ts d) = PlainOf cs × PlainOf ts × Plain d

  pub PlainOf : Cases → Type 0
  PlainOf cnil = Unit {0}
  PlainOf (ccons t at a cs) = Plain a × PlainOf cs

unfoldable pub is_present : Tree → Bool
is_present absent = false
is_present (leaf c bs) = true
is_present (hoist c bs a) = true
is_present (switch p cs d) = true
is_present (listswitch p cs ts d) = true

-- a tree of n clauses: each leaf and hoist is of one of them, each switch has a case, and only a default is absent
unfoldable mutual
  unfolding how_many is_present

  pub WellMade : ℕ → Tree → Type 0
  WellMade n absent = Unit {0}
  WellMade n (leaf c bs) = c < n
  WellMade n (hoist c bs a) = (c < n) × (is_present a ≡ true) × WellMade n a
  WellMade n (switch p cs d) = (0 < how_many cs) × WellMadeOf n cs × WellMade n d
  WellMade n (listswitch p cs ts d) = (0 < how_many cs + how_many ts) × WellMadeOf n cs × WellMadeOf n ts × WellMade n d

  pub WellMadeOf : ℕ → Cases → Type 0
  WellMadeOf n cnil = Unit {0}
  WellMadeOf n (ccons t at a cs) = (is_present a ≡ true) × WellMade n a × WellMadeOf n cs

-- the tree with each hoist taken out
unfoldable mutual
  pub unhoisted : Tree → Tree
  unhoisted absent = absent
  unhoisted (leaf c bs) = leaf c bs
  unhoisted (hoist c bs a) = unhoisted a
  unhoisted (switch p cs d) = switch p (unhoisted_of cs) (unhoisted d)
  unhoisted (listswitch p cs ts d) = listswitch p (unhoisted_of cs) (unhoisted_of ts) (unhoisted d)

  pub unhoisted_of : Cases → Cases
  unhoisted_of cnil = cnil
  unhoisted_of (ccons t at a cs) = ccons t at (unhoisted a) (unhoisted_of cs)

-- ---- hoists
-- the sum of f of clause and bindings, over the hoists
unfoldable mutual
  pub over_hoists : (ℕ → List Binding → ℕ) → Tree → ℕ
  over_hoists f absent = 0
  over_hoists f (leaf c bs) = 0
  over_hoists f (hoist c bs a) = f c bs + over_hoists f a
  over_hoists f (switch p cs d) = over_hoists_of f cs + over_hoists f d
  over_hoists f (listswitch p cs ts d) = over_hoists_of f cs + (over_hoists_of f ts + over_hoists f d)

  pub over_hoists_of : (ℕ → List Binding → ℕ) → Cases → ℕ
  over_hoists_of f cnil = 0
  over_hoists_of f (ccons t at a cs) = over_hoists f a + over_hoists_of f cs

-- how many hoists of clause c there are
unfoldable pub hoists_of : ℕ → Tree → ℕ
unfolding over_hoists bit
hoists_of c a = over_hoists (λ d bs. bit (eqb c d)) a

-- P of each hoist's clause and bindings
unfoldable mutual
  pub EachHoist : (ℕ → List Binding → Type 0) → Tree → Type 0
  EachHoist P absent = Unit {0}
  EachHoist P (leaf c bs) = Unit {0}
  EachHoist P (hoist c bs a) = P c bs × EachHoist P a
  EachHoist P (switch p cs d) = EachHoistOf P cs × EachHoist P d
  EachHoist P (listswitch p cs ts d) = EachHoistOf P cs × EachHoistOf P ts × EachHoist P d

  pub EachHoistOf : (ℕ → List Binding → Type 0) → Cases → Type 0
  EachHoistOf P cnil = Unit {0}
  EachHoistOf P (ccons t at a cs) = EachHoist P a × EachHoistOf P cs

-- going down from the root no leaf of clause c is met before a hoist of c
unfoldable mutual
  pub Above : ℕ → Tree → Type 0
  Above c absent = Unit {0}
  Above c (leaf d bs) = c ≡ d → ⊥
  Above c (hoist d bs a) = (c ≡ d) ⊎ Above c a
  Above c (switch p cs d) = AboveOf c cs × Above c d
  Above c (listswitch p cs ts d) = AboveOf c cs × AboveOf c ts × Above c d

  pub AboveOf : ℕ → Cases → Type 0
  AboveOf c cnil = Unit {0}
  AboveOf c (ccons t at a cs) = Above c a × AboveOf c cs

-- ---- leaves
pub record Leaf : Type 0 where
  pub clause : ℕ
  pub bindings : List Binding

abbrev pub leaf_with : ℕ → List Binding → Leaf
leaf_with c bs = record { clause = c; bindings = bs }

-- in node order: cases, tail cases, default
unfoldable mutual
  pub leaves_of : Tree → List Leaf
  leaves_of absent = []
  leaves_of (leaf c bs) = leaf_with c bs ∷ []
  leaves_of (hoist c bs a) = leaves_of a
  leaves_of (switch p cs d) = leaves_of_each cs ++ leaves_of d
  leaves_of (listswitch p cs ts d) = leaves_of_each cs ++ (leaves_of_each ts ++ leaves_of d)

  pub leaves_of_each : Cases → List Leaf
  leaves_of_each cnil = []
  leaves_of_each (ccons t at a cs) = leaves_of a ++ leaves_of_each cs

abbrev pub Among : Leaf → List Leaf → Type 0
Among x [] = ⊥
Among x (y ∷ ys) = (x ≡ y) ⊎ Among x ys

-- P of each leaf's clause and bindings
abbrev pub EachLeaf : (ℕ → List Binding → Type 0) → Tree → Type 0
EachLeaf P a = (x : Leaf) → Among x (leaves_of a) → P x.clause x.bindings

-- the sum of f over the leaves
unfoldable pub over_leaves : (Leaf → ℕ) → List Leaf → ℕ
over_leaves f [] = 0
over_leaves f (x ∷ xs) = f x + over_leaves f xs

-- ---- bindings, in whatever order
unfoldable pub total : (Binding → ℕ) → List Binding → ℕ
total f [] = 0
total f (b ∷ bs) = f b + total f bs

abbrev pub SameBindings : List Binding → List Binding → Type 0
SameBindings bs cs = (f : Binding → ℕ) → total f bs ≡ total f cs

-- ---- places
-- the sum of f over the places of the tree's nodes; a hoist stands where what is below it stands
unfoldable mutual
  unfolding how_many

  pub over_places : Tree → (Place → ℕ) → ℕ
  over_places absent f = 0
  over_places (leaf c bs) f = f []
  over_places (hoist c bs a) f = over_places a f
  over_places (switch p cs d) f = f [] + (over_places_of cs 0 f + over_places d (λ x. f (Fallback ∷ x)))
  over_places (listswitch p cs ts d) f = f [] + (over_places_of cs 0 f + (over_places_of ts (how_many cs) f + over_places d (λ x. f (Fallback ∷ x))))

  pub over_places_of : Cases → ℕ → (Place → ℕ) → ℕ
  over_places_of cnil i f = 0
  over_places_of (ccons t at a cs) i f = over_places a (λ x. f (Case i ∷ x)) + over_places_of cs (suc i) f

-- how many nodes stand at the place s
unfoldable pub nodes_at : Place → Tree → ℕ
unfolding over_places same_text
nodes_at s a = over_places a (λ x. pick (same_text x s) 1 0)

-- ---- sums
-- f i + f (i + 1) + .. , n of them
unfoldable pub sum : (ℕ → ℕ) → ℕ → ℕ → ℕ
sum f i zero = 0
sum f i (suc n) = f i + sum f (i + 1) n
