-- Hoisting only adds hoists: without them the tree is as it was, and so is whatever passes hoists over.
-- The walk, the leaves and 14 follow, and the counts of 12 and 13 are what they were and what the hoists add.
use Rattle.std.specs.Prelude.{◌≡◌, refl, Bool, true, false, not, List, [], ◌∷◌, ◌++◌, ℕ, suc, ◌+◌, leb, length}
use Rattle.std.proofs.Common.{sym, ap, ◌∙◌, arith, length-append}
use Rattle.base_words.specs.Words.{either}
use Rattle.spec_rules.specs.Splitting.{Test, ListOf, ListWithTail, same_test}
use Rattle.spec_rules.specs.Building.{Tree, Cases, absent, leaf, hoist, switch, listswitch, cnil, ccons}
use Rattle.spec_rules.specs.Hoisting.{Place, Fallback, Case, under, how_many, visits, Hoist, hoists, is_at, wrap, hoisted, hoisted_of, hoist_all, nodes_in, nodes_in_of, bindings_in, bindings_in_of, has_leaf, has_leaf_of}
use Rattle.spec_rules.specs.Walking.{Walked, panel_root, follow, at_part, at_list, at_tail, if_same, first_kind, largest_tail, tail_number, walk, walk_cases}
use Rattle.spec_rules.specs.Searching.{lowest}
use Rattle.spec_rules.specs.Calls.{lowest_idle}
use Rattle.spec_hoist.specs.Trees.{Plain, PlainOf, unhoisted, unhoisted_of, over_hoists, over_hoists_of, leaves_of, leaves_of_each}

-- ---- hoisting only adds hoists
wrap_unhoisted : (q : Place) (hs : List Hoist) (a : Tree) → unhoisted (wrap q hs a) ≡ unhoisted a
unfolding wrap unhoisted
wrap_unhoisted q [] a = refl
wrap_unhoisted q (h ∷ hs) a = go (is_at q h.scope) refl (wrap_unhoisted q hs a)
  where
    go : (b : Bool) → is_at q h.scope ≡ b → unhoisted (wrap q hs a) ≡ unhoisted a → unhoisted (wrap q (h ∷ hs) a) ≡ unhoisted a
    go true x ih = rw (x, wrap) ih
    go false x ih = rw (x, wrap) ih

mutual
  unfolding hoisted unhoisted

  hoisted_unhoisted : (hs : List Hoist) (q : Place) (a : Tree) → unhoisted (hoisted hs q a) ≡ unhoisted a
  hoisted_unhoisted hs q absent = refl
  hoisted_unhoisted hs q (leaf c bs) = wrap_unhoisted q hs (leaf c bs)
  hoisted_unhoisted hs q (hoist c bs a) = hoisted_unhoisted hs q a
  hoisted_unhoisted hs q (switch p cs d) =
      wrap_unhoisted q hs (switch p (hoisted_of hs q 0 cs) (hoisted hs (under q Fallback) d))
      ∙ (λ i. switch p (hoisted_of_unhoisted hs q 0 cs i) (hoisted_unhoisted hs (under q Fallback) d i))
  hoisted_unhoisted hs q (listswitch p cs ts d) =
      wrap_unhoisted q hs (listswitch p (hoisted_of hs q 0 cs) (hoisted_of hs q (how_many cs) ts) (hoisted hs (under q Fallback) d))
      ∙ (λ i. listswitch p (hoisted_of_unhoisted hs q 0 cs i) (hoisted_of_unhoisted hs q (how_many cs) ts i) (hoisted_unhoisted hs (under q Fallback) d i))

  hoisted_of_unhoisted : (hs : List Hoist) (q : Place) (i : ℕ) (cs : Cases) → unhoisted_of (hoisted_of hs q i cs) ≡ unhoisted_of cs
  hoisted_of_unhoisted hs q i cnil = refl
  hoisted_of_unhoisted hs q i (ccons t at a cs) = λ k. ccons t at (hoisted_unhoisted hs (under q (Case i)) a k) (hoisted_of_unhoisted hs q (suc i) cs k)

-- THEOREM: hoisting only adds hoists
pub hoist_all_unhoisted : (n : ℕ) (a : Tree) → unhoisted (hoist_all n a) ≡ unhoisted a
unfolding hoist_all
hoist_all_unhoisted n a = hoisted_unhoisted (hoists 0 n a (visits [] a)) [] a

mutual
  unfolding unhoisted Plain

  pub plain_unhoisted : (a : Tree) → Plain a → unhoisted a ≡ a
  plain_unhoisted absent p = refl
  plain_unhoisted (leaf c bs) p = refl
  plain_unhoisted (hoist c bs a) p = absurd p
  plain_unhoisted (switch x cs d) p = λ i. switch x (plain_of_unhoisted cs p.0 i) (plain_unhoisted d p.1 i)
  plain_unhoisted (listswitch x cs ts d) p =
      λ i. listswitch x (plain_of_unhoisted cs p.0 i) (plain_of_unhoisted ts p.1 i) (plain_unhoisted d p.2 i)

  plain_of_unhoisted : (cs : Cases) → PlainOf cs → unhoisted_of cs ≡ cs
  plain_of_unhoisted cnil p = refl
  plain_of_unhoisted (ccons t at a cs) p = λ i. ccons t at (plain_unhoisted a p.0 i) (plain_of_unhoisted cs p.1 i)

-- what is the same of a tree without its hoists is the same of the hoisted tree
module _ {A : Type 0} where
  kept : (f : Tree → A) → ((a : Tree) → f (unhoisted a) ≡ f a) → (n : ℕ) (a : Tree) → f (hoist_all n a) ≡ f a
  kept f h n a = sym (h (hoist_all n a)) ∙ ap f (hoist_all_unhoisted n a) ∙ h a

-- ---- the walk
first_kind_unhoisted : (cs : Cases) → first_kind (unhoisted_of cs) ≡ first_kind cs
unfolding first_kind unhoisted
first_kind_unhoisted cnil = refl
first_kind_unhoisted (ccons t at a cs) = refl

largest_tail_unhoisted : (n : ℕ) (cs : Cases) → largest_tail n (unhoisted_of cs) ≡ largest_tail n cs
unfolding largest_tail unhoisted
largest_tail_unhoisted n cnil = refl
largest_tail_unhoisted n (ccons t at a cs) = λ i. elim (leb (tail_number n t) (largest_tail_unhoisted n cs i)) [ true ↦ largest_tail_unhoisted n cs i | false ↦ tail_number n t ]

mutual
  unfolding walk unhoisted

  walk_unhoisted : (a : Tree) (v : List ℕ) → walk (unhoisted a) v ≡ walk a v
  walk_unhoisted absent v = refl
  walk_unhoisted (leaf c bs) v = refl
  walk_unhoisted (hoist c bs a) v = walk_unhoisted a v
  walk_unhoisted (switch p cs d) v =
      λ i. at_part v (first_kind_unhoisted cs i) (follow v p panel_root) (λ t. walk_cases_unhoisted cs t v (λ u. walk (unhoisted d) v) (λ u. walk d v) (λ u. walk_unhoisted d v) i)
  walk_unhoisted (listswitch p cs ts d) v =
      λ i. at_list v (follow v p panel_root) (λ n.
      walk_cases_unhoisted cs (ListOf n) v
      (λ u. at_tail (largest_tail n (unhoisted_of ts)) (λ k. walk_cases (unhoisted_of ts) (ListWithTail k) v (λ u. walk (unhoisted d) v)) (λ u. walk (unhoisted d) v))
      (λ u. at_tail (largest_tail n ts) (λ k. walk_cases ts (ListWithTail k) v (λ u. walk d v)) (λ u. walk d v))
      (λ u j.
      at_tail (largest_tail_unhoisted n ts j)
      (λ k. walk_cases_unhoisted ts (ListWithTail k) v (λ u. walk (unhoisted d) v) (λ u. walk d v) (λ u. walk_unhoisted d v) j)
      (λ u. walk_unhoisted d v j))
      i)

  walk_cases_unhoisted : (cs : Cases) (t : Test) (v : List ℕ) (f g : Unit {0} → Walked) → ((u : Unit {0}) → f u ≡ g u) → walk_cases (unhoisted_of cs) t v f ≡ walk_cases cs t v g
  walk_cases_unhoisted cnil t v f g h = h tt
  walk_cases_unhoisted (ccons u at a cs) t v f g h = λ i. if_same (same_test t u) (λ w. walk_unhoisted a v i) (λ w. walk_cases_unhoisted cs t v f g h i)

-- THEOREM: a walk of the hoisted tree goes as one of the tree
pub walk_hoisted : (n : ℕ) (a : Tree) (v : List ℕ) → walk (hoist_all n a) v ≡ walk a v
walk_hoisted n a v = kept (λ b. walk b v) (λ b. walk_unhoisted b v) n a

-- ---- leaves
mutual
  unfolding leaves_of unhoisted

  leaves_of_unhoisted : (a : Tree) → leaves_of (unhoisted a) ≡ leaves_of a
  leaves_of_unhoisted absent = refl
  leaves_of_unhoisted (leaf c bs) = refl
  leaves_of_unhoisted (hoist c bs a) = leaves_of_unhoisted a
  leaves_of_unhoisted (switch p cs d) = λ i. leaves_of_each_unhoisted cs i ++ leaves_of_unhoisted d i
  leaves_of_unhoisted (listswitch p cs ts d) = λ i. leaves_of_each_unhoisted cs i ++ (leaves_of_each_unhoisted ts i ++ leaves_of_unhoisted d i)

  leaves_of_each_unhoisted : (cs : Cases) → leaves_of_each (unhoisted_of cs) ≡ leaves_of_each cs
  leaves_of_each_unhoisted cnil = refl
  leaves_of_each_unhoisted (ccons t at a cs) = λ i. leaves_of_unhoisted a i ++ leaves_of_each_unhoisted cs i

-- THEOREM: the same leaves in the same order
pub leaves_of_hoisted : (n : ℕ) (a : Tree) → leaves_of (hoist_all n a) ≡ leaves_of a
leaves_of_hoisted n a = kept leaves_of leaves_of_unhoisted n a

mutual
  unfolding has_leaf unhoisted

  has_leaf_unhoisted : (c : ℕ) (a : Tree) → has_leaf c (unhoisted a) ≡ has_leaf c a
  has_leaf_unhoisted c absent = refl
  has_leaf_unhoisted c (leaf k bs) = refl
  has_leaf_unhoisted c (hoist k bs a) = has_leaf_unhoisted c a
  has_leaf_unhoisted c (switch p cs d) = λ i. either (has_leaf_of_unhoisted c cs i) (has_leaf_unhoisted c d i)
  has_leaf_unhoisted c (listswitch p cs ts d) = λ i. either (has_leaf_of_unhoisted c cs i) (either (has_leaf_of_unhoisted c ts i) (has_leaf_unhoisted c d i))

  has_leaf_of_unhoisted : (c : ℕ) (cs : Cases) → has_leaf_of c (unhoisted_of cs) ≡ has_leaf_of c cs
  has_leaf_of_unhoisted c cnil = refl
  has_leaf_of_unhoisted c (ccons t at a cs) = λ i. either (has_leaf_unhoisted c a i) (has_leaf_of_unhoisted c cs i)

pub has_leaf_hoisted_at : (c : ℕ) (hs : List Hoist) (q : Place) (a : Tree) → has_leaf c (hoisted hs q a) ≡ has_leaf c a
has_leaf_hoisted_at c hs q a = sym (has_leaf_unhoisted c (hoisted hs q a)) ∙ ap (has_leaf c) (hoisted_unhoisted hs q a) ∙ has_leaf_unhoisted c a

pub has_leaf_of_hoisted_at : (c : ℕ) (hs : List Hoist) (q : Place) (i : ℕ) (cs : Cases) → has_leaf_of c (hoisted_of hs q i cs) ≡ has_leaf_of c cs
has_leaf_of_hoisted_at c hs q i cs =
    sym (has_leaf_of_unhoisted c (hoisted_of hs q i cs)) ∙ ap (has_leaf_of c) (hoisted_of_unhoisted hs q i cs) ∙ has_leaf_of_unhoisted c cs

-- THEOREM: a clause has a leaf in the hoisted tree where it has one in the tree
pub has_leaf_hoisted : (c n : ℕ) (a : Tree) → has_leaf c (hoist_all n a) ≡ has_leaf c a
has_leaf_hoisted c n a = kept (has_leaf c) (has_leaf_unhoisted c) n a

-- THEOREM: 14 is the same asked of the tree
pub lowest_idle_hoisted : (m n : ℕ) (a : Tree) → lowest_idle m (hoist_all n a) ≡ lowest_idle m a
unfolding lowest_idle
lowest_idle_hoisted m n a = ap (λ f. lowest f 0 m) (λ i c. not (has_leaf_hoisted c n a i))

-- ---- counts: those of the tree without its hoists, and what these add
mutual
  unfolding nodes_in over_hoists unhoisted

  nodes_in_unhoisted : (a : Tree) → nodes_in a ≡ nodes_in (unhoisted a) + over_hoists (λ c bs. 1) a
  nodes_in_unhoisted absent = omega arith
  nodes_in_unhoisted (leaf c bs) = omega arith
  nodes_in_unhoisted (hoist c bs a) = omega (arith, nodes_in_unhoisted a)
  nodes_in_unhoisted (switch p cs d) = omega (arith, nodes_in_of_unhoisted cs, nodes_in_unhoisted d)
  nodes_in_unhoisted (listswitch p cs ts d) = omega (arith, nodes_in_of_unhoisted cs, nodes_in_of_unhoisted ts, nodes_in_unhoisted d)

  nodes_in_of_unhoisted : (cs : Cases) → nodes_in_of cs ≡ nodes_in_of (unhoisted_of cs) + over_hoists_of (λ c bs. 1) cs
  nodes_in_of_unhoisted cnil = omega arith
  nodes_in_of_unhoisted (ccons t at a cs) = omega (arith, nodes_in_unhoisted a, nodes_in_of_unhoisted cs)

mutual
  unfolding bindings_in over_hoists unhoisted

  bindings_in_unhoisted : (a : Tree) → length (bindings_in a) ≡ length (bindings_in (unhoisted a)) + over_hoists (λ c bs. length bs) a
  bindings_in_unhoisted absent = omega arith
  bindings_in_unhoisted (leaf c bs) = omega arith
  bindings_in_unhoisted (hoist c bs a) = omega (arith, length-append bs (bindings_in a), bindings_in_unhoisted a)
  bindings_in_unhoisted (switch p cs d) =
      omega (
        arith,
        length-append (bindings_in_of cs) (bindings_in d),
        length-append (bindings_in_of (unhoisted_of cs)) (bindings_in (unhoisted d)),
        bindings_in_of_unhoisted cs,
        bindings_in_unhoisted d,
      )
  bindings_in_unhoisted (listswitch p cs ts d) =
      omega (
        arith,
        length-append (bindings_in_of cs) (bindings_in_of ts ++ bindings_in d),
        length-append (bindings_in_of ts) (bindings_in d),
        length-append (bindings_in_of (unhoisted_of cs)) (bindings_in_of (unhoisted_of ts) ++ bindings_in (unhoisted d)),
        length-append (bindings_in_of (unhoisted_of ts)) (bindings_in (unhoisted d)),
        bindings_in_of_unhoisted cs,
        bindings_in_of_unhoisted ts,
        bindings_in_unhoisted d,
      )

  bindings_in_of_unhoisted : (cs : Cases) → length (bindings_in_of cs) ≡ length (bindings_in_of (unhoisted_of cs)) + over_hoists_of (λ c bs. length bs) cs
  bindings_in_of_unhoisted cnil = omega arith
  bindings_in_of_unhoisted (ccons t at a cs) =
      omega (
        arith,
        length-append (bindings_in a) (bindings_in_of cs),
        length-append (bindings_in (unhoisted a)) (bindings_in_of (unhoisted_of cs)),
        bindings_in_unhoisted a,
        bindings_in_of_unhoisted cs,
      )

-- THEOREM: what hoisting adds to the nodes and bindings is what the hoists add
pub nodes_in_added : (n : ℕ) (a : Tree) (k : ℕ) → over_hoists (λ c bs. 1) (hoist_all n a) ≡ over_hoists (λ c bs. 1) a + k
    → nodes_in (hoist_all n a) ≡ nodes_in a + k
nodes_in_added n a k e = omega (arith, e, nodes_in_unhoisted (hoist_all n a), nodes_in_unhoisted a, ap nodes_in (hoist_all_unhoisted n a))

pub bindings_in_added : (n : ℕ) (a : Tree) (k : ℕ) → over_hoists (λ c bs. length bs) (hoist_all n a) ≡ over_hoists (λ c bs. length bs) a + k
    → length (bindings_in (hoist_all n a)) ≡ length (bindings_in a) + k
bindings_in_added n a k e =
    omega (arith, e, bindings_in_unhoisted (hoist_all n a), bindings_in_unhoisted a, ap (λ b. length (bindings_in b)) (hoist_all_unhoisted n a))
