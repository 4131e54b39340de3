-- The whole tree of a sheet's clauses: each clause with a leaf is hoisted exactly once and above all its leaves, and nothing else is changed.
-- The theorems of the other files at the tree that is built, those of the hoists in proofs/WholeTreeLaws.antt; and what a well made tree
-- keeps when it is hoisted.
use Rattle.std.specs.Prelude.{◌≡◌, refl, Bool, true, false, List, [], ◌∷◌, ℕ, zero, suc, ◌+◌, ◌≤◌, ◌<◌, length}
use Rattle.std.proofs.Common.{ap, ◌∙◌, arith}
use Rattle.std.proofs.Math.Option.{none, some}
use Rattle.spec_rules.specs.Patterns.{Pat}
use Rattle.spec_rules.specs.Rows.{bit}
use Rattle.spec_rules.specs.Building.{Tree, Cases, absent, leaf, hoist, switch, listswitch, cnil, ccons, plain_tree}
use Rattle.spec_rules.specs.Hoisting.{Place, Fallback, Case, under, Visit, how_many, visits, Hoist, hoists, is_at, wrap, hoisted, hoisted_of, hoist_all, whole_tree, nodes_in, nodes_in_of, has_leaf}
use Rattle.spec_rules.specs.TreeFile.{cases_in, cases_in_of}
use Rattle.spec_rules.specs.Walking.{walk}
use Rattle.spec_rules.specs.Calls.{lowest_idle}
use Rattle.spec_hoist.specs.Trees.{is_present, WellMade, WellMadeOf, hoists_of, Above, leaves_of}
use Rattle.spec_hoist.specs.UnhoistedLaws.{walk_hoisted, leaves_of_hoisted, has_leaf_hoisted}
use Rattle.spec_hoist.specs.IdleLaws.{LowestIdle, lowest_idle_some, lowest_idle_make, lowest_idle_make_none}
use Rattle.spec_hoist.specs.BuiltLaws.{plain_tree_made, plain_tree_present}

-- ---- a well made tree is well made when it is hoisted
abbrev Below : ℕ → List Hoist → Type 0
Below n [] = Unit {0}
Below n (h ∷ hs) = (h.clause < n) × Below n hs

hoists_below : (i m n : ℕ) (a : Tree) (xs : List Visit) → i + m ≤ n → Below n (hoists i m a xs)
unfolding hoists
hoists_below i zero n a xs l = tt
hoists_below i (suc m) n a xs l = (omega arith, hoists_below (suc i) m n a xs (omega arith))

wrap_present : (q : Place) (hs : List Hoist) (a : Tree) → is_present a ≡ true → is_present (wrap q hs a) ≡ true
unfolding wrap is_present
wrap_present q [] a h = h
wrap_present q (x ∷ hs) a h = go (is_at q x.scope) refl (wrap_present q hs a h)
  where
    go : (b : Bool) → is_at q x.scope ≡ b → is_present (wrap q hs a) ≡ true → is_present (wrap q (x ∷ hs) a) ≡ true
    go true e ih = rw (e, wrap)
    go false e ih = rw (e, wrap) ih

wrap_made : (n : ℕ) (q : Place) (hs : List Hoist) (a : Tree) → Below n hs → is_present a ≡ true → WellMade n a → WellMade n (wrap q hs a)
unfolding wrap WellMade
wrap_made n q [] a l h k = k
wrap_made n q (x ∷ hs) a l h k = go (is_at q x.scope) refl (wrap_made n q hs a l.1 h k)
  where
    go : (b : Bool) → is_at q x.scope ≡ b → WellMade n (wrap q hs a) → WellMade n (wrap q (x ∷ hs) a)
    go true e ih = rw (e, wrap) (l.0, wrap_present q hs a h, ih)
    go false e ih = rw (e, wrap) ih

how_many_hoisted_of : (hs : List Hoist) (q : Place) (i : ℕ) (cs : Cases) → how_many (hoisted_of hs q i cs) ≡ how_many cs
unfolding hoisted_of how_many
how_many_hoisted_of hs q i cnil = refl
how_many_hoisted_of hs q i (ccons t at a cs) = ap suc (how_many_hoisted_of hs q (suc i) cs)

hoisted_present : (hs : List Hoist) (q : Place) (a : Tree) → is_present (hoisted hs q a) ≡ is_present a
unfolding hoisted is_present
hoisted_present hs q absent = refl
hoisted_present hs q (leaf c bs) = wrap_present q hs (leaf c bs) refl
hoisted_present hs q (hoist c bs a) = refl
hoisted_present hs q (switch p cs d) = wrap_present q hs (switch p (hoisted_of hs q 0 cs) (hoisted hs (under q Fallback) d)) refl
hoisted_present hs q (listswitch p cs ts d) =
    wrap_present q hs (listswitch p (hoisted_of hs q 0 cs) (hoisted_of hs q (how_many cs) ts) (hoisted hs (under q Fallback) d)) refl

module _ (n : ℕ) (hs : List Hoist) (l : Below n hs) where
  mutual
    unfolding hoisted WellMade is_present

    hoisted_made : (q : Place) (a : Tree) → WellMade n a → WellMade n (hoisted hs q a)
    hoisted_made q absent h = tt
    hoisted_made q (leaf c bs) h = wrap_made n q hs (leaf c bs) l refl h
    hoisted_made q (hoist c bs a) h = (h.0, hoisted_present hs q a ∙ h.1, hoisted_made q a h.2)
    hoisted_made q (switch p cs d) h =
        wrap_made n q hs (switch p (hoisted_of hs q 0 cs) (hoisted hs (under q Fallback) d)) l refl
        (omega (arith, how_many_hoisted_of hs q 0 cs, h.0), hoisted_of_made q 0 cs h.1, hoisted_made (under q Fallback) d h.2)
    hoisted_made q (listswitch p cs ts d) h =
        wrap_made n q hs (listswitch p (hoisted_of hs q 0 cs) (hoisted_of hs q (how_many cs) ts) (hoisted hs (under q Fallback) d)) l refl (
          omega (arith, how_many_hoisted_of hs q 0 cs, how_many_hoisted_of hs q (how_many cs) ts, h.0),
          hoisted_of_made q 0 cs h.1,
          hoisted_of_made q (how_many cs) ts h.2,
          hoisted_made (under q Fallback) d h.3,
        )

    hoisted_of_made : (q : Place) (i : ℕ) (cs : Cases) → WellMadeOf n cs → WellMadeOf n (hoisted_of hs q i cs)
    hoisted_of_made q i cnil h = tt
    hoisted_of_made q i (ccons t at a cs) h = (hoisted_present hs (under q (Case i)) a ∙ h.0, hoisted_made (under q (Case i)) a h.1, hoisted_of_made q (suc i) cs h.2)

-- THEOREM: hoisting keeps a tree well made
pub hoist_all_made : (n : ℕ) (a : Tree) → WellMade n a → WellMade n (hoist_all n a)
unfolding hoist_all
hoist_all_made n a h = hoisted_made n (hoists 0 n a (visits [] a)) (hoists_below 0 n n a (visits [] a) (omega arith)) [] a h

pub hoist_all_present : (n : ℕ) (a : Tree) → is_present (hoist_all n a) ≡ is_present a
unfolding hoist_all
hoist_all_present n a = hoisted_present (hoists 0 n a (visits [] a)) [] a

-- ---- a well made tree has fewer cases than nodes
-- each case's child is a node, and so is the root
one_if : (b : Bool) → b ≡ true → bit b ≡ 1
unfolding bit
one_if b e = ap bit e

mutual
  unfolding cases_in nodes_in WellMade is_present how_many bit

  cases_nodes : (n : ℕ) (a : Tree) → WellMade n a → cases_in a + bit (is_present a) ≤ nodes_in a
  cases_nodes n absent h = omega arith
  cases_nodes n (leaf c bs) h = omega arith
  cases_nodes n (hoist c bs a) h = omega (arith, cases_nodes n a h.2)
  cases_nodes n (switch p cs d) h = omega (arith, cases_of_nodes n cs h.1, cases_nodes n d h.2)
  cases_nodes n (listswitch p cs ts d) h = omega (arith, cases_of_nodes n cs h.1, cases_of_nodes n ts h.2, cases_nodes n d h.3)

  cases_of_nodes : (n : ℕ) (cs : Cases) → WellMadeOf n cs → how_many cs + cases_in_of cs ≤ nodes_in_of cs
  cases_of_nodes n cnil h = omega arith
  cases_of_nodes n (ccons t at a cs) h = omega (arith, cases_nodes n a h.1, one_if (is_present a) h.0, cases_of_nodes n cs h.2)

pub cases_in_less : (n : ℕ) (a : Tree) → WellMade n a → is_present a ≡ true → cases_in a < nodes_in a
cases_in_less n a h p = omega (arith, cases_nodes n a h, one_if (is_present a) p)

-- ---- the whole tree
module _ (qs : List Pat) where
  -- the walk, the leaves and the clauses that have one are those of the tree before hoisting
  pub whole_tree_walk : (v : List ℕ) → walk (whole_tree qs) v ≡ walk (plain_tree qs) v
  unfolding whole_tree
  whole_tree_walk v = walk_hoisted (length qs) (plain_tree qs) v

  pub whole_tree_leaves : leaves_of (whole_tree qs) ≡ leaves_of (plain_tree qs)
  unfolding whole_tree
  whole_tree_leaves = leaves_of_hoisted (length qs) (plain_tree qs)

  pub whole_tree_has_leaf : (c : ℕ) → has_leaf c (whole_tree qs) ≡ has_leaf c (plain_tree qs)
  unfolding whole_tree
  whole_tree_has_leaf c = has_leaf_hoisted c (length qs) (plain_tree qs)

  pub whole_tree_made : WellMade (length qs) (whole_tree qs)
  unfolding whole_tree
  whole_tree_made = hoist_all_made (length qs) (plain_tree qs) (plain_tree_made qs)

  pub whole_tree_present : 0 < length qs → is_present (whole_tree qs) ≡ true
  unfolding whole_tree
  whole_tree_present l = hoist_all_present (length qs) (plain_tree qs) ∙ plain_tree_present qs l

  -- 14
  pub whole_tree_idle : (c : ℕ) → lowest_idle (length qs) (whole_tree qs) ≡ some c → LowestIdle (length qs) (plain_tree qs) c
  unfolding whole_tree
  whole_tree_idle c e = lowest_idle_some (length qs) (plain_tree qs) c e

  pub whole_tree_make_idle : (c : ℕ) → LowestIdle (length qs) (plain_tree qs) c → lowest_idle (length qs) (whole_tree qs) ≡ some c
  unfolding whole_tree
  whole_tree_make_idle c h = lowest_idle_make (length qs) (plain_tree qs) c h

  pub whole_tree_make_busy : ((c : ℕ) → c < length qs → has_leaf c (plain_tree qs) ≡ true) → lowest_idle (length qs) (whole_tree qs) ≡ none
  unfolding whole_tree
  whole_tree_make_busy h = lowest_idle_make_none (length qs) (plain_tree qs) h

  -- THEOREM: where 14 does not refuse, each clause is hoisted exactly once, above all its leaves, and has one
  pub record HoistedOnce (c : ℕ) : Type 0 where
    pub leaf_there : has_leaf c (whole_tree qs) ≡ true
    pub once : hoists_of c (whole_tree qs) ≡ 1
    pub above : Above c (whole_tree qs)
