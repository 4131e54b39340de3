-- Rule 5: a hoist binds what a leaf of its clause binds, so whatever holds of the bindings of all leaves holds of those of the hoists.
-- The bindings that 13 counts are those of the leaves and, for each clause, those of its first leaf that binds something.
use Rattle.std.specs.Prelude.{◌≡◌, Bool, length}
use Rattle.std.proofs.Math.Path.{refl}
use Rattle.std.proofs.Common.{sym, ap, ap₂, ◌∙◌, inl, inr, arith, length-append}
use Rattle.std.proofs.Math.Bool.{true, false}
use mathlib.Core.List.{List, [], ◌∷◌, ◌++◌}
use Rattle.std.proofs.Math.Option.{Option, none, some}
use Prim.Native.Nat.{ℕ, zero, suc, ◌+◌, ◌<◌}
use Rattle.base_words.specs.Words.{pick}
use Rattle.spec_rules.specs.Rows.{Binding}
use Rattle.spec_rules.specs.Building.{Tree, Cases, absent, leaf, hoist, switch, listswitch, cnil, ccons}
use Rattle.spec_rules.specs.Hoisting.{Place, Fallback, Case, under, how_many, visits, scope, first_bindings, Hoist, hoists, is_at, wrap, hoisted, hoisted_of, hoist_all, bindings_in, bindings_in_of, has_leaf}
use Rattle.spec_hoist.specs.Trees.{Plain, PlainOf, over_hoists, EachHoist, EachHoistOf, Leaf, leaf_with, leaves_of, leaves_of_each, Among, EachLeaf, over_leaves, SameBindings, sum}
use Rattle.spec_hoist.specs.Scopes.{has_scope}
use Rattle.spec_hoist.proofs.IdleLaws.{has_scope_scope}
use Rattle.spec_hoist.proofs.OnceLaws.{over_hoists_hoist_all}
use Rattle.spec_hoist.specs.UnhoistedLaws.{bindings_in_added}
use Rattle.spec_hoist.specs.BindingsLaws.{first_bindings_idle, first_bindings_as}

-- ---- each hoist of the hoisted tree
abbrev EachOf : (ℕ → List Binding → Type 0) → List Hoist → Type 0
EachOf P [] = Unit {0}
EachOf P (h ∷ hs) = ((q : Place) → is_at q h.scope ≡ true → P h.clause h.bindings) × EachOf P hs

module _ (P : ℕ → List Binding → Type 0) where
  each_wrap : (q : Place) (hs : List Hoist) (a : Tree) → EachOf P hs → EachHoist P a → EachHoist P (wrap q hs a)
  unfolding wrap EachHoist
  each_wrap q [] a f h = h
  each_wrap q (x ∷ hs) a f h = go (is_at q x.scope) refl (each_wrap q hs a f.1 h)
    where
      go : (b : Bool) → is_at q x.scope ≡ b → EachHoist P (wrap q hs a) → EachHoist P (wrap q (x ∷ hs) a)
      go true e ih = rw (e, wrap) (f.0 q e, ih)
      go false e ih = rw (e, wrap) ih

  mutual
    unfolding hoisted EachHoist Plain

    each_hoisted : (hs : List Hoist) (q : Place) (a : Tree) → EachOf P hs → Plain a → EachHoist P (hoisted hs q a)
    each_hoisted hs q absent f p = tt
    each_hoisted hs q (leaf c bs) f p = each_wrap q hs (leaf c bs) f tt
    each_hoisted hs q (hoist c bs a) f p = absurd p
    each_hoisted hs q (switch x cs d) f p =
        each_wrap q hs (switch x (hoisted_of hs q 0 cs) (hoisted hs (under q Fallback) d)) f
        (each_hoisted_of hs q 0 cs f p.0, each_hoisted hs (under q Fallback) d f p.1)
    each_hoisted hs q (listswitch x cs ts d) f p =
        each_wrap q hs (listswitch x (hoisted_of hs q 0 cs) (hoisted_of hs q (how_many cs) ts) (hoisted hs (under q Fallback) d)) f
        (each_hoisted_of hs q 0 cs f p.0, each_hoisted_of hs q (how_many cs) ts f p.1, each_hoisted hs (under q Fallback) d f p.2)

    each_hoisted_of : (hs : List Hoist) (q : Place) (i : ℕ) (cs : Cases) → EachOf P hs → PlainOf cs → EachHoistOf P (hoisted_of hs q i cs)
    each_hoisted_of hs q i cnil f p = tt
    each_hoisted_of hs q i (ccons t at a cs) f p = (each_hoisted hs (under q (Case i)) a f p.0, each_hoisted_of hs q (suc i) cs f p.1)

  each_hoists : (i n : ℕ) (a : Tree) → ((c : ℕ) → c < i + n → has_leaf c a ≡ true → P c (first_bindings c a)) → EachOf P (hoists i n a (visits [] a))
  unfolding hoists is_at has_scope
  each_hoists i zero a f = tt
  each_hoists i (suc n) a f = (λ q e. f i (omega arith) (sym (has_scope_scope i a) ∙ at q (scope i (visits [] a)) e), each_hoists (suc i) n a (λ c l. f c (omega arith)))
    where
      at : (q : Place) (o : Option Place) → is_at q o ≡ true → has_scope o ≡ true
      at q none e = e
      at q (some s) e = refl

  -- THEOREM: each hoist is of a clause with a leaf, and has its first bindings
  pub hoists_are : (n : ℕ) (a : Tree) → Plain a → ((c : ℕ) → c < n → has_leaf c a ≡ true → P c (first_bindings c a)) → EachHoist P (hoist_all n a)
  unfolding hoist_all
  hoists_are n a p f = each_hoisted (hoists 0 n a (visits [] a)) [] a (each_hoists 0 n a (λ c l. f c (omega arith))) p

  -- THEOREM: what holds of the clause and bindings of each leaf holds of each hoist's
  pub hoists_as_leaves : (n : ℕ) (a : Tree) → Plain a → EachLeaf P a → EachHoist P (hoist_all n a)
  hoists_as_leaves n a p f = hoists_are n a p (λ c l h. first_bindings_as P c a f h)

-- THEOREM: each hoist of the hoisted tree binds what a leaf of its clause binds
pub hoists_bind : (n : ℕ) (a : Tree) → Plain a → EachHoist (λ c bs. Among (leaf_with c bs) (leaves_of a)) (hoist_all n a)
hoists_bind n a p = hoists_as_leaves (λ c bs. Among (leaf_with c bs) (leaves_of a)) n a p (λ x m. m)

-- THEOREM: where the leaves of each clause bind the same in whatever order, so does its hoist
pub hoists_same : (n : ℕ) (a : Tree) (bound : ℕ → List Binding) → Plain a → EachLeaf (λ c bs. SameBindings bs (bound c)) a
    → EachHoist (λ c bs. SameBindings bs (bound c)) (hoist_all n a)
hoists_same n a bound p h = hoists_as_leaves (λ c bs. SameBindings bs (bound c)) n a p h

-- ---- 13
-- THEOREM: hoisting adds the bindings of each clause's hoist
pub bindings_in_hoist_all : (n : ℕ) (a : Tree) → length (bindings_in (hoist_all n a)) ≡ length (bindings_in a) + sum (λ c. length (first_bindings c a)) 0 n
bindings_in_hoist_all n a =
    bindings_in_added n a (sum (λ c. length (first_bindings c a)) 0 n)
    (over_hoists_hoist_all (λ c bs. length bs) n a ∙ ap (λ f. over_hoists (λ c bs. length bs) a + sum f 0 n) (λ i c. each c i))
  where
    each : (c : ℕ) → pick (has_leaf c a) (length (first_bindings c a)) 0 ≡ length (first_bindings c a)
    each c = go (has_leaf c a) refl
      where
        go : (b : Bool) → has_leaf c a ≡ b → pick (has_leaf c a) (length (first_bindings c a)) 0 ≡ length (first_bindings c a)
        go true e = rw e
        go false e = rw e (sym (ap length (first_bindings_idle c a e)))

over_leaves_append : (f : Leaf → ℕ) (xs ys : List Leaf) → over_leaves f (xs ++ ys) ≡ over_leaves f xs + over_leaves f ys
unfolding over_leaves
over_leaves_append f [] ys = omega arith
over_leaves_append f (x ∷ xs) ys = omega (arith, over_leaves_append f xs ys)

over_leaves_same : (f g : Leaf → ℕ) (xs : List Leaf) → ((x : Leaf) → Among x xs → f x ≡ g x) → over_leaves f xs ≡ over_leaves g xs
unfolding over_leaves
over_leaves_same f g [] h = refl
over_leaves_same f g (x ∷ xs) h = ap₂ ◌+◌ (h x (inl refl)) (over_leaves_same f g xs (λ y m. h y (inr m)))

abbrev bindings_of : Leaf → ℕ
bindings_of x = length x.bindings

mutual
  unfolding bindings_in leaves_of over_leaves Plain

  -- the bindings of a plain tree are those of its leaves
  bindings_in_leaves : (a : Tree) → Plain a → length (bindings_in a) ≡ over_leaves bindings_of (leaves_of a)
  bindings_in_leaves absent p = refl
  bindings_in_leaves (leaf c bs) p = omega arith
  bindings_in_leaves (hoist c bs a) p = absurd p
  bindings_in_leaves (switch x cs d) p =
      omega (
        arith,
        length-append (bindings_in_of cs) (bindings_in d),
        over_leaves_append bindings_of (leaves_of_each cs) (leaves_of d),
        bindings_in_of_leaves cs p.0,
        bindings_in_leaves d p.1,
      )
  bindings_in_leaves (listswitch x cs ts d) p =
      omega (
        arith,
        length-append (bindings_in_of cs) (bindings_in_of ts ++ bindings_in d),
        length-append (bindings_in_of ts) (bindings_in d),
        over_leaves_append bindings_of (leaves_of_each cs) (leaves_of_each ts ++ leaves_of d),
        over_leaves_append bindings_of (leaves_of_each ts) (leaves_of d),
        bindings_in_of_leaves cs p.0,
        bindings_in_of_leaves ts p.1,
        bindings_in_leaves d p.2,
      )

  bindings_in_of_leaves : (cs : Cases) → PlainOf cs → length (bindings_in_of cs) ≡ over_leaves bindings_of (leaves_of_each cs)
  bindings_in_of_leaves cnil p = refl
  bindings_in_of_leaves (ccons t at a cs) p =
      omega (
        arith,
        length-append (bindings_in a) (bindings_in_of cs),
        over_leaves_append bindings_of (leaves_of a) (leaves_of_each cs),
        bindings_in_leaves a p.0,
        bindings_in_of_leaves cs p.1,
      )

-- THEOREM: where each leaf of a clause c has m c bindings, 13 is counted from the clauses of the leaves alone
pub bindings_in_by_clause : (n : ℕ) (a : Tree) (m : ℕ → ℕ) → Plain a → EachLeaf (λ c bs. length bs ≡ m c) a
    → length (bindings_in (hoist_all n a)) ≡ over_leaves (λ x. m x.clause) (leaves_of a) + sum (λ c. pick (has_leaf c a) (m c) 0) 0 n
bindings_in_by_clause n a m p h =
    bindings_in_hoist_all n a
    ∙ ap₂ ◌+◌ (bindings_in_leaves a p ∙ over_leaves_same bindings_of (λ x. m x.clause) (leaves_of a) h) (ap (λ f. sum f 0 n) (λ i c. each c i))
  where
    each : (c : ℕ) → length (first_bindings c a) ≡ pick (has_leaf c a) (m c) 0
    each c = go (has_leaf c a) refl
      where
        go : (b : Bool) → has_leaf c a ≡ b → length (first_bindings c a) ≡ pick (has_leaf c a) (m c) 0
        go true e = rw e (first_bindings_as (λ c bs. length bs ≡ m c) c a h e)
        go false e = rw e (ap length (first_bindings_idle c a e))
