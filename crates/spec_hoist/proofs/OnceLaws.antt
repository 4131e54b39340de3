-- Rule 7: a clause's scope is the place of exactly one node, so each clause with a leaf is hoisted once, and no other.
-- What the hoists add up to, counted in any way, is the sum over the clauses with a leaf; the nodes of 12 are counted so.
use Rattle.std.specs.Prelude.{◌≡◌, refl, Bool, true, false, List, [], ◌∷◌, ◌++◌, ℕ, zero, suc, ◌+◌, ◌≤◌, ◌<◌, eqb}
use Rattle.std.proofs.Common.{sym, ap, ap₂, ◌∙◌, ⊎_elim, append-nil, append_assoc, arith, add-one, eqb-true, eq-eqb, ne_eqb}
use Rattle.std.proofs.Math.Option.{Option, none, some}
use Rattle.std.proofs.lemmas.Bool.{eqb-false}
use Rattle.base_words.specs.Words.{both, pick, same_text}
use Rattle.spec_rules.specs.Rows.{Binding, bit}
use Rattle.spec_rules.specs.Searching.{times}
use Rattle.spec_rules.specs.SearchingLaws.{first_or_rest}
use Rattle.spec_rules.specs.Building.{Tree, Cases, absent, leaf, hoist, switch, listswitch, cnil, ccons}
use Rattle.spec_rules.specs.Hoisting.{Place, Fallback, Case, under, how_many, visits, scope, first_bindings, Hoist, hoists, is_at, wrap, hoisted, hoisted_of, hoist_all, nodes_in, has_leaf}
use Rattle.spec_hoist.specs.Trees.{Plain, PlainOf, over_hoists, over_hoists_of, hoists_of, over_places, over_places_of, nodes_at, sum}
use Rattle.spec_hoist.specs.Scopes.{has_scope, later, last_leaf, last_leaf_of, is_clause, beneath, merge, scope_in, scope_in_of}
use Rattle.spec_hoist.specs.ScopesLaws.{noted_root, noted_step, merge_step, beneath_step, scope_in_of_step}
use Rattle.spec_hoist.proofs.ScopesLaws.{scope_is}
use Rattle.spec_hoist.proofs.IdleLaws.{has_scope_scope}
use Rattle.spec_hoist.specs.UnhoistedLaws.{nodes_in_added}

-- ---- sums over places
mutual
  unfolding over_places

  over_places_add : (a : Tree) (f g : Place → ℕ) → over_places a (λ x. f x + g x) ≡ over_places a f + over_places a g
  over_places_add absent f g = omega arith
  over_places_add (leaf c bs) f g = refl
  over_places_add (hoist c bs a) f g = over_places_add a f g
  over_places_add (switch p cs d) f g =
      omega (arith, over_places_of_add cs 0 f g, over_places_add d (λ x. f (Fallback ∷ x)) (λ x. g (Fallback ∷ x)))
  over_places_add (listswitch p cs ts d) f g =
      omega (arith, over_places_of_add cs 0 f g, over_places_of_add ts (how_many cs) f g, over_places_add d (λ x. f (Fallback ∷ x)) (λ x. g (Fallback ∷ x)))

  over_places_of_add : (cs : Cases) (i : ℕ) (f g : Place → ℕ) → over_places_of cs i (λ x. f x + g x) ≡ over_places_of cs i f + over_places_of cs i g
  over_places_of_add cnil i f g = omega arith
  over_places_of_add (ccons t at a cs) i f g =
      omega (arith, over_places_add a (λ x. f (Case i ∷ x)) (λ x. g (Case i ∷ x)), over_places_of_add cs (suc i) f g)

mutual
  unfolding over_places

  over_places_zero : (a : Tree) → over_places a (λ x. 0) ≡ 0
  over_places_zero absent = refl
  over_places_zero (leaf c bs) = refl
  over_places_zero (hoist c bs a) = over_places_zero a
  over_places_zero (switch p cs d) = omega (arith, over_places_of_zero cs 0, over_places_zero d)
  over_places_zero (listswitch p cs ts d) = omega (arith, over_places_of_zero cs 0, over_places_of_zero ts (how_many cs), over_places_zero d)

  over_places_of_zero : (cs : Cases) (i : ℕ) → over_places_of cs i (λ x. 0) ≡ 0
  over_places_of_zero cnil i = refl
  over_places_of_zero (ccons t at a cs) i = omega (arith, over_places_zero a, over_places_of_zero cs (suc i))

-- ---- a scope is the place of exactly one node
-- v at the place s, 0 elsewhere
abbrev only : ℕ → Place → Place → ℕ
only v s x = pick (same_text x s) v 0

-- below a step that is not the first of s; below the first step of s
only_away : (v j k : ℕ) (s : Place) (a : Tree) → (j ≡ k → ⊥) → over_places a (λ x. only v (k ∷ s) (j ∷ x)) ≡ 0
unfolding same_text
only_away v j k s a n = ap (over_places a) (λ i x. pick (both (ne_eqb j k n i) (same_text x s)) v 0) ∙ over_places_zero a

only_step : (v j k : ℕ) (s : Place) (a : Tree) → j ≡ k → over_places a (λ x. only v (k ∷ s) (j ∷ x)) ≡ over_places a (only v s)
unfolding same_text
only_step v j k s a e = ap (over_places a) (λ i x. pick (both (eq-eqb j k e i) (same_text x s)) v 0)

only_of_away : (v i k : ℕ) (s : Place) (cs : Cases) → ((j : ℕ) → i ≤ j → j < i + how_many cs → Case j ≡ k → ⊥) → over_places_of cs i (only v (k ∷ s)) ≡ 0
unfolding over_places how_many
only_of_away v i k s cnil n = refl
only_of_away v i k s (ccons t at a cs) n =
    omega (arith, only_away v (Case i) k s a (n i (omega arith) (omega arith)), only_of_away v (suc i) k s cs (λ j l h. n j (omega arith) (omega arith)))

only_of_root : (v i : ℕ) (cs : Cases) → over_places_of cs i (only v []) ≡ 0
unfolding over_places same_text
only_of_root v i cnil = refl
only_of_root v i (ccons t at a cs) = omega (arith, over_places_zero a, only_of_root v (suc i) cs)

only_leaf : (v : ℕ) (s : Place) → s ≡ [] → only v s [] ≡ v
unfolding same_text
only_leaf v s e = rw e

no_scope : (s : Place) → ◌≡◌ {A = Option Place} none (some s) → ⊥
no_scope s e = let z : ◌≡◌ {A = ℕ} 0 1 = cc in omega arith

mutual
  unfolding over_places scope_in same_text

  -- a sum that is v at the scope and 0 elsewhere is v
  only_scope : (c v : ℕ) (a : Tree) (s : Place) → scope_in c a ≡ some s → over_places a (only v s) ≡ v
  only_scope c v absent s e = absurd (no_scope s e)
  only_scope c v (leaf d bs) s e = only_leaf v s (noted_root (eqb c d) s e)
  only_scope c v (hoist d bs a) s e = only_scope c v a s e
  only_scope c v (switch p cs d) [] e = omega (arith, only_of_root v 0 cs, over_places_zero d)
  only_scope c v (switch p cs d) (k ∷ s) e =
      ⊎_elim
      (λ h.
      let l = scope_in_of_step c 0 cs k s h.0 in
      omega (arith, only_of_scope c v 0 cs k s h.0, only_away v Fallback k s d (λ z. omega arith)))
      (λ h.
      let z = beneath_step Fallback (scope_in c d) k s h.1 in
      omega (arith, only_of_away v 0 k s cs (λ j w x y. omega arith), only_step v Fallback k s d z.0, only_scope c v d s z.1))
      (merge_step (scope_in_of c 0 cs) (beneath Fallback (scope_in c d)) k s
      (noted_step (is_clause c (later (last_leaf_of cs) (last_leaf d))) (merge (scope_in_of c 0 cs) (beneath Fallback (scope_in c d))) k s e))
  only_scope c v (listswitch p cs ts d) [] e = omega (arith, only_of_root v 0 cs, only_of_root v (how_many cs) ts, over_places_zero d)
  only_scope c v (listswitch p cs ts d) (k ∷ s) e =
      ⊎_elim
      (λ h.
      let l = scope_in_of_step c 0 cs k s h.0 in
      omega (
        arith,
        only_of_scope c v 0 cs k s h.0,
        only_of_away v (how_many cs) k s ts (λ j w x y. omega arith),
        only_away v Fallback k s d (λ z. omega arith),
      ))
      (λ g.
      ⊎_elim
      (λ h.
      let l = scope_in_of_step c (how_many cs) ts k s h.0 in
      omega (
        arith,
        only_of_away v 0 k s cs (λ j w x y. omega arith),
        only_of_scope c v (how_many cs) ts k s h.0,
        only_away v Fallback k s d (λ z. omega arith),
      ))
      (λ h.
      let z = beneath_step Fallback (scope_in c d) k s h.1 in
      omega (
        arith,
        only_of_away v 0 k s cs (λ j w x y. omega arith),
        only_of_away v (how_many cs) k s ts (λ j w x y. omega arith),
        only_step v Fallback k s d z.0,
        only_scope c v d s z.1,
      ))
      (merge_step (scope_in_of c (how_many cs) ts) (beneath Fallback (scope_in c d)) k s g.1))
      (merge_step (scope_in_of c 0 cs) (merge (scope_in_of c (how_many cs) ts) (beneath Fallback (scope_in c d))) k s
      (noted_step (is_clause c (later (last_leaf_of cs) (later (last_leaf_of ts) (last_leaf d))))
      (merge (scope_in_of c 0 cs) (merge (scope_in_of c (how_many cs) ts) (beneath Fallback (scope_in c d)))) k s e))

  only_of_scope : (c v i : ℕ) (cs : Cases) (k : ℕ) (s : Place) → scope_in_of c i cs ≡ some (k ∷ s) → over_places_of cs i (only v (k ∷ s)) ≡ v
  only_of_scope c v i cnil k s e = absurd (no_scope (k ∷ s) e)
  only_of_scope c v i (ccons t at a cs) k s e =
      ⊎_elim
      (λ h.
      let z = beneath_step (Case i) (scope_in c a) k s h.0 in
      omega (arith, only_step v (Case i) k s a z.0, only_scope c v a s z.1, only_of_away v (suc i) k s cs (λ j w x y. omega arith)))
      (λ h.
      let l = scope_in_of_step c (suc i) cs k s h.1 in
      omega (arith, only_away v (Case i) k s a (λ z. omega arith), only_of_scope c v (suc i) cs k s h.1))
      (merge_step (beneath (Case i) (scope_in c a)) (scope_in_of c (suc i) cs) k s e)

-- THEOREM: exactly one node stands at a clause's scope
pub scope_node : (c : ℕ) (a : Tree) (s : Place) → scope c (visits [] a) ≡ some s → nodes_at s a ≡ 1
unfolding nodes_at
scope_node c a s e = only_scope c 1 a s (sym (scope_is c a) ∙ e)

-- ---- what the hoists of a list add
-- the sum of f over those of the list whose scope is q
hoisted_at : (ℕ → List Binding → ℕ) → List Hoist → Place → ℕ
hoisted_at f [] q = 0
hoisted_at f (h ∷ hs) q = pick (is_at q h.scope) (f h.clause h.bindings) 0 + hoisted_at f hs q

over_hoists_wrap : (f : ℕ → List Binding → ℕ) (q : Place) (hs : List Hoist) (a : Tree) → over_hoists f (wrap q hs a) ≡ hoisted_at f hs q + over_hoists f a
unfolding wrap hoisted_at over_hoists
over_hoists_wrap f q [] a = omega arith
over_hoists_wrap f q (h ∷ hs) a = go (is_at q h.scope) refl (over_hoists_wrap f q hs a)
  where
    go : (b : Bool) → is_at q h.scope ≡ b → over_hoists f (wrap q hs a) ≡ hoisted_at f hs q + over_hoists f a
        → over_hoists f (wrap q (h ∷ hs) a) ≡ hoisted_at f (h ∷ hs) q + over_hoists f a
    go true x ih = rw (x, wrap) (omega arith)
    go false x ih = rw (x, wrap) (omega arith)

over_places_under : (g : Place → ℕ) (q : Place) (k : ℕ) (a : Tree) → over_places a (λ x. g (under q k ++ x)) ≡ over_places a (λ x. g (q ++ k ∷ x))
unfolding under
over_places_under g q k a = ap (over_places a) (λ i x. g (append_assoc q (k ∷ []) x i))

mutual
  unfolding hoisted over_hoists over_places

  over_hoists_hoisted : (f : ℕ → List Binding → ℕ) (hs : List Hoist) (q : Place) (a : Tree)
      → over_hoists f (hoisted hs q a) ≡ over_hoists f a + over_places a (λ x. hoisted_at f hs (q ++ x))
  over_hoists_hoisted f hs q absent = omega arith
  over_hoists_hoisted f hs q (leaf c bs) = omega (arith, over_hoists_wrap f q hs (leaf c bs), ap (hoisted_at f hs) (append-nil q))
  over_hoists_hoisted f hs q (hoist c bs a) = omega (arith, over_hoists_hoisted f hs q a)
  over_hoists_hoisted f hs q (switch p cs d) =
      omega (
        arith,
        over_hoists_wrap f q hs (switch p (hoisted_of hs q 0 cs) (hoisted hs (under q Fallback) d)),
        ap (hoisted_at f hs) (append-nil q),
        over_hoists_of_hoisted f hs q 0 cs,
        over_hoists_hoisted f hs (under q Fallback) d,
        over_places_under (hoisted_at f hs) q Fallback d,
      )
  over_hoists_hoisted f hs q (listswitch p cs ts d) =
      omega (
        arith,
        over_hoists_wrap f q hs (listswitch p (hoisted_of hs q 0 cs) (hoisted_of hs q (how_many cs) ts) (hoisted hs (under q Fallback) d)),
        ap (hoisted_at f hs) (append-nil q),
        over_hoists_of_hoisted f hs q 0 cs,
        over_hoists_of_hoisted f hs q (how_many cs) ts,
        over_hoists_hoisted f hs (under q Fallback) d,
        over_places_under (hoisted_at f hs) q Fallback d,
      )

  over_hoists_of_hoisted : (f : ℕ → List Binding → ℕ) (hs : List Hoist) (q : Place) (i : ℕ) (cs : Cases)
      → over_hoists_of f (hoisted_of hs q i cs) ≡ over_hoists_of f cs + over_places_of cs i (λ x. hoisted_at f hs (q ++ x))
  over_hoists_of_hoisted f hs q i cnil = omega arith
  over_hoists_of_hoisted f hs q i (ccons t at a cs) =
      omega (
        arith,
        over_hoists_hoisted f hs (under q (Case i)) a,
        over_places_under (hoisted_at f hs) q (Case i) a,
        over_hoists_of_hoisted f hs q (suc i) cs,
      )

-- what a clause adds, by its scope
over_places_scope : (c v : ℕ) (a : Tree) → over_places a (λ x. pick (is_at x (scope c (visits [] a))) v 0) ≡ pick (has_leaf c a) v 0
unfolding is_at has_scope
over_places_scope c v a = go (scope c (visits [] a)) refl
  where
    go : (o : Option Place) → scope c (visits [] a) ≡ o → over_places a (λ x. pick (is_at x (scope c (visits [] a))) v 0) ≡ pick (has_leaf c a) v 0
    go none e =
        ap (λ o. over_places a (λ x. pick (is_at x o) v 0)) e ∙ over_places_zero a ∙ ap (λ b. pick b v 0) (sym (ap has_scope e) ∙ has_scope_scope c a)
    go (some s) e =
        ap (λ o. over_places a (λ x. pick (is_at x o) v 0)) e
        ∙ only_scope c v a s (sym (scope_is c a) ∙ e)
        ∙ ap (λ b. pick b v 0) (sym (ap has_scope e) ∙ has_scope_scope c a)

over_places_hoists : (f : ℕ → List Binding → ℕ) (i n : ℕ) (a : Tree)
    → over_places a (hoisted_at f (hoists i n a (visits [] a))) ≡ sum (λ c. pick (has_leaf c a) (f c (first_bindings c a)) 0) i n
unfolding hoists hoisted_at sum
over_places_hoists f i zero a = over_places_zero a
over_places_hoists f i (suc n) a =
    over_places_add a (λ x. pick (is_at x (scope i (visits [] a))) (f i (first_bindings i a)) 0) (hoisted_at f (hoists (suc i) n a (visits [] a)))
    ∙ ap₂ ◌+◌ (over_places_scope i (f i (first_bindings i a)) a)
    (over_places_hoists f (suc i) n a ∙ ap (λ k. sum (λ c. pick (has_leaf c a) (f c (first_bindings c a)) 0) k n) (sym (add-one i)))

-- THEOREM: what hoisting adds, however it is counted, is the sum over the clauses with a leaf
pub over_hoists_hoist_all : (f : ℕ → List Binding → ℕ) (n : ℕ) (a : Tree)
    → over_hoists f (hoist_all n a) ≡ over_hoists f a + sum (λ c. pick (has_leaf c a) (f c (first_bindings c a)) 0) 0 n
unfolding hoist_all
over_hoists_hoist_all f n a = over_hoists_hoisted f (hoists 0 n a (visits [] a)) [] a ∙ ap (λ k. over_hoists f a + k) (over_places_hoists f 0 n a)

-- ---- exactly once
mutual
  unfolding over_hoists Plain

  pub over_hoists_plain : (f : ℕ → List Binding → ℕ) (a : Tree) → Plain a → over_hoists f a ≡ 0
  over_hoists_plain f absent p = refl
  over_hoists_plain f (leaf c bs) p = refl
  over_hoists_plain f (hoist c bs a) p = absurd p
  over_hoists_plain f (switch x cs d) p = omega (arith, over_hoists_of_plain f cs p.0, over_hoists_plain f d p.1)
  over_hoists_plain f (listswitch x cs ts d) p = omega (arith, over_hoists_of_plain f cs p.0, over_hoists_of_plain f ts p.1, over_hoists_plain f d p.2)

  over_hoists_of_plain : (f : ℕ → List Binding → ℕ) (cs : Cases) → PlainOf cs → over_hoists_of f cs ≡ 0
  over_hoists_of_plain f cnil p = refl
  over_hoists_of_plain f (ccons t at a cs) p = omega (arith, over_hoists_plain f a p.0, over_hoists_of_plain f cs p.1)

pub sum_none : (f : ℕ → ℕ) (i n : ℕ) → ((k : ℕ) → i ≤ k → k < i + n → f k ≡ 0) → sum f i n ≡ 0
unfolding sum
sum_none f i zero h = refl
sum_none f i (suc n) h = omega (arith, h i (omega arith) (omega arith), sum_none f (i + 1) n (λ k l m. h k (omega arith) (omega arith)))

-- only f c counts
pub sum_one : (f : ℕ → ℕ) (i n c : ℕ) → i ≤ c → c < i + n → ((k : ℕ) → (k ≡ c → ⊥) → f k ≡ 0) → sum f i n ≡ f c
unfolding sum
sum_one f i zero c l m h = absurd (omega arith)
sum_one f i (suc n) c l m h =
    ⊎_elim (λ e. rw e (omega (arith, sum_none f (i + 1) n (λ k w x. h k (λ z. omega arith)))))
    (λ w. omega (arith, h i (λ z. omega (arith, w.0)), sum_one f (i + 1) n c w.0 w.1 h))
    (first_or_rest i c n l m)

one_of : (a : Tree) (c : ℕ) (n : ℕ) → Plain a
    → hoists_of c (hoist_all n a) ≡ sum (λ d. pick (has_leaf d a) (bit (eqb c d)) 0) 0 n
unfolding hoists_of
one_of a c n p =
    over_hoists_hoist_all (λ d bs. bit (eqb c d)) n a
    ∙ omega (arith, over_hoists_plain (λ d bs. bit (eqb c d)) a p)

-- another clause's hoist does not count
pick_other : (b : Bool) (c d : ℕ) → (d ≡ c → ⊥) → pick b (bit (eqb c d)) 0 ≡ 0
unfolding bit
pick_other true c d n = ap bit (ne_eqb c d (λ e. n (sym e)))
pick_other false c d n = refl

pick_own : (b : Bool) (c : ℕ) → pick b (bit (eqb c c)) 0 ≡ bit b
unfolding bit
pick_own true c = ap bit (eq-eqb c c refl)
pick_own false c = refl

pub hoists_of_hoist_all : (n : ℕ) (a : Tree) (c : ℕ) → Plain a → c < n → hoists_of c (hoist_all n a) ≡ bit (has_leaf c a)
hoists_of_hoist_all n a c p l =
    one_of a c n p
    ∙ sum_one (λ d. pick (has_leaf d a) (bit (eqb c d)) 0) 0 n c (omega arith) (omega arith) (λ k m. pick_other (has_leaf k a) c k m)
    ∙ pick_own (has_leaf c a) c

-- THEOREM: a clause with a leaf is hoisted exactly once
pub hoisted_once : (n : ℕ) (a : Tree) (c : ℕ) → Plain a → c < n → has_leaf c a ≡ true → hoists_of c (hoist_all n a) ≡ 1
unfolding bit
hoisted_once n a c p l h = hoists_of_hoist_all n a c p l ∙ ap bit h

-- THEOREM: no other clause is hoisted
pub hoisted_never : (n : ℕ) (a : Tree) (c : ℕ) → Plain a → has_leaf c a ≡ false → hoists_of c (hoist_all n a) ≡ 0
hoisted_never n a c p h = one_of a c n p ∙ sum_none (λ d. pick (has_leaf d a) (bit (eqb c d)) 0) 0 n (λ k l m. each k)
  where
    each : (k : ℕ) → pick (has_leaf k a) (bit (eqb c k)) 0 ≡ 0
    each k = go (eqb k c) refl
      where
        go : (b : Bool) → eqb k c ≡ b → pick (has_leaf k a) (bit (eqb c k)) 0 ≡ 0
        go true e = rw (eqb-true k c e, h)
        go false e = pick_other (has_leaf k a) c k (eqb-false k c e)

pub hoisted_only : (n : ℕ) (a : Tree) (c : ℕ) → Plain a → n ≤ c → hoists_of c (hoist_all n a) ≡ 0
hoisted_only n a c p l =
    one_of a c n p
    ∙ sum_none (λ d. pick (has_leaf d a) (bit (eqb c d)) 0) 0 n (λ k x y. pick_other (has_leaf k a) c k (λ e. omega arith))

-- ---- 12
pub sum_times : (f : ℕ → Bool) (i n : ℕ) → sum (λ c. pick (f c) 1 0) i n ≡ times f i n
unfolding sum times
sum_times f i zero = refl
sum_times f i (suc n) = go (f i) refl (sum_times f (i + 1) n)
  where
    go : (b : Bool) → f i ≡ b → sum (λ c. pick (f c) 1 0) (i + 1) n ≡ times f (i + 1) n → sum (λ c. pick (f c) 1 0) i (suc n) ≡ times f i (suc n)
    go true e ih = rw (times, e) (omega arith)
    go false e ih = rw (times, e) (omega arith)

-- THEOREM: hoisting adds a node for each of the clauses with a leaf
pub nodes_in_hoist_all : (n : ℕ) (a : Tree) → nodes_in (hoist_all n a) ≡ nodes_in a + times (λ c. has_leaf c a) 0 n
nodes_in_hoist_all n a =
    nodes_in_added n a (times (λ c. has_leaf c a) 0 n)
    (over_hoists_hoist_all (λ c bs. 1) n a ∙ ap (λ k. over_hoists (λ c bs. 1) a + k) (sum_times (λ c. has_leaf c a) 0 n))
