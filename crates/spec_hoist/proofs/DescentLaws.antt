-- Rule 7 by going down the tree once: a clause is hoisted at the first node where it is visited last or has a leaf in two children.
-- Rests on the scope by one pass: in a child of a switch the scope is what is left of the switch's, and in the others there is none.
use Rattle.std.specs.Prelude.{◌≡◌, ◌⊎◌, Bool, not, eqb, leb}
use Rattle.std.proofs.Math.Path.{refl, sym, ap}
use Rattle.std.proofs.Common.{◌∙◌, subst, inl, inr, ⊎_elim, add-one, eq-eqb, ne_eqb, leb-true, leb-false, le-leb}
use Rattle.std.proofs.Math.Bool.{true, false}
use mathlib.Core.List.{List, [], ◌∷◌, ◌++◌, append-nil, append_assoc}
use Rattle.std.proofs.Math.Option.{Option, none, some}
use Prim.Native.Nat.{ℕ, zero, suc, ◌+◌, ◌≤◌, ◌<◌}
use native.Mathlib.Omega.{arith}
use Rattle.std.proofs.Math.ListN.{length, length-append}
use Rattle.base_words.specs.Words.{both, either, pick, same_text}
use Rattle.base_words.specs.WordsLaws.{both_assoc}
use Rattle.spec_rules.specs.Rows.{Binding, bit}
use Rattle.spec_rules.specs.Searching.{times}
use Rattle.spec_rules.specs.Building.{Tree, Cases, absent, leaf, hoist, switch, listswitch, cnil, ccons}
use Rattle.spec_rules.specs.Hoisting.{Place, Fallback, Case, under, how_many, visits, scope, first_bindings, Hoist, hoists, is_at, wrap, hoisted, hoisted_of, hoist_all, nodes_in, bindings_in, has_leaf}
use Rattle.spec_hoist.specs.Trees.{sum}
use Rattle.spec_hoist.specs.Scopes.{has_scope, later, last_leaf, last_leaf_of, is_clause, beneath, merge, noted, scope_in, scope_in_of}
use Rattle.spec_hoist.specs.ScopesLaws.{noted_step, merge_step, merge_none, beneath_step, beneath_none, scope_in_of_step}
use Rattle.spec_hoist.proofs.ScopesLaws.{scope_is}
use Rattle.spec_hoist.proofs.IdleLaws.{has_scope_scope_in}
use Rattle.spec_hoist.specs.Descent.{cases_with, children_with, is_scope, here, further, wrap_by, hoist_by, hoist_by_of}

-- ---- when the root is the scope
-- o is the scope of a clause that is in m of the children
record InChildren (m : ℕ) (o : Option Place) : Type 0 where
  one : has_scope o ≡ leb 1 m
  two : is_at [] o ≡ leb 2 m

less_one : (m : ℕ) → false ≡ leb 1 m → m ≡ 0
less_one m e = omega (arith, leb-false 1 m (sym e))

in_children_none : InChildren 0 none
unfolding has_scope is_at
in_children_none = record { one = refl; two = refl }

in_children_merge : (m k : ℕ) (o p : Option Place) → InChildren m o → InChildren k p → InChildren (m + k) (merge o p)
unfolding merge has_scope is_at same_text
in_children_merge m k none p h g = subst (λ z. InChildren z p) (let e = less_one m h.one in omega arith) g
in_children_merge m k (some s) none h g = subst (λ z. InChildren z (some s)) (let e = less_one k g.one in omega arith) h
in_children_merge m k (some s) (some t) h g =
    let a = leb-true 1 m (sym h.one) in
    let b = leb-true 1 k (sym g.one) in
    record { one = sym (le-leb 1 (m + k) (omega arith)); two = sym (le-leb 2 (m + k) (omega arith)) }

in_children_beneath : (c k : ℕ) (a : Tree) → InChildren (bit (has_leaf c a)) (beneath k (scope_in c a))
unfolding beneath has_scope is_at same_text bit
in_children_beneath c k a = go (scope_in c a) refl
  where
    go : (o : Option Place) → scope_in c a ≡ o → InChildren (bit (has_leaf c a)) (beneath k (scope_in c a))
    go none e =
        let f : has_leaf c a ≡ false = sym (has_scope_scope_in c a) ∙ ap has_scope e in
        rw (e, f) (record { one = refl; two = refl })
    go (some s) e =
        let f : has_leaf c a ≡ true = sym (has_scope_scope_in c a) ∙ ap has_scope e in
        rw (e, f) (record { one = refl; two = refl })

in_children_cases : (c i : ℕ) (cs : Cases) → InChildren (cases_with c cs) (scope_in_of c i cs)
unfolding cases_with scope_in
in_children_cases c i cnil = in_children_none
in_children_cases c i (ccons t at a cs) =
    in_children_merge (bit (has_leaf c a)) (cases_with c cs) (beneath (Case i) (scope_in c a)) (scope_in_of c (suc i) cs)
    (in_children_beneath c (Case i) a) (in_children_cases c (suc i) cs)

is_at_noted : (b : Bool) (o : Option Place) (m : ℕ) → InChildren m o → is_at [] (noted b o) ≡ either b (leb 2 m)
unfolding noted is_at same_text
is_at_noted true o m h = refl
is_at_noted false o m h = h.two

-- THEOREM: the root is the scope of c where c is visited last or has a leaf in two children
pub is_scope_scope_in : (c : ℕ) (a : Tree) → is_scope c a ≡ is_at [] (scope_in c a)
unfolding is_scope scope_in is_clause last_leaf children_with is_at
is_scope_scope_in c absent = refl
is_scope_scope_in c (leaf d bs) = sym (is_at_noted (eqb c d) none 0 in_children_none)
is_scope_scope_in c (hoist d bs a) = is_scope_scope_in c a
is_scope_scope_in c (switch p cs d) =
    sym (is_at_noted (is_clause c (later (last_leaf_of cs) (last_leaf d))) (merge (scope_in_of c 0 cs) (beneath Fallback (scope_in c d))) (cases_with c cs + bit (has_leaf c d))
    (in_children_merge (cases_with c cs) (bit (has_leaf c d)) (scope_in_of c 0 cs) (beneath Fallback (scope_in c d)) (in_children_cases c 0 cs) (in_children_beneath c Fallback d)))
is_scope_scope_in c (listswitch p cs ts d) =
    let o : Option Place = merge (scope_in_of c (how_many cs) ts) (beneath Fallback (scope_in c d)) in
    sym (is_at_noted (is_clause c (later (last_leaf_of cs) (later (last_leaf_of ts) (last_leaf d)))) (merge (scope_in_of c 0 cs) o) (cases_with c cs + (cases_with c ts + bit (has_leaf c d)))
    (in_children_merge (cases_with c cs) (cases_with c ts + bit (has_leaf c d)) (scope_in_of c 0 cs) o (in_children_cases c 0 cs)
    (in_children_merge (cases_with c ts) (bit (has_leaf c d)) (scope_in_of c (how_many cs) ts) (beneath Fallback (scope_in c d)) (in_children_cases c (how_many cs) ts) (in_children_beneath c Fallback d))))

-- ---- the scope in a child
-- b is case k of the cases, which begin with case i; b is the child of a at step k
ChildOf : Cases → ℕ → ℕ → Tree → Type 0
ChildOf cnil i k b = ⊥
ChildOf (ccons t at a cs) i k b = ((k ≡ Case i) × (b ≡ a)) ⊎ ChildOf cs (suc i) k b

Child : Tree → ℕ → Tree → Type 0
Child absent k b = ⊥
Child (leaf c bs) k b = ⊥
Child (hoist c bs a) k b = ⊥
Child (switch p cs d) k b = ChildOf cs 0 k b ⊎ ((k ≡ Fallback) × (b ≡ d))
Child (listswitch p cs ts d) k b = ChildOf cs 0 k b ⊎ (ChildOf ts (how_many cs) k b ⊎ ((k ≡ Fallback) × (b ≡ d)))

child_of_step : (cs : Cases) (i k : ℕ) (b : Tree) → ChildOf cs i k b → (Case i ≤ k) × (k < Case (i + how_many cs))
unfolding ChildOf how_many
child_of_step cnil i k b h = absurd h
child_of_step (ccons t at a cs) i k b (inl h) = let e = h.0 in (omega arith, omega arith)
child_of_step (ccons t at a cs) i k b (inr h) = let l = child_of_step cs (suc i) k b h in (omega arith, omega arith)

-- the scope in child k, where that in the whole begins with the step j and goes on with s
abbrev child_scope : ℕ → ℕ → Place → Option Place
child_scope k j s = pick (eqb k j) (some s) none

own : (k j : ℕ) (s : Place) (o : Option Place) → k ≡ j → o ≡ some s → o ≡ child_scope k j s
own k j s o e f = f ∙ ap (λ b. pick b (some s) none) (sym (eq-eqb k j e))

other : (k j : ℕ) (s : Place) (o : Option Place) → (k ≡ j → ⊥) → o ≡ none → o ≡ child_scope k j s
other k j s o n f = f ∙ ap (λ b. pick b (some s) none) (sym (ne_eqb k j n))

child_of_none : (c : ℕ) (cs : Cases) (i k : ℕ) (b : Tree) → ChildOf cs i k b → scope_in_of c i cs ≡ none → scope_in c b ≡ none
unfolding ChildOf scope_in
child_of_none c cnil i k b h e = absurd h
child_of_none c (ccons t at a cs) i k b (inl h) e = ap (scope_in c) h.1 ∙ beneath_none (Case i) (scope_in c a) (merge_none (beneath (Case i) (scope_in c a)) (scope_in_of c (suc i) cs) e).0
child_of_none c (ccons t at a cs) i k b (inr h) e = child_of_none c cs (suc i) k b h (merge_none (beneath (Case i) (scope_in c a)) (scope_in_of c (suc i) cs) e).1

child_of_some : (c : ℕ) (cs : Cases) (i k : ℕ) (b : Tree) (j : ℕ) (s : Place) → ChildOf cs i k b → scope_in_of c i cs ≡ some (j ∷ s) → scope_in c b ≡ child_scope k j s
unfolding ChildOf scope_in
child_of_some c cnil i k b j s h e = absurd h
child_of_some c (ccons t at a cs) i k b j s (inl h) e =
    ⊎_elim
    (λ z. let y = beneath_step (Case i) (scope_in c a) j s z.0 in own k j s (scope_in c b) (h.0 ∙ y.0) (ap (scope_in c) h.1 ∙ y.1))
    (λ z.
    let l = scope_in_of_step c (suc i) cs j s z.1 in
    let w = h.0 in
    other k j s (scope_in c b) (λ y. omega arith) (ap (scope_in c) h.1 ∙ beneath_none (Case i) (scope_in c a) z.0))
    (merge_step (beneath (Case i) (scope_in c a)) (scope_in_of c (suc i) cs) j s e)
child_of_some c (ccons t at a cs) i k b j s (inr h) e =
    ⊎_elim
    (λ z.
    let y = (beneath_step (Case i) (scope_in c a) j s z.0).0 in
    let l = child_of_step cs (suc i) k b h in
    other k j s (scope_in c b) (λ w. omega arith) (child_of_none c cs (suc i) k b h z.1))
    (λ z. child_of_some c cs (suc i) k b j s h z.1)
    (merge_step (beneath (Case i) (scope_in c a)) (scope_in_of c (suc i) cs) j s e)

noted_none : (b : Bool) (o : Option Place) → noted b o ≡ none → o ≡ none
unfolding noted
noted_none true o e = let z : ◌≡◌ {A = ℕ} 0 1 = cc in absurd (omega arith)
noted_none false o e = e

child_none : (c : ℕ) (a : Tree) (k : ℕ) (b : Tree) → Child a k b → scope_in c a ≡ none → scope_in c b ≡ none
unfolding Child scope_in
child_none c absent k b h e = absurd h
child_none c (leaf d bs) k b h e = absurd h
child_none c (hoist d bs a) k b h e = absurd h
child_none c (switch p cs d) k b h e =
    let z = merge_none (scope_in_of c 0 cs) (beneath Fallback (scope_in c d)) (noted_none (is_clause c (later (last_leaf_of cs) (last_leaf d))) (merge (scope_in_of c 0 cs) (beneath Fallback (scope_in c d))) e) in
    ⊎_elim (λ x. child_of_none c cs 0 k b x z.0) (λ x. ap (scope_in c) x.1 ∙ beneath_none Fallback (scope_in c d) z.1) h
child_none c (listswitch p cs ts d) k b h e =
    let o : Option Place = merge (scope_in_of c (how_many cs) ts) (beneath Fallback (scope_in c d)) in
    let z = merge_none (scope_in_of c 0 cs) o (noted_none (is_clause c (later (last_leaf_of cs) (later (last_leaf_of ts) (last_leaf d)))) (merge (scope_in_of c 0 cs) o) e) in
    let y = merge_none (scope_in_of c (how_many cs) ts) (beneath Fallback (scope_in c d)) z.1 in
    ⊎_elim (λ x. child_of_none c cs 0 k b x z.0)
    (λ w. ⊎_elim (λ x. child_of_none c ts (how_many cs) k b x y.0) (λ x. ap (scope_in c) x.1 ∙ beneath_none Fallback (scope_in c d) y.1) w) h

child_some : (c : ℕ) (a : Tree) (k : ℕ) (b : Tree) (j : ℕ) (s : Place) → Child a k b → scope_in c a ≡ some (j ∷ s) → scope_in c b ≡ child_scope k j s
unfolding Child scope_in
child_some c absent k b j s h e = absurd h
child_some c (leaf d bs) k b j s h e = absurd h
child_some c (hoist d bs a) k b j s h e = absurd h
child_some c (switch p cs d) k b j s h e =
    ⊎_elim
    (λ z.
    let l = scope_in_of_step c 0 cs j s z.0 in
    ⊎_elim (λ x. child_of_some c cs 0 k b j s x z.0)
    (λ x. other k j s (scope_in c b) (λ w. omega (arith, x.0)) (ap (scope_in c) x.1 ∙ beneath_none Fallback (scope_in c d) z.1)) h)
    (λ z.
    let y = beneath_step Fallback (scope_in c d) j s z.1 in
    ⊎_elim (λ x. other k j s (scope_in c b) (λ w. omega (arith, (child_of_step cs 0 k b x).0, y.0)) (child_of_none c cs 0 k b x z.0))
    (λ x. own k j s (scope_in c b) (x.0 ∙ y.0) (ap (scope_in c) x.1 ∙ y.1)) h)
    (merge_step (scope_in_of c 0 cs) (beneath Fallback (scope_in c d)) j s
    (noted_step (is_clause c (later (last_leaf_of cs) (last_leaf d))) (merge (scope_in_of c 0 cs) (beneath Fallback (scope_in c d))) j s e))
child_some c (listswitch p cs ts d) k b j s h e =
    let o : Option Place = merge (scope_in_of c (how_many cs) ts) (beneath Fallback (scope_in c d)) in
    ⊎_elim
    (λ z.
    let l = scope_in_of_step c 0 cs j s z.0 in
    let y = merge_none (scope_in_of c (how_many cs) ts) (beneath Fallback (scope_in c d)) z.1 in
    ⊎_elim (λ x. child_of_some c cs 0 k b j s x z.0)
    (λ v.
    ⊎_elim (λ x. other k j s (scope_in c b) (λ w. omega (arith, (child_of_step ts (how_many cs) k b x).0)) (child_of_none c ts (how_many cs) k b x y.0))
    (λ x. other k j s (scope_in c b) (λ w. omega (arith, x.0)) (ap (scope_in c) x.1 ∙ beneath_none Fallback (scope_in c d) y.1)) v) h)
    (λ u.
    ⊎_elim
    (λ z.
    let l = scope_in_of_step c (how_many cs) ts j s z.0 in
    ⊎_elim (λ x. other k j s (scope_in c b) (λ w. omega (arith, (child_of_step cs 0 k b x).1)) (child_of_none c cs 0 k b x u.0))
    (λ v.
    ⊎_elim (λ x. child_of_some c ts (how_many cs) k b j s x z.0)
    (λ x. other k j s (scope_in c b) (λ w. omega (arith, x.0)) (ap (scope_in c) x.1 ∙ beneath_none Fallback (scope_in c d) z.1)) v) h)
    (λ z.
    let y = beneath_step Fallback (scope_in c d) j s z.1 in
    ⊎_elim (λ x. other k j s (scope_in c b) (λ w. omega (arith, (child_of_step cs 0 k b x).0, y.0)) (child_of_none c cs 0 k b x u.0))
    (λ v.
    ⊎_elim (λ x. other k j s (scope_in c b) (λ w. omega (arith, (child_of_step ts (how_many cs) k b x).0, y.0)) (child_of_none c ts (how_many cs) k b x z.0))
    (λ x. own k j s (scope_in c b) (x.0 ∙ y.0) (ap (scope_in c) x.1 ∙ y.1)) v) h)
    (merge_step (scope_in_of c (how_many cs) ts) (beneath Fallback (scope_in c d)) j s u.1))
    (merge_step (scope_in_of c 0 cs) o j s
    (noted_step (is_clause c (later (last_leaf_of cs) (later (last_leaf_of ts) (last_leaf d)))) (merge (scope_in_of c 0 cs) o) j s e))

-- a place below child k is the scope exactly where the root is not, and the place is the scope in the child
child_scope_lem : (c : ℕ) (a : Tree) (k : ℕ) (b : Tree) (x : Place) → Child a k b → is_at (k ∷ x) (scope_in c a) ≡ both (not (is_scope c a)) (is_at x (scope_in c b))
unfolding is_at same_text
child_scope_lem c a k b x h = go (scope_in c a) refl
  where
    below : (t : Bool) (s : Place) → both t (same_text x s) ≡ is_at x (pick t (some s) none)
    below true s = refl
    below false s = refl

    go : (o : Option Place) → scope_in c a ≡ o → is_at (k ∷ x) (scope_in c a) ≡ both (not (is_scope c a)) (is_at x (scope_in c b))
    go none e = rw (is_scope_scope_in c a, e, child_none c a k b h e)
    go (some []) e = rw (is_scope_scope_in c a, e)
    go (some (j ∷ s)) e = rw (is_scope_scope_in c a, e, child_some c a k b j s h e) (below (eqb k j) s)

-- ---- going down
module _ (root : Tree) (n : ℕ) where
  abbrev all : List Hoist
  all = hoists 0 n root (visits [] root)

  abbrev bindings : ℕ → List Binding
  bindings c = first_bindings c root

  -- a stands at q, and f has the clauses whose scope is at q or further down
  abbrev Reached : Place → Tree → (ℕ → Bool) → Type 0
  Reached q a f = (c : ℕ) (x : Place) → is_at (q ++ x) (scope c (visits [] root)) ≡ both (f c) (is_at x (scope_in c a))

  reached_child : (q : Place) (a : Tree) (f : ℕ → Bool) (k : ℕ) (b : Tree) → Reached q a f → Child a k b → Reached (under q k) b (further f a)
  unfolding under
  reached_child q a f k b r h c x =
      ap (λ z. is_at z (scope c (visits [] root))) (append_assoc q (k ∷ []) x)
      ∙ r c (k ∷ x)
      ∙ ap (both (f c)) (child_scope_lem c a k b x h)
      ∙ sym (both_assoc (f c) (not (is_scope c a)) (is_at x (scope_in c b)))

  wrap_by_lem : (q : Place) (g : ℕ → Bool) (i m : ℕ) (a : Tree) → ((c : ℕ) → is_at q (scope c (visits [] root)) ≡ g c)
      → wrap q (hoists i m root (visits [] root)) a ≡ wrap_by g bindings i m a
  unfolding wrap hoists wrap_by
  wrap_by_lem q g i zero a h = refl
  wrap_by_lem q g i (suc m) a h = go (g i) refl (wrap_by_lem q g (suc i) m a h ∙ ap (λ k. wrap_by g bindings k m a) (sym (add-one i)))
    where
      go : (b : Bool) → g i ≡ b → wrap q (hoists (suc i) m root (visits [] root)) a ≡ wrap_by g bindings (i + 1) m a
          → wrap q (hoists i (suc m) root (visits [] root)) a ≡ wrap_by g bindings i (suc m) a
      go true e ih = rw (h i ∙ e, wrap, e, wrap_by) (ap (hoist i (first_bindings i root)) ih)
      go false e ih = rw (h i ∙ e, wrap, e, wrap_by) ih

  wrap_here : (q : Place) (a b : Tree) (f : ℕ → Bool) → Reached q a f → wrap q all b ≡ wrap_by (here f a) bindings 0 n b
  wrap_here q a b f r =
      wrap_by_lem q (here f a) 0 n b
      (λ c. ap (λ z. is_at z (scope c (visits [] root))) (sym (append-nil q)) ∙ r c [] ∙ ap (both (f c)) (sym (is_scope_scope_in c a)))

  mutual
    unfolding hoisted hoist_by ChildOf Child scope_in

    descent : (q : Place) (a : Tree) (f : ℕ → Bool) → Reached q a f → hoisted all q a ≡ hoist_by bindings n f a
    descent q absent f r = refl
    descent q (leaf c bs) f r = wrap_here q (leaf c bs) (leaf c bs) f r
    descent q (hoist c bs a) f r = ap (hoist c bs) (descent q a f r)
    descent q (switch p cs d) f r =
        let g : ℕ → Bool = further f (switch p cs d) in
        wrap_here q (switch p cs d) (switch p (hoisted_of all q 0 cs) (hoisted all (under q Fallback) d)) f r
        ∙ (λ i.
        wrap_by (here f (switch p cs d)) bindings 0 n
        (switch p (descent_of q 0 cs g (λ k b h. reached_child q (switch p cs d) f k b r (inl h)) i)
        (descent (under q Fallback) d g (reached_child q (switch p cs d) f Fallback d r (inr (refl, refl))) i)))
    descent q (listswitch p cs ts d) f r =
        let g : ℕ → Bool = further f (listswitch p cs ts d) in
        wrap_here q (listswitch p cs ts d) (listswitch p (hoisted_of all q 0 cs) (hoisted_of all q (how_many cs) ts) (hoisted all (under q Fallback) d)) f r
        ∙ (λ i.
        wrap_by (here f (listswitch p cs ts d)) bindings 0 n
        (listswitch p (descent_of q 0 cs g (λ k b h. reached_child q (listswitch p cs ts d) f k b r (inl h)) i)
        (descent_of q (how_many cs) ts g (λ k b h. reached_child q (listswitch p cs ts d) f k b r (inr (inl h))) i)
        (descent (under q Fallback) d g (reached_child q (listswitch p cs ts d) f Fallback d r (inr (inr (refl, refl)))) i)))

    descent_of : (q : Place) (i : ℕ) (cs : Cases) (f : ℕ → Bool) → ((k : ℕ) (b : Tree) → ChildOf cs i k b → Reached (under q k) b f)
        → hoisted_of all q i cs ≡ hoist_by_of bindings n f cs
    descent_of q i cnil f r = refl
    descent_of q i (ccons t at a cs) f r =
        λ j. ccons t at (descent (under q (Case i)) a f (r (Case i) a (inl (refl, refl))) j) (descent_of q (suc i) cs f (λ k b h. r k b (inr h)) j)

-- THEOREM: hoisting by going down the tree once
pub hoist_all_by : (n : ℕ) (a : Tree) → hoist_all n a ≡ hoist_by (λ c. first_bindings c a) n (λ c. true) a
unfolding hoist_all
hoist_all_by n a = descent a n [] a (λ c. true) (λ c x. ap (is_at x) (scope_is c a))

-- ---- the counts of the hoists over a node
module _ (f : ℕ → Bool) (bs : ℕ → List Binding) (a : Tree) where
  pub nodes_in_wrap_by : (c n : ℕ) → nodes_in (wrap_by f bs c n a) ≡ times f c n + nodes_in a
  unfolding wrap_by times nodes_in
  nodes_in_wrap_by c zero = omega arith
  nodes_in_wrap_by c (suc n) = go (f c) refl (nodes_in_wrap_by (c + 1) n)
    where
      go : (b : Bool) → f c ≡ b → nodes_in (wrap_by f bs (c + 1) n a) ≡ times f (c + 1) n + nodes_in a → nodes_in (wrap_by f bs c (suc n) a) ≡ times f c (suc n) + nodes_in a
      go true e ih = rw (e, wrap_by, times) (omega arith)
      go false e ih = rw (e, wrap_by, times) ih

  pub bindings_in_wrap_by : (c n : ℕ) → length (bindings_in (wrap_by f bs c n a)) ≡ sum (λ k. pick (f k) (length (bs k)) 0) c n + length (bindings_in a)
  unfolding wrap_by sum bindings_in
  bindings_in_wrap_by c zero = omega arith
  bindings_in_wrap_by c (suc n) = go (f c) refl (bindings_in_wrap_by (c + 1) n)
    where
      go : (b : Bool) → f c ≡ b
          → length (bindings_in (wrap_by f bs (c + 1) n a)) ≡ sum (λ k. pick (f k) (length (bs k)) 0) (c + 1) n + length (bindings_in a)
          → length (bindings_in (wrap_by f bs c (suc n) a)) ≡ sum (λ k. pick (f k) (length (bs k)) 0) c (suc n) + length (bindings_in a)
      go true e ih = rw (e, wrap_by) (omega (arith, length-append (bs c) (bindings_in (wrap_by f bs (c + 1) n a))))
      go false e ih = rw (e, wrap_by) (omega arith)

-- ---- only the n clauses are looked at
wrap_by_same : (f g : ℕ → Bool) (bs ds : ℕ → List Binding) (c n m : ℕ) (a : Tree) → c + n ≤ m → ((k : ℕ) → k < m → f k ≡ g k) → ((k : ℕ) → k < m → bs k ≡ ds k)
    → wrap_by f bs c n a ≡ wrap_by g ds c n a
unfolding wrap_by
wrap_by_same f g bs ds c zero m a l h k = refl
wrap_by_same f g bs ds c (suc n) m a l h k = go (g c) refl (wrap_by_same f g bs ds (c + 1) n m a (omega arith) h k)
  where
    e : f c ≡ g c
    e = h c (omega arith)

    go : (b : Bool) → g c ≡ b → wrap_by f bs (c + 1) n a ≡ wrap_by g ds (c + 1) n a → wrap_by f bs c (suc n) a ≡ wrap_by g ds c (suc n) a
    go true x ih = rw (wrap_by, e ∙ x, x) (λ i. hoist c (k c (omega arith) i) (ih i))
    go false x ih = rw (wrap_by, e ∙ x, x) ih

module _ (bs ds : ℕ → List Binding) (n : ℕ) (k : (c : ℕ) → c < n → bs c ≡ ds c) where
  same_wrap : (f g : ℕ → Bool) (x a b : Tree) → ((c : ℕ) → c < n → f c ≡ g c) → a ≡ b → wrap_by (here f x) bs 0 n a ≡ wrap_by (here g x) ds 0 n b
  same_wrap f g x a b h e =
      wrap_by_same (here f x) (here g x) bs ds 0 n n a (omega arith) (λ c l. ap (λ z. both z (is_scope c x)) (h c l)) k
      ∙ ap (wrap_by (here g x) ds 0 n) e

  further_same : (f g : ℕ → Bool) (x : Tree) → ((c : ℕ) → c < n → f c ≡ g c) → (c : ℕ) → c < n → further f x c ≡ further g x c
  further_same f g x h c l = ap (λ z. both z (not (is_scope c x))) (h c l)

  mutual
    unfolding hoist_by

    -- THEOREM: what is said of clauses from n on does not matter
    pub hoist_by_same : (a : Tree) (f g : ℕ → Bool) → ((c : ℕ) → c < n → f c ≡ g c) → hoist_by bs n f a ≡ hoist_by ds n g a
    hoist_by_same absent f g h = refl
    hoist_by_same (leaf c cs) f g h = same_wrap f g (leaf c cs) (leaf c cs) (leaf c cs) h refl
    hoist_by_same (hoist c cs a) f g h = ap (hoist c cs) (hoist_by_same a f g h)
    hoist_by_same (switch p cs d) f g h =
        let x : Tree = switch p cs d in
        same_wrap f g x (switch p (hoist_by_of bs n (further f x) cs) (hoist_by bs n (further f x) d)) (switch p (hoist_by_of ds n (further g x) cs) (hoist_by ds n (further g x) d)) h
        (λ i. switch p (hoist_by_of_same cs (further f x) (further g x) (further_same f g x h) i) (hoist_by_same d (further f x) (further g x) (further_same f g x h) i))
    hoist_by_same (listswitch p cs ts d) f g h =
        let x : Tree = listswitch p cs ts d in
        same_wrap f g x (listswitch p (hoist_by_of bs n (further f x) cs) (hoist_by_of bs n (further f x) ts) (hoist_by bs n (further f x) d))
        (listswitch p (hoist_by_of ds n (further g x) cs) (hoist_by_of ds n (further g x) ts) (hoist_by ds n (further g x) d)) h
        (λ i.
        listswitch p (hoist_by_of_same cs (further f x) (further g x) (further_same f g x h) i) (hoist_by_of_same ts (further f x) (further g x) (further_same f g x h) i)
        (hoist_by_same d (further f x) (further g x) (further_same f g x h) i))

    hoist_by_of_same : (cs : Cases) (f g : ℕ → Bool) → ((c : ℕ) → c < n → f c ≡ g c) → hoist_by_of bs n f cs ≡ hoist_by_of ds n g cs
    hoist_by_of_same cnil f g h = refl
    hoist_by_of_same (ccons t at a cs) f g h = λ i. ccons t at (hoist_by_same a f g h i) (hoist_by_of_same cs f g h i)
