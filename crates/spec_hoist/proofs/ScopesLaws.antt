-- Rule 6: a clause's scope, the common start of its visits, is what going over the tree once gives.
use Rattle.std.specs.Prelude.{◌≡◌, Bool, true, false, List, [], ◌∷◌, ◌++◌, ℕ, suc, ◌+◌, ◌≤◌, ◌<◌, eqb}
use Rattle.std.proofs.Math.Path.{refl}
use Rattle.std.proofs.Common.{sym, ap, ap₂, ◌∙◌, append-nil, append_assoc, arith, ne_eqb}
use Rattle.std.proofs.Math.Option.{Option, none, some}
use Rattle.base_words.specs.Words.{pick}
use Rattle.spec_rules.specs.Building.{Tree, Cases, absent, leaf, hoist, switch, listswitch, cnil, ccons}
use Rattle.spec_rules.specs.Hoisting.{Place, Fallback, Case, under, Visit, how_many, last_at, stepped_back, visits, visits_of, common_start, scope}
use Rattle.spec_hoist.specs.Scopes.{meet, visited, later, last_leaf, last_leaf_of, is_clause, beneath, merge, noted, scope_in, scope_in_of, placed}
use Rattle.spec_hoist.specs.ScopesLaws.{common_start_apart, common_start_nil, common_start_append, meet_none, scope_cons, scope_append, later_assoc, Between, between_beneath, scope_in_of_between}

-- ---- the leaf visited last
last_of : List Visit → Option ℕ
last_of [] = none
last_of (x ∷ xs) = later (some x.clause) (last_of xs)

last_of_append : (xs ys : List Visit) → last_of (xs ++ ys) ≡ later (last_of xs) (last_of ys)
unfolding last_of later
last_of_append [] ys = none_first (last_of ys)
  where
    none_first : (o : Option ℕ) → o ≡ later none o
    none_first none = refl
    none_first (some c) = refl
last_of_append (x ∷ xs) ys = ap (later (some x.clause)) (last_of_append xs ys) ∙ sym (later_assoc (some x.clause) (last_of xs) (last_of ys))

-- a note is of the clause visited last
last_at_is : (q : Place) (xs : List Visit) → (last_of (last_at q xs) ≡ last_of xs) × ((c : ℕ) → scope c (last_at q xs) ≡ pick (is_clause c (last_of xs)) (some q) none)
unfolding last_at last_of later scope is_clause visited
last_at_is q [] = (refl, λ c. refl)
last_at_is q (x ∷ []) = (refl, λ c. let y : Visit = record { clause = x.clause; place = q } in scope_cons c y [] ∙ meet_none (visited c y))
last_at_is q (x ∷ y ∷ ys) =
    let ih = last_at_is q (y ∷ ys) in
    (ih.0 ∙ later_some, λ c. ih.1 c ∙ ap (λ o. pick (is_clause c o) (some q) none) later_some)
  where
    some_later : (o : Option ℕ) (a b : ℕ) → later (some b) o ≡ later (some a) (later (some b) o)
    some_later none a b = refl
    some_later (some d) a b = refl

    later_some : last_of (y ∷ ys) ≡ later (some x.clause) (last_of (y ∷ ys))
    later_some = some_later (last_of ys) x.clause y.clause

later_self : (o : Option ℕ) → later o o ≡ o
unfolding later
later_self none = refl
later_self (some c) = refl

last_of_stepped_back : (q : Place) (xs : List Visit) → last_of (stepped_back q xs) ≡ last_of xs
unfolding stepped_back
last_of_stepped_back q xs = last_of_append xs (last_at q xs) ∙ ap (later (last_of xs)) (last_at_is q xs).0 ∙ later_self (last_of xs)

mutual
  unfolding visits last_leaf last_of

  -- the visits end with the last leaf
  last_of_visits : (q : Place) (a : Tree) → last_of (visits q a) ≡ last_leaf a
  last_of_visits q absent = refl
  last_of_visits q (leaf c bs) = refl
  last_of_visits q (hoist c bs a) = last_of_visits q a
  last_of_visits q (switch p cs d) =
      last_of_stepped_back q (visits_of q 0 cs ++ visits (under q Fallback) d)
      ∙ last_of_append (visits_of q 0 cs) (visits (under q Fallback) d)
      ∙ ap₂ later (last_of_visits_of q 0 cs) (last_of_visits (under q Fallback) d)
  last_of_visits q (listswitch p cs ts d) =
      last_of_stepped_back q (visits_of q 0 cs ++ (visits_of q (how_many cs) ts ++ visits (under q Fallback) d))
      ∙ last_of_append (visits_of q 0 cs) (visits_of q (how_many cs) ts ++ visits (under q Fallback) d)
      ∙ ap₂ later (last_of_visits_of q 0 cs) (last_of_append (visits_of q (how_many cs) ts) (visits (under q Fallback) d) ∙ ap₂ later (last_of_visits_of q (how_many cs) ts) (last_of_visits (under q Fallback) d))

  last_of_visits_of : (q : Place) (i : ℕ) (cs : Cases) → last_of (visits_of q i cs) ≡ last_leaf_of cs
  last_of_visits_of q i cnil = refl
  last_of_visits_of q i (ccons t at a cs) = last_of_append (visits (under q (Case i)) a) (visits_of q (suc i) cs) ∙ ap₂ later (last_of_visits (under q (Case i)) a) (last_of_visits_of q (suc i) cs)

-- ---- the first steps of the scopes in the children of a switch
-- the first step of the scope, if it has one, is one of i to m - 1
-- the first steps of two scopes differ
abbrev Apart : Option Place → Option Place → Type 0
Apart none p = Unit {0}
Apart (some []) p = Unit {0}
Apart (some (j ∷ s)) none = Unit {0}
Apart (some (j ∷ s)) (some []) = Unit {0}
Apart (some (j ∷ s)) (some (k ∷ t)) = j ≡ k → ⊥

apart_by : (i l j m : ℕ) (o p : Option Place) → Between i l o → Between j m p → ((k : ℕ) → i ≤ k → k < l → j ≤ k → k < m → ⊥) → Apart o p
apart_by i l j m none p a b h = tt
apart_by i l j m (some []) p a b h = tt
apart_by i l j m (some (k ∷ s)) none a b h = tt
apart_by i l j m (some (k ∷ s)) (some []) a b h = tt
apart_by i l j m (some (k ∷ s)) (some (n ∷ t)) a b h = λ e. h k a.0 a.1 (omega arith) (omega arith)

apart_merge : (o p q : Option Place) → Apart o p → Apart o q → Apart o (merge p q)
unfolding merge
apart_merge none p q a b = tt
apart_merge (some []) p q a b = tt
apart_merge (some (j ∷ s)) none q a b = b
apart_merge (some (j ∷ s)) (some t) none a b = a
apart_merge (some (j ∷ s)) (some t) (some u) a b = tt

-- scopes in different children have the switch's place for their common start
meet_merge : (q : Place) (o p : Option Place) → Apart o p → meet (placed q o) (placed q p) ≡ placed q (merge o p)
unfolding meet placed merge common_start
meet_merge q none p a = refl
meet_merge q (some s) none a = refl
meet_merge q (some []) (some t) a = ap some (common_start_append q [] t)
meet_merge q (some (j ∷ s)) (some []) a = ap some (common_start_append q (j ∷ s) [])
meet_merge q (some (j ∷ s)) (some (k ∷ t)) a =
    ap some (common_start_append q (j ∷ s) (k ∷ t) ∙ ap (λ z. q ++ z) (common_start_apart j k s t (ne_eqb j k a)))

-- case i and those after it; the cases and the default; the cases and the tail cases
apart_next : (c i : ℕ) (o : Option Place) (cs : Cases) → Apart (beneath (Case i) o) (scope_in_of c (suc i) cs)
apart_next c i o cs =
    apart_by (Case i) (suc (Case i)) (Case (suc i)) (Case (suc i + how_many cs)) (beneath (Case i) o) (scope_in_of c (suc i) cs)
    (between_beneath (Case i) o) (scope_in_of_between c (suc i) cs) (λ k w x y z. omega arith)

apart_default : (c i : ℕ) (cs : Cases) (o : Option Place) → Apart (scope_in_of c i cs) (beneath Fallback o)
apart_default c i cs o =
    apart_by (Case i) (Case (i + how_many cs)) Fallback (suc Fallback) (scope_in_of c i cs) (beneath Fallback o)
    (scope_in_of_between c i cs) (between_beneath Fallback o) (λ k w x y z. omega arith)

apart_tails : (c : ℕ) (cs ts : Cases) → Apart (scope_in_of c 0 cs) (scope_in_of c (how_many cs) ts)
apart_tails c cs ts =
    apart_by (Case 0) (Case (0 + how_many cs)) (Case (how_many cs)) (Case (how_many cs + how_many ts)) (scope_in_of c 0 cs) (scope_in_of c (how_many cs) ts)
    (scope_in_of_between c 0 cs) (scope_in_of_between c (how_many cs) ts) (λ k w x y z. omega arith)

-- ---- the scope of a tree's visits
placed_under : (q : Place) (k : ℕ) (o : Option Place) → placed (under q k) o ≡ placed q (beneath k o)
unfolding placed beneath under
placed_under q k none = refl
placed_under q k (some s) = ap some (append_assoc q (k ∷ []) s)

-- visits whose scope is known, and then those that follow
scope_after : (c : ℕ) (q : Place) (xs ys : List Visit) (o p : Option Place) → scope c xs ≡ placed q o → scope c ys ≡ placed q p → Apart o p
    → scope c (xs ++ ys) ≡ placed q (merge o p)
scope_after c q xs ys o p e f a = scope_append c xs ys ∙ ap₂ meet e f ∙ meet_merge q o p a

meet_note : (b : Bool) (q : Place) (o : Option Place) → meet (placed q o) (pick b (some q) none) ≡ placed q (noted b o)
unfolding meet placed noted
meet_note false q o = meet_none (placed q o)
meet_note true q none = ap some (sym (append-nil q))
meet_note true q (some s) = ap some (start s)
  where
    start : (s : Place) → common_start (q ++ s) q ≡ q ++ []
    start s = ap (common_start (q ++ s)) (sym (append-nil q)) ∙ common_start_append q s [] ∙ ap (λ z. q ++ z) (common_start_nil s)

scope_stepped_back : (c : ℕ) (q : Place) (xs : List Visit) (o : Option Place) (l : Option ℕ) → scope c xs ≡ placed q o → last_of xs ≡ l
    → scope c (stepped_back q xs) ≡ placed q (noted (is_clause c l) o)
unfolding stepped_back
scope_stepped_back c q xs o l e f =
    scope_append c xs (last_at q xs)
    ∙ ap₂ meet e ((last_at_is q xs).1 c ∙ ap (λ z. pick (is_clause c z) (some q) none) f)
    ∙ meet_note (is_clause c l) q o

mutual
  unfolding visits scope_in scope placed visited meet

  -- THEOREM: the scope of a clause in a tree that stands at q
  pub scope_visits : (c : ℕ) (q : Place) (a : Tree) → scope c (visits q a) ≡ placed q (scope_in c a)
  scope_visits c q absent = refl
  scope_visits c q (leaf d bs) = let x : Visit = record { clause = d; place = q } in scope_cons c x [] ∙ meet_none (visited c x) ∙ meet_note (eqb c d) q none
  scope_visits c q (hoist d bs a) = scope_visits c q a
  scope_visits c q (switch p cs d) =
      scope_stepped_back c q (visits_of q 0 cs ++ visits (under q Fallback) d) (merge (scope_in_of c 0 cs) (beneath Fallback (scope_in c d)))
      (later (last_leaf_of cs) (last_leaf d))
      (scope_after c q (visits_of q 0 cs) (visits (under q Fallback) d) (scope_in_of c 0 cs) (beneath Fallback (scope_in c d))
      (scope_visits_of c q 0 cs) (scope_visits c (under q Fallback) d ∙ placed_under q Fallback (scope_in c d)) (apart_default c 0 cs (scope_in c d)))
      (last_of_append (visits_of q 0 cs) (visits (under q Fallback) d) ∙ ap₂ later (last_of_visits_of q 0 cs) (last_of_visits (under q Fallback) d))
  scope_visits c q (listswitch p cs ts d) =
      let vs : List Visit = visits_of q (how_many cs) ts ++ visits (under q Fallback) d in
      let o : Option Place = merge (scope_in_of c (how_many cs) ts) (beneath Fallback (scope_in c d)) in
      scope_stepped_back c q (visits_of q 0 cs ++ vs) (merge (scope_in_of c 0 cs) o) (later (last_leaf_of cs) (later (last_leaf_of ts) (last_leaf d)))
      (scope_after c q (visits_of q 0 cs) vs (scope_in_of c 0 cs) o (scope_visits_of c q 0 cs)
      (scope_after c q (visits_of q (how_many cs) ts) (visits (under q Fallback) d) (scope_in_of c (how_many cs) ts) (beneath Fallback (scope_in c d))
      (scope_visits_of c q (how_many cs) ts) (scope_visits c (under q Fallback) d ∙ placed_under q Fallback (scope_in c d)) (apart_default c (how_many cs) ts (scope_in c d)))
      (apart_merge (scope_in_of c 0 cs) (scope_in_of c (how_many cs) ts) (beneath Fallback (scope_in c d)) (apart_tails c cs ts) (apart_default c 0 cs (scope_in c d))))
      (last_of_append (visits_of q 0 cs) vs
      ∙ ap₂ later (last_of_visits_of q 0 cs)
      (last_of_append (visits_of q (how_many cs) ts) (visits (under q Fallback) d) ∙ ap₂ later (last_of_visits_of q (how_many cs) ts) (last_of_visits (under q Fallback) d)))

  scope_visits_of : (c : ℕ) (q : Place) (i : ℕ) (cs : Cases) → scope c (visits_of q i cs) ≡ placed q (scope_in_of c i cs)
  scope_visits_of c q i cnil = refl
  scope_visits_of c q i (ccons t at a cs) =
      scope_after c q (visits (under q (Case i)) a) (visits_of q (suc i) cs) (beneath (Case i) (scope_in c a)) (scope_in_of c (suc i) cs)
      (scope_visits c (under q (Case i)) a ∙ placed_under q (Case i) (scope_in c a)) (scope_visits_of c q (suc i) cs) (apart_next c i (scope_in c a) cs)

placed_root : (o : Option Place) → placed [] o ≡ o
unfolding placed
placed_root none = refl
placed_root (some s) = refl

-- THEOREM: a clause's scope is what going over the tree once gives
pub scope_is : (c : ℕ) (a : Tree) → scope c (visits [] a) ≡ scope_in c a
scope_is c a = scope_visits c [] a ∙ placed_root (scope_in c a)
