-- Refusal 14: a clause has a scope exactly where it has a leaf, so it is the same to ask either, of the tree or of the hoisted one.
use Rattle.std.specs.Prelude.{◌≡◌, refl, Bool, true, false, not, [], ℕ, suc, eqb}
use Rattle.std.proofs.Common.{sym, ap, ap₂, ◌∙◌}
use Rattle.std.proofs.Math.Option.{Option, none, some}
use Rattle.base_words.specs.Words.{either}
use Rattle.base_words.specs.WordsLaws.{either_first_true, either_second_true}
use Rattle.spec_rules.specs.Searching.{lowest}
use Rattle.spec_rules.specs.Building.{Tree, Cases, absent, leaf, hoist, switch, listswitch, cnil, ccons}
use Rattle.spec_rules.specs.Hoisting.{Place, Fallback, Case, how_many, visits, scope, hoist_all, has_leaf, has_leaf_of}
use Rattle.spec_rules.specs.Calls.{lowest_idle}
use Rattle.spec_hoist.specs.Scopes.{has_scope, later, last_leaf, last_leaf_of, is_clause, beneath, merge, noted, scope_in, scope_in_of}
use Rattle.spec_hoist.proofs.ScopesLaws.{scope_is}
use Rattle.spec_hoist.specs.UnhoistedLaws.{lowest_idle_hoisted}

-- ---- a clause with a leaf has a scope
later_true : (c : ℕ) (o p : Option ℕ) (x y : Bool) → (is_clause c o ≡ true → x ≡ true) → (is_clause c p ≡ true → y ≡ true)
    → is_clause c (later o p) ≡ true → either x y ≡ true
unfolding later is_clause
later_true c o none x y f g h = either_first_true x y (f h)
later_true c o (some d) x y f g h = either_second_true x y (g h)

mutual
  unfolding last_leaf has_leaf is_clause

  last_has_leaf : (c : ℕ) (a : Tree) → is_clause c (last_leaf a) ≡ true → has_leaf c a ≡ true
  last_has_leaf c absent h = h
  last_has_leaf c (leaf d bs) h = h
  last_has_leaf c (hoist d bs a) h = last_has_leaf c a h
  last_has_leaf c (switch p cs d) h =
      later_true c (last_leaf_of cs) (last_leaf d) (has_leaf_of c cs) (has_leaf c d) (λ e. last_has_leaf_of c cs e) (λ e. last_has_leaf c d e) h
  last_has_leaf c (listswitch p cs ts d) h =
      later_true c (last_leaf_of cs) (later (last_leaf_of ts) (last_leaf d)) (has_leaf_of c cs) (either (has_leaf_of c ts) (has_leaf c d)) (λ e. last_has_leaf_of c cs e)
      (later_true c (last_leaf_of ts) (last_leaf d) (has_leaf_of c ts) (has_leaf c d) (λ e. last_has_leaf_of c ts e) (λ e. last_has_leaf c d e)) h

  last_has_leaf_of : (c : ℕ) (cs : Cases) → is_clause c (last_leaf_of cs) ≡ true → has_leaf_of c cs ≡ true
  last_has_leaf_of c cnil h = h
  last_has_leaf_of c (ccons t at a cs) h =
      later_true c (last_leaf a) (last_leaf_of cs) (has_leaf c a) (has_leaf_of c cs) (λ e. last_has_leaf c a e) (λ e. last_has_leaf_of c cs e) h

has_scope_merge : (o p : Option Place) → has_scope (merge o p) ≡ either (has_scope o) (has_scope p)
unfolding has_scope merge
has_scope_merge none p = refl
has_scope_merge (some s) none = refl
has_scope_merge (some s) (some t) = refl

has_scope_beneath : (k : ℕ) (o : Option Place) → has_scope (beneath k o) ≡ has_scope o
unfolding has_scope beneath
has_scope_beneath k none = refl
has_scope_beneath k (some s) = refl

-- a note adds nothing where the clause has a leaf anyway
has_scope_noted : (b x : Bool) (o : Option Place) → (b ≡ true → x ≡ true) → has_scope o ≡ x → has_scope (noted b o) ≡ x
unfolding has_scope noted
has_scope_noted true x o f e = sym (f refl)
has_scope_noted false x o f e = e

has_scope_note : (b : Bool) → has_scope (noted b none) ≡ b
unfolding has_scope noted
has_scope_note true = refl
has_scope_note false = refl

has_scope_children : (k : ℕ) (o p : Option Place) (x y : Bool) → has_scope o ≡ x → has_scope p ≡ y → has_scope (merge o (beneath k p)) ≡ either x y
has_scope_children k o p x y e f = has_scope_merge o (beneath k p) ∙ ap₂ either e (has_scope_beneath k p ∙ f)

mutual
  unfolding scope_in has_leaf has_scope

  -- THEOREM: a clause has a scope in a tree where it has a leaf
  pub has_scope_scope_in : (c : ℕ) (a : Tree) → has_scope (scope_in c a) ≡ has_leaf c a
  has_scope_scope_in c absent = refl
  has_scope_scope_in c (leaf d bs) = has_scope_note (eqb c d)
  has_scope_scope_in c (hoist d bs a) = has_scope_scope_in c a
  has_scope_scope_in c (switch p cs d) =
      has_scope_noted (is_clause c (later (last_leaf_of cs) (last_leaf d))) (either (has_leaf_of c cs) (has_leaf c d))
      (merge (scope_in_of c 0 cs) (beneath Fallback (scope_in c d)))
      (last_has_leaf c (switch p cs d))
      (has_scope_children Fallback (scope_in_of c 0 cs) (scope_in c d) (has_leaf_of c cs) (has_leaf c d) (has_scope_scope_in_of c 0 cs) (has_scope_scope_in c d))
  has_scope_scope_in c (listswitch p cs ts d) =
      has_scope_noted (is_clause c (later (last_leaf_of cs) (later (last_leaf_of ts) (last_leaf d)))) (either (has_leaf_of c cs) (either (has_leaf_of c ts) (has_leaf c d)))
      (merge (scope_in_of c 0 cs) (merge (scope_in_of c (how_many cs) ts) (beneath Fallback (scope_in c d))))
      (last_has_leaf c (listswitch p cs ts d))
      (has_scope_merge (scope_in_of c 0 cs) (merge (scope_in_of c (how_many cs) ts) (beneath Fallback (scope_in c d)))
      ∙ ap₂ either (has_scope_scope_in_of c 0 cs)
      (has_scope_children Fallback (scope_in_of c (how_many cs) ts) (scope_in c d) (has_leaf_of c ts) (has_leaf c d) (has_scope_scope_in_of c (how_many cs) ts) (has_scope_scope_in c d)))

  pub has_scope_scope_in_of : (c i : ℕ) (cs : Cases) → has_scope (scope_in_of c i cs) ≡ has_leaf_of c cs
  has_scope_scope_in_of c i cnil = refl
  has_scope_scope_in_of c i (ccons t at a cs) =
      has_scope_merge (beneath (Case i) (scope_in c a)) (scope_in_of c (suc i) cs)
      ∙ ap₂ either (has_scope_beneath (Case i) (scope_in c a) ∙ has_scope_scope_in c a) (has_scope_scope_in_of c (suc i) cs)

-- THEOREM: a clause has no scope exactly where it has no leaf
pub has_scope_scope : (c : ℕ) (a : Tree) → has_scope (scope c (visits [] a)) ≡ has_leaf c a
has_scope_scope c a = ap has_scope (scope_is c a) ∙ has_scope_scope_in c a

-- ---- 14
-- THEOREM: the clauses that 14 finds on the whole tree are those without a scope
pub lowest_idle_scope : (m n : ℕ) (a : Tree) → lowest_idle m (hoist_all n a) ≡ lowest (λ c. not (has_scope (scope c (visits [] a)))) 0 m
unfolding lowest_idle
lowest_idle_scope m n a = lowest_idle_hoisted m n a ∙ ap (λ f. lowest f 0 m) (λ i c. not (sym (has_scope_scope c a) i))
