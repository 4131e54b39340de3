-- Rule 6: a clause's scope, the common start of its visits, is what going over the tree once gives (proofs/ScopesLaws.antt).
-- The scope of one list of visits after another is the common start of the two scopes; a clause without a leaf alone has none.
use Rattle.std.specs.Prelude.{◌≡◌, ◌⊎◌, Bool, true, false, List, [], ◌∷◌, ◌++◌, ℕ, suc, ◌+◌, ◌≤◌, ◌<◌, eqb}
use Rattle.std.proofs.Math.Path.{refl}
use Rattle.std.proofs.Common.{sym, ap, ◌∙◌, subst, inl, inr, arith, eqb-true, eq-eqb, ne_eqb}
use Rattle.std.proofs.Math.Option.{Option, none, some}
use Rattle.std.proofs.lemmas.Bool.{eqb-false}
use Rattle.spec_rules.specs.Building.{Cases, cnil, ccons}
use Rattle.spec_rules.specs.Hoisting.{Place, Case, Visit, how_many, common_start, scope}
use Rattle.spec_hoist.specs.Scopes.{meet, visited, later, beneath, merge, noted, scope_in, scope_in_of}

-- ---- the common start
common_start_same : (a b : ℕ) (p q : Place) → eqb a b ≡ true → common_start (a ∷ p) (b ∷ q) ≡ a ∷ common_start p q
unfolding common_start
common_start_same a b p q e = rw (common_start, e)

pub common_start_apart : (a b : ℕ) (p q : Place) → eqb a b ≡ false → common_start (a ∷ p) (b ∷ q) ≡ []
unfolding common_start
common_start_apart a b p q e = rw (common_start, e)

pub common_start_nil : (p : Place) → common_start p [] ≡ []
unfolding common_start
common_start_nil [] = refl
common_start_nil (a ∷ p) = refl

pub common_start_assoc : (p q r : Place) → common_start (common_start p q) r ≡ common_start p (common_start q r)
unfolding common_start
common_start_assoc [] q r = refl
common_start_assoc (a ∷ p) [] r = refl
common_start_assoc (a ∷ p) (b ∷ q) [] = common_start_nil (common_start (a ∷ p) (b ∷ q))
common_start_assoc (a ∷ p) (b ∷ q) (c ∷ r) = go (eqb a b) refl (eqb b c) refl (common_start_assoc p q r)
  where
    go : (x : Bool) → eqb a b ≡ x → (y : Bool) → eqb b c ≡ y → common_start (common_start p q) r ≡ common_start p (common_start q r)
        → common_start (common_start (a ∷ p) (b ∷ q)) (c ∷ r) ≡ common_start (a ∷ p) (common_start (b ∷ q) (c ∷ r))
    go true e true f ih =
        rw (common_start_same a b p q e, common_start_same b c q r f, common_start_same a b p (common_start q r) e)
        (common_start_same a c (common_start p q) r (eq-eqb a c (eqb-true a b e ∙ eqb-true b c f)) ∙ ap (λ z. a ∷ z) ih)
    go true e false f ih =
        rw (common_start_same a b p q e, common_start_apart b c q r f)
        (common_start_apart a c (common_start p q) r (ne_eqb a c (λ g. eqb-false b c f (sym (eqb-true a b e) ∙ g))))
    go false e true f ih = rw (common_start_apart a b p q e, common_start_same b c q r f) (sym (common_start_apart a b p (common_start q r) e))
    go false e false f ih = rw (common_start_apart a b p q e, common_start_apart b c q r f)

pub common_start_append : (q x y : Place) → common_start (q ++ x) (q ++ y) ≡ q ++ common_start x y
common_start_append [] x y = refl
common_start_append (a ∷ q) x y = common_start_same a a (q ++ x) (q ++ y) (eq-eqb a a refl) ∙ ap (λ z. a ∷ z) (common_start_append q x y)

-- ---- the scope of visits after visits
pub meet_none : (o : Option Place) → meet o none ≡ o
unfolding meet
meet_none none = refl
meet_none (some p) = refl

pub meet_assoc : (o p q : Option Place) → meet (meet o p) q ≡ meet o (meet p q)
unfolding meet
meet_assoc none p q = refl
meet_assoc (some x) none q = refl
meet_assoc (some x) (some y) none = refl
meet_assoc (some x) (some y) (some z) = ap some (common_start_assoc x y z)

pub scope_cons : (c : ℕ) (x : Visit) (xs : List Visit) → scope c (x ∷ xs) ≡ meet (visited c x) (scope c xs)
unfolding scope meet visited
scope_cons c x xs = go (eqb c x.clause) refl (scope c xs) refl
  where
    go : (b : Bool) → eqb c x.clause ≡ b → (o : Option Place) → scope c xs ≡ o → scope c (x ∷ xs) ≡ meet (visited c x) (scope c xs)
    go true e none f = rw (scope, e, f)
    go true e (some q) f = rw (scope, e, f)
    go false e o f = rw (scope, e)

-- THEOREM: the scope of visits after visits
pub scope_append : (c : ℕ) (xs ys : List Visit) → scope c (xs ++ ys) ≡ meet (scope c xs) (scope c ys)
scope_append c [] ys = unfold scope meet in refl
scope_append c (x ∷ xs) ys =
    scope_cons c x (xs ++ ys)
    ∙ ap (meet (visited c x)) (scope_append c xs ys)
    ∙ sym (meet_assoc (visited c x) (scope c xs) (scope c ys))
    ∙ ap (λ z. meet z (scope c ys)) (sym (scope_cons c x xs))

-- ---- the leaf visited last
pub later_assoc : (o p q : Option ℕ) → later (later o p) q ≡ later o (later p q)
unfolding later
later_assoc o p none = refl
later_assoc o p (some c) = refl

-- ---- the first steps of the scopes in the children of a switch
-- the first step of the scope, if it has one, is one of i to m - 1
abbrev pub Between : ℕ → ℕ → Option Place → Type 0
Between i m none = Unit {0}
Between i m (some []) = Unit {0}
Between i m (some (k ∷ s)) = (i ≤ k) × (k < m)

between_wider : (i j l m : ℕ) (o : Option Place) → j ≤ i → l ≤ m → Between i l o → Between j m o
between_wider i j l m none a b h = tt
between_wider i j l m (some []) a b h = tt
between_wider i j l m (some (k ∷ s)) a b h = (omega arith, omega arith)

pub between_beneath : (k : ℕ) (o : Option Place) → Between k (suc k) (beneath k o)
unfolding beneath
between_beneath k none = tt
between_beneath k (some s) = (omega arith, omega arith)

between_merge : (i m : ℕ) (o p : Option Place) → Between i m o → Between i m p → Between i m (merge o p)
unfolding merge
between_merge i m none p a b = b
between_merge i m (some s) none a b = a
between_merge i m (some s) (some t) a b = tt

pub scope_in_of_between : (c i : ℕ) (cs : Cases) → Between (Case i) (Case (i + how_many cs)) (scope_in_of c i cs)
unfolding scope_in how_many
scope_in_of_between c i cnil = tt
scope_in_of_between c i (ccons t at a cs) =
    let m : ℕ = Case (i + how_many (ccons t at a cs)) in
    between_merge (Case i) m (beneath (Case i) (scope_in c a)) (scope_in_of c (suc i) cs)
    (between_wider (Case i) (Case i) (suc (Case i)) m (beneath (Case i) (scope_in c a)) (omega arith) (omega arith) (between_beneath (Case i) (scope_in c a)))
    (between_wider (Case (suc i)) (Case i) (Case (suc i + how_many cs)) m (scope_in_of c (suc i) cs) (omega arith) (omega arith) (scope_in_of_between c (suc i) cs))

-- ---- where a scope comes from
pub noted_root : (b : Bool) (s : Place) → noted b none ≡ some s → s ≡ []
unfolding noted
noted_root true s e = cc
noted_root false s e = let z : ◌≡◌ {A = ℕ} 0 1 = cc in absurd (omega arith)

pub noted_step : (b : Bool) (o : Option Place) (k : ℕ) (s : Place) → noted b o ≡ some (k ∷ s) → o ≡ some (k ∷ s)
unfolding noted
noted_step true o k s e = let z : ◌≡◌ {A = ℕ} 0 1 = cc in absurd (omega arith)
noted_step false o k s e = e

-- below one of two different children, and not in the other
pub merge_step : (o p : Option Place) (k : ℕ) (s : Place) → merge o p ≡ some (k ∷ s) → ((o ≡ some (k ∷ s)) × (p ≡ none)) ⊎ ((o ≡ none) × (p ≡ some (k ∷ s)))
unfolding merge
merge_step none p k s e = inr (refl, e)
merge_step (some x) none k s e = inl (e, refl)
merge_step (some x) (some y) k s e = let z : ◌≡◌ {A = ℕ} 0 1 = cc in absurd (omega arith)

pub merge_none : (o p : Option Place) → merge o p ≡ none → (o ≡ none) × (p ≡ none)
unfolding merge
merge_none none p e = (refl, e)
merge_none (some x) none e = let z : ◌≡◌ {A = ℕ} 0 1 = cc in absurd (omega arith)
merge_none (some x) (some y) e = let z : ◌≡◌ {A = ℕ} 0 1 = cc in absurd (omega arith)

pub beneath_step : (j : ℕ) (o : Option Place) (k : ℕ) (s : Place) → beneath j o ≡ some (k ∷ s) → (j ≡ k) × (o ≡ some s)
unfolding beneath
beneath_step j none k s e = let z : ◌≡◌ {A = ℕ} 0 1 = cc in absurd (omega arith)
beneath_step j (some x) k s e = let f : x ≡ s = cc in (cc, ap some f)

pub beneath_none : (j : ℕ) (o : Option Place) → beneath j o ≡ none → o ≡ none
unfolding beneath
beneath_none j none e = refl
beneath_none j (some x) e = let z : ◌≡◌ {A = ℕ} 0 1 = cc in absurd (omega arith)

-- a scope in cases i, i + 1, .. begins with a step to one of them
pub scope_in_of_step : (c i : ℕ) (cs : Cases) (k : ℕ) (s : Place) → scope_in_of c i cs ≡ some (k ∷ s) → (Case i ≤ k) × (k < Case (i + how_many cs))
scope_in_of_step c i cs k s e = subst (Between (Case i) (Case (i + how_many cs))) e (scope_in_of_between c i cs)
