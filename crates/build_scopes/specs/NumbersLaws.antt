-- Hoisting by numbers is the hoisting of rule 7: a clause's number is that of the one node above which it is hoisted.
-- Rests on hoisting by going down the tree once; the numbers of different children are apart.
use Rattle.std.specs.Prelude.{◌≡◌, Bool, not, List, [], ℕ, zero, suc, ◌+◌, ◌≤◌, ◌<◌, eqb, leb}
use Rattle.std.proofs.Math.Path.{refl, ap, ap₂}
use Rattle.std.proofs.Common.{sym, ◌∙◌, subst, true≢false, arith}
use Rattle.std.proofs.Math.Bool.{true, false}
use Rattle.std.proofs.lemmas.Bool.{false≢true}
use Rattle.std.proofs.Math.Option.{Option, none, some}
use borrow.Author.Tests.{eq-eqb, ne_eqb, leb-false, ltb-true}
use Rattle.base_words.specs.Words.{both, either, pick}
use Rattle.base_words.specs.WordsLaws.{both_assoc, either_false}
use Rattle.spec_rules.specs.Limits.{nodes_most}
use Rattle.spec_rules.specs.Rows.{Binding, bit}
use Rattle.spec_rules.specs.Building.{Tree, Cases, absent, leaf, hoist, switch, listswitch, cnil, ccons}
use Rattle.spec_rules.specs.Hoisting.{Place, is_at, first_bindings, hoist_all, nodes_in, nodes_in_of, has_leaf, has_leaf_of}
use Rattle.spec_hoist.specs.Trees.{Plain, PlainOf}
use Rattle.spec_hoist.specs.Scopes.{has_scope, last_leaf, is_clause, scope_in}
use Rattle.spec_hoist.proofs.IdleLaws.{has_scope_scope_in}
use Rattle.spec_hoist.specs.Descent.{cases_with, children_with, is_scope, here, further, wrap_by, hoist_by, hoist_by_of}
use Rattle.spec_hoist.proofs.DescentLaws.{is_scope_scope_in, hoist_all_by}
use Rattle.build_arena.specs.Numbered.{joined, is_switch, cases_under, default_under}
use Rattle.build_arena.specs.NumberedLaws.{nodes_in_switch, nodes_in_of_joined}
use Rattle.build_scopes.specs.Numbers.{descent, descent_of, scope_number, scope_node, hoist_by_number, hoist_by_number_of}
use Rattle.build_scopes.specs.SwitchLaws.{has_leaf_of_joined, has_leaf_switch, cases_with_joined, descent_of_joined, children_with_switch, descent_switch, has_leaf_of_some}

-- ---- where the way down can end
-- x is one of the m numbers from k on
abbrev pub In : ℕ → ℕ → ℕ → Type 0
In x k m = (k ≤ x) × (x < k + m)

pick_in : (b : Bool) (x y k m : ℕ) → (b ≡ true → In x k m) → (b ≡ false → In y k m) → In (pick b x y) k m
pick_in true x y k m f g = f refl
pick_in false x y k m f g = g refl

in_widen : (x j l k m : ℕ) → k ≤ j → j + l ≤ k + m → In x j l → In x k m
in_widen x j l k m a b h = (omega (arith, h.0), omega (arith, h.1))

-- z counts only where no case has a leaf of the clause
pub descent_of_pick : (stop : Tree → Bool) (c k : ℕ) (cs : Cases) (z : ℕ) → descent_of stop c k cs z ≡ pick (has_leaf_of c cs) (descent_of stop c k cs 0) z
unfolding descent_of has_leaf_of
descent_of_pick stop c k cnil z = refl
descent_of_pick stop c k (ccons t at a cs) z = go (has_leaf c a) (descent_of_pick stop c (k + nodes_in a) cs z)
  where
    go : (b : Bool) → descent_of stop c (k + nodes_in a) cs z ≡ pick (has_leaf_of c cs) (descent_of stop c (k + nodes_in a) cs 0) z
        → pick b (descent stop c k a) (descent_of stop c (k + nodes_in a) cs z)
        ≡ pick (either b (has_leaf_of c cs)) (pick b (descent stop c k a) (descent_of stop c (k + nodes_in a) cs 0)) z
    go true ih = refl
    go false ih = ih

pub other_has : (x y : Bool) → either x y ≡ true → x ≡ false → y ≡ true
other_has true y h e = absurd (true≢false e)
other_has false y h e = h

pub either_turn : (x y : Bool) → either x y ≡ either y x
either_turn true true = refl
either_turn true false = refl
either_turn false true = refl
either_turn false false = refl

mutual
  unfolding descent nodes_in has_leaf Plain

  -- THEOREM: the way down stays in the tree
  pub descent_in : (stop : Tree → Bool) (c k : ℕ) (a : Tree) → has_leaf c a ≡ true → Plain a → In (descent stop c k a) k (nodes_in a)
  descent_in stop c k absent h pl = absurd (false≢true h)
  descent_in stop c k (leaf d bs) h pl = (omega arith, omega arith)
  descent_in stop c k (hoist d bs a) h pl = absurd pl
  descent_in stop c k (switch p cs d) h pl =
      let m = suc (nodes_in_of cs + nodes_in d) in
      let k₂ = k + 1 + nodes_in_of cs in
      pick_in (stop (switch p cs d)) k (pick (has_leaf c d) (descent stop c k₂ d) (descent_of stop c (k + 1) cs k)) k m (λ e. (omega arith, omega arith))
      (λ e.
      pick_in (has_leaf c d) (descent stop c k₂ d) (descent_of stop c (k + 1) cs k) k m
      (λ x. in_widen (descent stop c k₂ d) k₂ (nodes_in d) k m (omega arith) (omega arith) (descent_in stop c k₂ d x pl.1))
      (λ x.
      in_widen (descent_of stop c (k + 1) cs k) (k + 1) (nodes_in_of cs) k m (omega arith) (omega arith)
      (descent_of_in stop c (k + 1) cs k (other_has (has_leaf c d) (has_leaf_of c cs) (either_turn (has_leaf c d) (has_leaf_of c cs) ∙ h) x) pl.0)))
  descent_in stop c k (listswitch p cs ts d) h pl =
      let m = suc (nodes_in_of cs + (nodes_in_of ts + nodes_in d)) in
      let k₂ = k + 1 + nodes_in_of cs in
      let k₃ = k₂ + nodes_in_of ts in
      let z = descent_of stop c k₂ ts k in
      let y = descent_of stop c (k + 1) cs z in
      pick_in (stop (listswitch p cs ts d)) k (pick (has_leaf c d) (descent stop c k₃ d) y) k m (λ e. (omega arith, omega arith))
      (λ e.
      pick_in (has_leaf c d) (descent stop c k₃ d) y k m
      (λ x. in_widen (descent stop c k₃ d) k₃ (nodes_in d) k m (omega arith) (omega arith) (descent_in stop c k₃ d x pl.2))
      (λ x.
      rw (descent_of_pick stop c (k + 1) cs z)
      (pick_in (has_leaf_of c cs) (descent_of stop c (k + 1) cs 0) z k m
      (λ u. in_widen (descent_of stop c (k + 1) cs 0) (k + 1) (nodes_in_of cs) k m (omega arith) (omega arith) (descent_of_in stop c (k + 1) cs 0 u pl.0))
      (λ u.
      in_widen z k₂ (nodes_in_of ts) k m (omega arith) (omega arith)
      (descent_of_in stop c k₂ ts k
      (other_has (has_leaf c d) (has_leaf_of c ts) (either_turn (has_leaf c d) (has_leaf_of c ts) ∙ other_has (has_leaf_of c cs) (either (has_leaf_of c ts) (has_leaf c d)) h u) x)
      pl.1)))))

  descent_of_in : (stop : Tree → Bool) (c k : ℕ) (cs : Cases) (z : ℕ) → has_leaf_of c cs ≡ true → PlainOf cs → In (descent_of stop c k cs z) k (nodes_in_of cs)
  descent_of_in stop c k cnil z h pl = absurd (false≢true h)
  descent_of_in stop c k (ccons t at a cs) z h pl =
      let m = nodes_in a + nodes_in_of cs in
      let k₂ = k + nodes_in a in
      pick_in (has_leaf c a) (descent stop c k a) (descent_of stop c k₂ cs z) k m
      (λ x. in_widen (descent stop c k a) k (nodes_in a) k m (omega arith) (omega arith) (descent_in stop c k a x pl.0))
      (λ x.
      in_widen (descent_of stop c k₂ cs z) k₂ (nodes_in_of cs) k m (omega arith) (omega arith)
      (descent_of_in stop c k₂ cs z (other_has (has_leaf c a) (has_leaf_of c cs) h x) pl.1))

-- ---- is j the number of clause c's scope
hit : ℕ → ℕ → Tree → ℕ → Bool
hit c k a j = both (has_leaf c a) (eqb (scope_number c k a) j)

hit_of : ℕ → ℕ → Cases → ℕ → Bool
hit_of c k cs j = both (has_leaf_of c cs) (eqb (descent_of (is_scope c) c k cs 0) j)

-- of two parts, of which the first is asked first: a number of the first, and a number of the second where not both have one
first_part : (p q : Bool) (x y j : ℕ) → (q ≡ true → y ≡ j → ⊥) → both (either p q) (eqb (pick p x y) j) ≡ both p (eqb x j)
first_part true q x y j h = refl
first_part false true x y j h = ne_eqb y j (h refl)
first_part false false x y j h = refl

second_part : (p q : Bool) (x y j : ℕ) → (p ≡ true → x ≡ j → ⊥) → (p ≡ true → q ≡ true → ⊥) → both (either p q) (eqb (pick p x y) j) ≡ both q (eqb y j)
second_part true true x y j h g = absurd (g refl refl)
second_part true false x y j h g = ne_eqb x j (h refl)
second_part false q x y j h g = refl

same_where : (q : Bool) (x z j : ℕ) → both q (eqb (pick q x z) j) ≡ both q (eqb x j)
same_where true x z j = refl
same_where false x z j = refl

hit_of_any : (c k : ℕ) (cs : Cases) (z j : ℕ) → both (has_leaf_of c cs) (eqb (descent_of (is_scope c) c k cs z) j) ≡ hit_of c k cs j
unfolding hit_of
hit_of_any c k cs z j =
    ap (λ x. both (has_leaf_of c cs) (eqb x j)) (descent_of_pick (is_scope c) c k cs z) ∙ same_where (has_leaf_of c cs) (descent_of (is_scope c) c k cs 0) z j

-- two children have it, so there are two
bit_true : (b : Bool) → b ≡ true → bit b ≡ 1
unfolding bit
bit_true b e = ap bit e

two_cases : (c : ℕ) (cs : Cases) → has_leaf_of c cs ≡ true → 1 ≤ cases_with c cs
two_cases c cs e = ltb-true 0 (cases_with c cs) (sym (has_leaf_of_some c cs) ∙ e)

module _ (c k : ℕ) (t : Rattle.spec_rules.specs.Splitting.Test) (at : ℕ) (a : Tree) (cs : Cases) (pa : Plain a) (pc : PlainOf cs) (j : ℕ) where
  hit_first : In j k (nodes_in a) → hit_of c k (ccons t at a cs) j ≡ hit c k a j
  unfolding hit hit_of scope_number descent_of has_leaf_of
  hit_first i =
      first_part (has_leaf c a) (has_leaf_of c cs) (descent (is_scope c) c k a) (descent_of (is_scope c) c (k + nodes_in a) cs 0) j
      (λ e f. omega (arith, i.0, i.1, (descent_of_in (is_scope c) c (k + nodes_in a) cs 0 e pc).0))

  hit_rest : In j (k + nodes_in a) (nodes_in_of cs) → cases_with c (ccons t at a cs) ≤ 1 → hit_of c k (ccons t at a cs) j ≡ hit_of c (k + nodes_in a) cs j
  unfolding hit_of descent_of has_leaf_of cases_with
  hit_rest i one =
      second_part (has_leaf c a) (has_leaf_of c cs) (descent (is_scope c) c k a) (descent_of (is_scope c) c (k + nodes_in a) cs 0) j
      (λ e f. omega (arith, i.0, (descent_in (is_scope c) c k a e pa).1))
      (λ e f. omega (arith, one, bit_true (has_leaf c a) e, two_cases c cs f))

pub plain_joined : (cs ts : Cases) → PlainOf cs → PlainOf ts → PlainOf (joined cs ts)
unfolding joined PlainOf
plain_joined cnil ts h g = g
plain_joined (ccons t at a cs) ts h g = (h.0, plain_joined cs ts h.1 g)

module _ (c k : ℕ) (cs ts : Cases) (pc : PlainOf cs) (pt : PlainOf ts) (j : ℕ) where
  joined_number : descent_of (is_scope c) c k (joined cs ts) 0 ≡ pick (has_leaf_of c cs) (descent_of (is_scope c) c k cs 0) (descent_of (is_scope c) c (k + nodes_in_of cs) ts 0)
  joined_number = descent_of_joined (is_scope c) c k (k + nodes_in_of cs) cs ts 0 refl ∙ descent_of_pick (is_scope c) c k cs (descent_of (is_scope c) c (k + nodes_in_of cs) ts 0)

  joined_hit : hit_of c k (joined cs ts) j
      ≡ both (either (has_leaf_of c cs) (has_leaf_of c ts)) (eqb (pick (has_leaf_of c cs) (descent_of (is_scope c) c k cs 0) (descent_of (is_scope c) c (k + nodes_in_of cs) ts 0)) j)
  unfolding hit_of
  joined_hit = ap₂ (λ x y. both x (eqb y j)) (has_leaf_of_joined c cs ts) joined_number

  hit_cases : In j k (nodes_in_of cs) → hit_of c k (joined cs ts) j ≡ hit_of c k cs j
  unfolding hit_of
  hit_cases i =
      joined_hit
      ∙ first_part (has_leaf_of c cs) (has_leaf_of c ts) (descent_of (is_scope c) c k cs 0) (descent_of (is_scope c) c (k + nodes_in_of cs) ts 0) j
      (λ e f. omega (arith, i.1, (descent_of_in (is_scope c) c (k + nodes_in_of cs) ts 0 e pt).0))

  hit_tailed : In j (k + nodes_in_of cs) (nodes_in_of ts) → cases_with c (joined cs ts) ≤ 1 → hit_of c k (joined cs ts) j ≡ hit_of c (k + nodes_in_of cs) ts j
  unfolding hit_of
  hit_tailed i one =
      joined_hit
      ∙ second_part (has_leaf_of c cs) (has_leaf_of c ts) (descent_of (is_scope c) c k cs 0) (descent_of (is_scope c) c (k + nodes_in_of cs) ts 0) j
      (λ e f. omega (arith, i.0, (descent_of_in (is_scope c) c k cs 0 e pc).1))
      (λ e f. omega (arith, one, cases_with_joined c cs ts, two_cases c cs e, two_cases c ts f))

-- ---- at a switch
is_scope_has_leaf : (c : ℕ) (a : Tree) → is_scope c a ≡ true → has_leaf c a ≡ true
unfolding is_at has_scope
is_scope_has_leaf c a h = go (scope_in c a) refl
  where
    go : (o : Option Place) → scope_in c a ≡ o → has_leaf c a ≡ true
    go none e = absurd (false≢true (sym (ap (is_at []) e) ∙ sym (is_scope_scope_in c a) ∙ h))
    go (some s) e = sym (has_scope_scope_in c a) ∙ ap has_scope e

-- not the scope: one child has it at most
one_child : (c : ℕ) (s : Tree) → is_scope c s ≡ false → children_with c s ≤ 1
unfolding is_scope
one_child c s h = omega (arith, leb-false 2 (children_with c s) (either_false (is_clause c (last_leaf s)) (leb 2 (children_with c s)) h).1)

module _ (c k : ℕ) (s : Tree) (sw : is_switch s ≡ true) (pc : PlainOf (cases_under s)) (pd : Plain (default_under s)) where
  abbrev k₂ : ℕ
  k₂ = k + 1 + nodes_in_of (cases_under s)

  abbrev in_default : ℕ
  in_default = descent (is_scope c) c k₂ (default_under s)

  abbrev in_cases : ℕ
  in_cases = descent_of (is_scope c) c (k + 1) (cases_under s) k

  number_here : is_scope c s ≡ true → scope_number c k s ≡ k
  unfolding scope_number
  number_here e = descent_switch (is_scope c) c k s sw ∙ rw e

  number_below : is_scope c s ≡ false → scope_number c k s ≡ pick (has_leaf c (default_under s)) in_default in_cases
  unfolding scope_number
  number_below e = descent_switch (is_scope c) c k s sw ∙ rw e

  has_below : has_leaf c s ≡ either (has_leaf c (default_under s)) (has_leaf_of c (cases_under s))
  has_below = has_leaf_switch c s sw ∙ either_turn (has_leaf_of c (cases_under s)) (has_leaf c (default_under s))

  hit_below : (j : ℕ) → is_scope c s ≡ false
      → hit c k s j ≡ both (either (has_leaf c (default_under s)) (has_leaf_of c (cases_under s))) (eqb (pick (has_leaf c (default_under s)) in_default in_cases) j)
  unfolding hit
  hit_below j e = ap₂ (λ x y. both x (eqb y j)) has_below (number_below e)

  hit_default : (j : ℕ) → is_scope c s ≡ false → In j k₂ (nodes_in (default_under s)) → hit c k s j ≡ hit c k₂ (default_under s) j
  unfolding hit scope_number
  hit_default j e i =
      hit_below j e
      ∙ first_part (has_leaf c (default_under s)) (has_leaf_of c (cases_under s)) in_default in_cases j
      (λ x f. omega (arith, i.0, (descent_of_in (is_scope c) c (k + 1) (cases_under s) k x pc).1))

  hit_among : (j : ℕ) → is_scope c s ≡ false → In j (k + 1) (nodes_in_of (cases_under s)) → hit c k s j ≡ hit_of c (k + 1) (cases_under s) j
  hit_among j e i =
      hit_below j e
      ∙ second_part (has_leaf c (default_under s)) (has_leaf_of c (cases_under s)) in_default in_cases j
      (λ x f. omega (arith, i.1, (descent_in (is_scope c) c k₂ (default_under s) x pd).0))
      (λ x f. omega (arith, one_child c s e, children_with_switch c s sw, bit_true (has_leaf c (default_under s)) x, two_cases c (cases_under s) f))
      ∙ hit_of_any c (k + 1) (cases_under s) k j

  hit_past : (j : ℕ) → is_scope c s ≡ true → k < j → hit c k s j ≡ false
  unfolding hit
  hit_past j e l = rw (number_here e, ne_eqb k j (λ f. omega arith)) (none_of (has_leaf c s))
    where
      none_of : (b : Bool) → both b false ≡ false
      none_of true = refl
      none_of false = refl

  -- in range of the children: further down, where the root is not the scope
  hit_further : (j : ℕ) (x : Bool) → k < j → (is_scope c s ≡ false → hit c k s j ≡ x) → hit c k s j ≡ both (not (is_scope c s)) x
  hit_further j x l f = go (is_scope c s) refl
    where
      go : (b : Bool) → is_scope c s ≡ b → hit c k s j ≡ both (not (is_scope c s)) x
      go true e = rw e (hit_past j e l)
      go false e = rw e (f e)

  number_after : is_scope c s ≡ false → has_leaf c s ≡ true → k < scope_number c k s
  number_after e h =
      let m = nodes_in_of (cases_under s) + nodes_in (default_under s) in
      let i : In (pick (has_leaf c (default_under s)) in_default in_cases) (k + 1) m =
      pick_in (has_leaf c (default_under s)) in_default in_cases (k + 1) m
      (λ x. in_widen in_default k₂ (nodes_in (default_under s)) (k + 1) m (omega arith) (omega arith) (descent_in (is_scope c) c k₂ (default_under s) x pd))
      (λ x.
      in_widen in_cases (k + 1) (nodes_in_of (cases_under s)) (k + 1) m (omega arith) (omega arith)
      (descent_of_in (is_scope c) c (k + 1) (cases_under s) k (other_has (has_leaf c (default_under s)) (has_leaf_of c (cases_under s)) (sym has_below ∙ h) x) pc)) in
      omega (arith, number_below e, i.0)

  hit_root : hit c k s k ≡ is_scope c s
  unfolding hit
  hit_root = go (is_scope c s) refl
    where
      below : is_scope c s ≡ false → (b : Bool) → has_leaf c s ≡ b → both b (eqb (scope_number c k s) k) ≡ false
      below e false x = refl
      below e true x = ne_eqb (scope_number c k s) k (λ f. omega (arith, number_after e x))

      go : (b : Bool) → is_scope c s ≡ b → both (has_leaf c s) (eqb (scope_number c k s) k) ≡ is_scope c s
      go true e = rw (number_here e, is_scope_has_leaf c s e, eq-eqb k k refl, e)
      go false e = below e (has_leaf c s) refl ∙ sym e

hit_leaf : (c k d : ℕ) (bs : List Binding) → hit c k (leaf d bs) k ≡ is_scope c (leaf d bs)
unfolding hit scope_number descent has_leaf is_scope is_clause last_leaf children_with
hit_leaf c k d bs = rw (eq-eqb k k refl) (go (eqb c d))
  where
    go : (b : Bool) → both b true ≡ either b false
    go true = refl
    go false = refl

-- ---- hoisting with other tests and bindings that are the same for the n clauses
wrap_by_same : (f g : ℕ → Bool) (bs ds : ℕ → List Binding) (c m n : ℕ) (a b : Tree) → c + m ≤ n → ((x : ℕ) → x < n → f x ≡ g x) → ((x : ℕ) → x < n → bs x ≡ ds x) → a ≡ b
    → wrap_by f bs c m a ≡ wrap_by g ds c m b
unfolding wrap_by
wrap_by_same f g bs ds c zero n a b l h k e = e
wrap_by_same f g bs ds c (suc m) n a b l h k e = go (g c) refl (wrap_by_same f g bs ds (c + 1) m n a b (omega arith) h k e)
  where
    here_same : f c ≡ g c
    here_same = h c (omega arith)

    go : (x : Bool) → g c ≡ x → wrap_by f bs (c + 1) m a ≡ wrap_by g ds (c + 1) m b → wrap_by f bs c (suc m) a ≡ wrap_by g ds c (suc m) b
    go true x ih = rw (wrap_by, here_same ∙ x, x) (λ i. hoist c (k c (omega arith) i) (ih i))
    go false x ih = rw (wrap_by, here_same ∙ x, x) ih

-- ---- going down with numbers
module _ (node : ℕ → ℕ) (bs ds : ℕ → List Binding) (n : ℕ) (same : (c : ℕ) → c < n → bs c ≡ ds c) where
  -- among the numbers of the tree at k, those of the clauses are the scopes of the clauses that f has
  abbrev Reached : (ℕ → Bool) → ℕ → Tree → Type 0
  Reached f k a = (c j : ℕ) → c < n → In j k (nodes_in a) → eqb (node c) j ≡ both (f c) (hit c k a j)

  record ReachedOf (f : ℕ → Bool) (k : ℕ) (cs : Cases) : Type 0 where
    one : (c : ℕ) → c < n → f c ≡ true → cases_with c cs ≤ 1
    at : (c j : ℕ) → c < n → In j k (nodes_in_of cs) → eqb (node c) j ≡ both (f c) (hit_of c k cs j)

  -- where f has the clause, its cases are one at most
  both_where : (x y z : Bool) → (x ≡ true → y ≡ z) → both x y ≡ both x z
  both_where true y z h = h refl
  both_where false y z h = refl

  module _ (f : ℕ → Bool) (k : ℕ) (s : Tree) (sw : is_switch s ≡ true) (pc : PlainOf (cases_under s)) (pd : Plain (default_under s)) (r : Reached f k s) where
    reached_here : (c : ℕ) → c < n → here f s c ≡ eqb (node c) k
    reached_here c l = sym (r c k l (omega arith, omega (arith, nodes_in_switch s sw)) ∙ ap (both (f c)) (hit_root c k s sw pc pd))

    reached_child : (c j : ℕ) (x : Bool) → c < n → k < j → j < k + nodes_in s → (is_scope c s ≡ false → hit c k s j ≡ x) → eqb (node c) j ≡ both (further f s c) x
    reached_child c j x l a b h =
        r c j l (omega arith, b) ∙ ap (both (f c)) (hit_further c k s sw pc pd j x a h) ∙ sym (both_assoc (f c) (not (is_scope c s)) x)

    reached_default : Reached (further f s) (k + 1 + nodes_in_of (cases_under s)) (default_under s)
    reached_default c j l i =
        reached_child c j (hit c (k + 1 + nodes_in_of (cases_under s)) (default_under s) j) l (omega (arith, i.0)) (omega (arith, i.1, nodes_in_switch s sw))
        (λ e. hit_default c k s sw pc pd j e i)

    reached_cases : ReachedOf (further f s) (k + 1) (cases_under s)
    reached_cases =
        record {
          one = λ c l h. omega (arith, one_child c s (not_scope (f c) (is_scope c s) h), children_with_switch c s sw);
          at = λ c j l i.
              reached_child c j (hit_of c (k + 1) (cases_under s) j) l (omega (arith, i.0)) (omega (arith, i.1, nodes_in_switch s sw)) (λ e. hit_among c k s sw pc pd j e i);
        }
      where
        not_scope : (x y : Bool) → both x (not y) ≡ true → y ≡ false
        not_scope true true h = absurd (false≢true h)
        not_scope true false h = refl
        not_scope false y h = absurd (false≢true h)

  module _ (f : ℕ → Bool) (k : ℕ) (cs ts : Cases) (pc : PlainOf cs) (pt : PlainOf ts) (r : ReachedOf f k (joined cs ts)) where
    reached_exact : ReachedOf f k cs
    reached_exact =
        record {
          one = λ c l h. omega (arith, r.one c l h, cases_with_joined c cs ts);
          at = λ c j l i. r.at c j l (i.0, omega (arith, i.1, nodes_in_of_joined cs ts)) ∙ ap (both (f c)) (hit_cases c k cs ts pc pt j i);
        }

    reached_tailed : ReachedOf f (k + nodes_in_of cs) ts
    reached_tailed =
        record {
          one = λ c l h. omega (arith, r.one c l h, cases_with_joined c cs ts);
          at = λ c j l i.
              r.at c j l (omega (arith, i.0), omega (arith, i.1, nodes_in_of_joined cs ts))
              ∙ both_where (f c) (hit_of c k (joined cs ts) j) (hit_of c (k + nodes_in_of cs) ts j) (λ h. hit_tailed c k cs ts pc pt j i (r.one c l h));
        }

  module _ (f : ℕ → Bool) (k : ℕ) (t : Rattle.spec_rules.specs.Splitting.Test) (at : ℕ) (a : Tree) (cs : Cases) (pa : Plain a) (pc : PlainOf cs) (r : ReachedOf f k (ccons t at a cs)) where
    reached_first : Reached f k a
    unfolding nodes_in_of
    reached_first c j l i = r.at c j l (i.0, omega (arith, i.1)) ∙ ap (both (f c)) (hit_first c k t at a cs pa pc j i)

    reached_rest : ReachedOf f (k + nodes_in a) cs
    unfolding nodes_in_of cases_with
    reached_rest =
        record {
          one = λ c l h. omega (arith, r.one c l h);
          at = λ c j l i.
              r.at c j l (omega (arith, i.0), omega (arith, i.1))
              ∙ both_where (f c) (hit_of c k (ccons t at a cs) j) (hit_of c (k + nodes_in a) cs j) (λ h. hit_rest c k t at a cs pa pc j i (r.one c l h));
        }

  wrap_number : (f : ℕ → Bool) (k : ℕ) (s a b : Tree) → ((c : ℕ) → c < n → here f s c ≡ eqb (node c) k) → a ≡ b
      → wrap_by (here f s) bs 0 n a ≡ wrap_by (λ c. eqb (node c) k) ds 0 n b
  wrap_number f k s a b h e = wrap_by_same (here f s) (λ c. eqb (node c) k) bs ds 0 n n a b (omega arith) h same e

  mutual
    unfolding hoist_by hoist_by_number Plain is_switch cases_under default_under nodes_in

    by_number : (a : Tree) (k : ℕ) (f : ℕ → Bool) → Plain a → Reached f k a → hoist_by bs n f a ≡ hoist_by_number node ds n k a
    by_number absent k f pl r = refl
    by_number (leaf c cs) k f pl r =
        wrap_number f k (leaf c cs) (leaf c cs) (leaf c cs) (λ x l. sym (r x k l (omega arith, omega arith) ∙ ap (both (f x)) (hit_leaf x k c cs))) refl
    by_number (hoist c cs a) k f pl r = absurd pl
    by_number (switch p cs d) k f pl r =
        let s : Tree = switch p cs d in
        let g : ℕ → Bool = further f s in
        let k₂ = k + 1 + nodes_in_of cs in
        wrap_number f k s (switch p (hoist_by_of bs n g cs) (hoist_by bs n g d)) (switch p (hoist_by_number_of node ds n (k + 1) cs) (hoist_by_number node ds n k₂ d))
        (reached_here f k s refl pl.0 pl.1 r)
        (λ i.
        switch p (by_number_of cs (k + 1) g pl.0 (reached_cases f k s refl pl.0 pl.1 r) i)
        (by_number d k₂ g pl.1 (reached_default f k s refl pl.0 pl.1 r) i))
    by_number (listswitch p cs ts d) k f pl r =
        let s : Tree = listswitch p cs ts d in
        let g : ℕ → Bool = further f s in
        let k₂ = k + 1 + nodes_in_of cs in
        let k₃ = k₂ + nodes_in_of ts in
        let pj = plain_joined cs ts pl.0 pl.1 in
        let both_runs = reached_cases f k s refl pj pl.2 r in
        let after : k + 1 + nodes_in_of (joined cs ts) ≡ k₃ = omega (arith, nodes_in_of_joined cs ts) in
        wrap_number f k s (listswitch p (hoist_by_of bs n g cs) (hoist_by_of bs n g ts) (hoist_by bs n g d))
        (listswitch p (hoist_by_number_of node ds n (k + 1) cs) (hoist_by_number_of node ds n k₂ ts) (hoist_by_number node ds n k₃ d))
        (reached_here f k s refl pj pl.2 r)
        (λ i.
        listswitch p (by_number_of cs (k + 1) g pl.0 (reached_exact g (k + 1) cs ts pl.0 pl.1 both_runs) i)
        (by_number_of ts k₂ g pl.1 (reached_tailed g (k + 1) cs ts pl.0 pl.1 both_runs) i)
        (by_number d k₃ g pl.2 (subst (λ z. Reached g z d) after (reached_default f k s refl pj pl.2 r)) i))

    by_number_of : (cs : Cases) (k : ℕ) (f : ℕ → Bool) → PlainOf cs → ReachedOf f k cs → hoist_by_of bs n f cs ≡ hoist_by_number_of node ds n k cs
    by_number_of cnil k f pl r = refl
    by_number_of (ccons t at a cs) k f pl r =
        λ i.
        ccons t at (by_number a k f pl.0 (reached_first f k t at a cs pl.0 pl.1 r) i)
        (by_number_of cs (k + nodes_in a) f pl.1 (reached_rest f k t at a cs pl.0 pl.1 r) i)

-- THEOREM: hoisting by numbers is rule 7
pub hoist_all_number : (node : ℕ → ℕ) (bs : ℕ → List Binding) (n : ℕ) (a : Tree) → Plain a → nodes_in a ≤ nodes_most → ((c : ℕ) → c < n → node c ≡ scope_node c a)
    → ((c : ℕ) → c < n → bs c ≡ first_bindings c a) → hoist_all n a ≡ hoist_by_number node bs n 0 a
unfolding scope_node hit
hoist_all_number node bs n a pl most number bindings =
    hoist_all_by n a ∙ by_number node (λ c. first_bindings c a) bs n (λ c l. sym (bindings c l)) a 0 (λ c. true) pl start
  where
    at : (c j : ℕ) → j < nodes_in a → (b : Bool) → eqb (pick b (scope_number c 0 a) nodes_most) j ≡ both b (eqb (scope_number c 0 a) j)
    at c j h true = refl
    at c j h false = ne_eqb nodes_most j (λ e. omega arith)

    start : (c j : ℕ) → c < n → In j 0 (nodes_in a) → eqb (node c) j ≡ hit c 0 a j
    start c j l i = rw (number c l) (at c j (omega (arith, i.1)) (has_leaf c a))
