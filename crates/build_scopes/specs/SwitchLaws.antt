-- A switch and a list switch alike: what is asked of them is asked of their cases, tail cases last, and of their default.
-- Rests on the definitions alone.
use Rattle.std.specs.Prelude.{◌≡◌, refl, Bool, true, false, ℕ, ◌+◌, ◌≤◌, ◌<◌, ltb}
use Rattle.std.proofs.Common.{sym, ap, ap₂, ◌∙◌, arith, lt-ltb, le-ltb}
use Rattle.std.proofs.lemmas.Bool.{false≢true}
use Rattle.std.proofs.Math.Option.{Option, none, some}
use Rattle.base_words.specs.Words.{either, pick}
use Rattle.spec_rules.specs.Rows.{bit}
use Rattle.spec_rules.specs.SplittingLaws.{either_assoc}
use Rattle.spec_rules.specs.Building.{Tree, Cases, absent, leaf, hoist, switch, listswitch, cnil, ccons}
use Rattle.spec_rules.specs.Hoisting.{how_many, nodes_in, nodes_in_of, has_leaf, has_leaf_of}
use Rattle.spec_hoist.specs.Trees.{is_present, WellMade, WellMadeOf}
use Rattle.spec_hoist.specs.Scopes.{later, last_leaf, last_leaf_of}
use Rattle.spec_hoist.specs.ScopesLaws.{later_assoc}
use Rattle.spec_hoist.specs.Descent.{cases_with, children_with}
use Rattle.build_arena.specs.Numbered.{joined, is_switch, cases_under, default_under, AllThere}
use Rattle.build_arena.specs.NumberedLaws.{how_many_joined, nodes_in_of_joined, all_there_joined}
use Rattle.build_scopes.specs.Numbers.{descent, descent_of}

-- ---- tests and counts
later_none : (x : Option ℕ) → later none x ≡ x
unfolding later
later_none none = refl
later_none (some c) = refl

pub has_leaf_of_joined : (c : ℕ) (cs ts : Cases) → has_leaf_of c (joined cs ts) ≡ either (has_leaf_of c cs) (has_leaf_of c ts)
unfolding joined has_leaf_of
has_leaf_of_joined c cnil ts = refl
has_leaf_of_joined c (ccons t at a cs) ts =
    ap (either (has_leaf c a)) (has_leaf_of_joined c cs ts) ∙ sym (either_assoc (has_leaf c a) (has_leaf_of c cs) (has_leaf_of c ts))

last_leaf_of_joined : (cs ts : Cases) → last_leaf_of (joined cs ts) ≡ later (last_leaf_of cs) (last_leaf_of ts)
unfolding joined last_leaf_of
last_leaf_of_joined cnil ts = sym (later_none (last_leaf_of ts))
last_leaf_of_joined (ccons t at a cs) ts = ap (later (last_leaf a)) (last_leaf_of_joined cs ts) ∙ sym (later_assoc (last_leaf a) (last_leaf_of cs) (last_leaf_of ts))

pub cases_with_joined : (c : ℕ) (cs ts : Cases) → cases_with c (joined cs ts) ≡ cases_with c cs + cases_with c ts
unfolding joined cases_with
cases_with_joined c cnil ts = omega arith
cases_with_joined c (ccons t at a cs) ts = omega (arith, cases_with_joined c cs ts)

pub descent_of_joined : (stop : Tree → Bool) (c k j : ℕ) (cs ts : Cases) (z : ℕ) → k + nodes_in_of cs ≡ j
    → descent_of stop c k (joined cs ts) z ≡ descent_of stop c k cs (descent_of stop c j ts z)
unfolding joined descent_of nodes_in_of
descent_of_joined stop c k j cnil ts z e = let d : k ≡ j = omega arith in ap (λ x. descent_of stop c x ts z) d
descent_of_joined stop c k j (ccons t at a cs) ts z e =
    ap (pick (has_leaf c a) (descent stop c k a)) (descent_of_joined stop c (k + nodes_in a) j cs ts z (omega arith))

-- ---- switches
pub has_leaf_switch : (c : ℕ) (s : Tree) → is_switch s ≡ true → has_leaf c s ≡ either (has_leaf_of c (cases_under s)) (has_leaf c (default_under s))
unfolding is_switch cases_under default_under has_leaf
has_leaf_switch c absent e = absurd (false≢true e)
has_leaf_switch c (leaf d bs) e = absurd (false≢true e)
has_leaf_switch c (hoist d bs a) e = absurd (false≢true e)
has_leaf_switch c (switch p cs d) e = refl
has_leaf_switch c (listswitch p cs ts d) e =
    sym (either_assoc (has_leaf_of c cs) (has_leaf_of c ts) (has_leaf c d)) ∙ ap (λ z. either z (has_leaf c d)) (sym (has_leaf_of_joined c cs ts))

pub last_leaf_switch : (s : Tree) → is_switch s ≡ true → last_leaf s ≡ later (last_leaf_of (cases_under s)) (last_leaf (default_under s))
unfolding is_switch cases_under default_under last_leaf
last_leaf_switch absent e = absurd (false≢true e)
last_leaf_switch (leaf d bs) e = absurd (false≢true e)
last_leaf_switch (hoist d bs a) e = absurd (false≢true e)
last_leaf_switch (switch p cs d) e = refl
last_leaf_switch (listswitch p cs ts d) e =
    sym (later_assoc (last_leaf_of cs) (last_leaf_of ts) (last_leaf d)) ∙ ap (λ z. later z (last_leaf d)) (sym (last_leaf_of_joined cs ts))

pub children_with_switch : (c : ℕ) (s : Tree) → is_switch s ≡ true → children_with c s ≡ cases_with c (cases_under s) + bit (has_leaf c (default_under s))
unfolding is_switch cases_under default_under children_with
children_with_switch c absent e = absurd (false≢true e)
children_with_switch c (leaf d bs) e = absurd (false≢true e)
children_with_switch c (hoist d bs a) e = absurd (false≢true e)
children_with_switch c (switch p cs d) e = refl
children_with_switch c (listswitch p cs ts d) e = omega (arith, cases_with_joined c cs ts)

pub descent_switch : (stop : Tree → Bool) (c k : ℕ) (s : Tree) → is_switch s ≡ true
    → descent stop c k s
    ≡ pick (stop s) k (pick (has_leaf c (default_under s)) (descent stop c (k + 1 + nodes_in_of (cases_under s)) (default_under s)) (descent_of stop c (k + 1) (cases_under s) k))
unfolding is_switch cases_under default_under descent
descent_switch stop c k absent e = absurd (false≢true e)
descent_switch stop c k (leaf d bs) e = absurd (false≢true e)
descent_switch stop c k (hoist d bs a) e = absurd (false≢true e)
descent_switch stop c k (switch p cs d) e = refl
descent_switch stop c k (listswitch p cs ts d) e =
    let f : k + 1 + nodes_in_of cs + nodes_in_of ts ≡ k + 1 + nodes_in_of (joined cs ts) = omega (arith, nodes_in_of_joined cs ts) in
    ap₂ (λ x y. pick (stop (listswitch p cs ts d)) k (pick (has_leaf c d) (descent stop c x d) y)) f
    (sym (descent_of_joined stop c (k + 1) (k + 1 + nodes_in_of cs) cs ts k refl))

-- ---- a clause is in as many children as have a leaf of it
pub some_or : (x : Bool) (m : ℕ) → ltb 0 (bit x + m) ≡ either x (ltb 0 m)
unfolding bit
some_or true m = lt-ltb 0 (1 + m) (omega arith)
some_or false m = ap (ltb 0) (let e : 0 + m ≡ m = omega arith in e)

pub has_leaf_of_some : (c : ℕ) (cs : Cases) → has_leaf_of c cs ≡ ltb 0 (cases_with c cs)
unfolding has_leaf_of cases_with
has_leaf_of_some c cnil = sym (le-ltb 0 0 (omega arith))
has_leaf_of_some c (ccons t at a cs) = ap (either (has_leaf c a)) (has_leaf_of_some c cs) ∙ sym (some_or (has_leaf c a) (cases_with c cs))

pub has_leaf_some : (c : ℕ) (s : Tree) → is_switch s ≡ true → has_leaf c s ≡ ltb 0 (children_with c s)
has_leaf_some c s e =
    has_leaf_switch c s e
    ∙ turn (has_leaf_of c (cases_under s)) (has_leaf c (default_under s))
    ∙ ap (either (has_leaf c (default_under s))) (has_leaf_of_some c (cases_under s))
    ∙ sym (some_or (has_leaf c (default_under s)) (cases_with c (cases_under s)))
    ∙ ap (ltb 0) (let f : bit (has_leaf c (default_under s)) + cases_with c (cases_under s) ≡ children_with c s = omega (arith, children_with_switch c s e) in f)
  where
    turn : (x y : Bool) → either x y ≡ either y x
    turn true true = refl
    turn true false = refl
    turn false true = refl
    turn false false = refl

-- ---- what is plain and well made is so below
pub present_nodes : (a : Tree) → is_present a ≡ true → 1 ≤ nodes_in a
unfolding is_present nodes_in
present_nodes absent h = absurd (false≢true h)
present_nodes (leaf c bs) h = omega arith
present_nodes (hoist c bs a) h = omega arith
present_nodes (switch p cs d) h = omega arith
present_nodes (listswitch p cs ts d) h = omega arith

pub made_there : (n : ℕ) (cs : Cases) → WellMadeOf n cs → AllThere cs
unfolding WellMadeOf AllThere
made_there n cnil h = tt
made_there n (ccons t at a cs) h = (present_nodes a h.0, made_there n cs h.2)

pub made_cases_there : (n : ℕ) (s : Tree) → is_switch s ≡ true → WellMade n s → AllThere (cases_under s)
unfolding is_switch cases_under WellMade
made_cases_there n absent e h = absurd (false≢true e)
made_cases_there n (leaf d bs) e h = absurd (false≢true e)
made_cases_there n (hoist d bs a) e h = absurd (false≢true e)
made_cases_there n (switch p cs d) e h = made_there n cs h.1
made_cases_there n (listswitch p cs ts d) e h = all_there_joined cs ts (made_there n cs h.1) (made_there n ts h.2)

pub made_some_case : (n : ℕ) (s : Tree) → is_switch s ≡ true → WellMade n s → 0 < how_many (cases_under s)
unfolding is_switch cases_under WellMade
made_some_case n absent e h = absurd (false≢true e)
made_some_case n (leaf d bs) e h = absurd (false≢true e)
made_some_case n (hoist d bs a) e h = absurd (false≢true e)
made_some_case n (switch p cs d) e h = h.0
made_some_case n (listswitch p cs ts d) e h = omega (arith, how_many_joined cs ts, h.0)
