-- The search finds what the definition says: a reached switch that falls out is one that some value falls out of, with the tests of its way
-- (`reached_goes`), and every switch that some value falls out of is reached and falls out (`goes_reached`). So the lowest that is found
-- is the lowest forgotten, and where none is found the sheet is covered.
use Rattle.std.specs.Prelude.{ℕ, suc, ◌+◌, ◌≤◌, ◌<◌, ◌⊎◌, Bool, eqb, ltb}
use Rattle.std.proofs.Common.{arith, ◌∙◌, ⊎_elim}
use Rattle.std.proofs.Math.Path.{◌≡◌, refl, sym, ap}
use Rattle.std.proofs.Math.Logic.{inl, inr}
use Rattle.std.proofs.Math.Bool.{true, false, false≢true, not}
use mathlib.Core.List.{List, [], ◌∷◌}
use Rattle.std.proofs.Math.Option.{Option, none, some}
use borrow.Author.Tests.{eqb-true, eq-eqb, lt-ltb, le-ltb}
use Rattle.base_words.specs.Words.{both}
use Rattle.base_words.specs.WordsLaws.{both_true, both_make}
use Rattle.spec_rules.specs.Rows.{Path, Binding}
use Rattle.spec_rules.specs.Building.{Tree, Cases, absent, leaf, hoist, switch, listswitch, cnil, ccons}
use Rattle.spec_rules.specs.Hoisting.{Fallback, Case, how_many, nodes_in, nodes_in_of}
use Rattle.spec_accepted.specs.SheetFacts.{Typed}
use Rattle.spec_hoist.specs.Trees.{is_present}
use Rattle.spec_match.specs.ColumnTypes.{retyped}
use Rattle.spec_forgotten.specs.Values.{Value, shows, length_of, of_type, Passed}
use Rattle.spec_forgotten.specs.Forgetting.{NoHollow}
use Rattle.spec_forgotten.specs.Choosing.{Chosen, by_test, by_length, Node, node_of}
use Rattle.spec_forgotten.specs.ReachingLaws.{no_node_there}
use Rattle.spec_forgotten.specs.NodesFit.{NodeFits}
use Rattle.spec_forgotten.specs.FallingLaws.{Tested, Child, child, Rest, rest, Goes, goes_hoist, goes_out, goes_case, goes_on, node_tested, hoist_tested}
use Rattle.spec_forgotten.specs.Shapes.{shape_of, choose_in, branch_is, possible}
use Rattle.spec_forgotten.specs.ShapesLaws.{taken_possible}
use Rattle.spec_forgotten.proofs.ShapesLaws.{possible_taken}
use Rattle.spec_forgotten.specs.Search.{Came, onward, if_so, reach, reach_in, path_of, lacks_default, falls_out}
use Rattle.spec_forgotten.specs.ChildrenLaws.{CaseOf, case_within, ChildOf, one_child, chosen_child, node_chooses, node_path, child_within, default_within}

pub no_came : (c : Came) → ◌≡◌ {A = Option Came} none (some c) → ⊥
no_came c e = let z : ◌≡◌ {A = ℕ} 0 1 = cc in absurd (omega arith)

pub not_itself : (k n : ℕ) → k < n → eqb n k ≡ false
not_itself k n l = go (eqb n k) refl
  where
    go : (b : Bool) → eqb n k ≡ b → eqb n k ≡ false
    go true e = let x = eqb-true n k e in absurd (omega arith)
    go false e = e

module _ (s : List ℕ) where
  abbrev came_by : Chosen → (Path → ℕ) → Path → ℕ → ℕ → Option Came
  came_by d types p k n = onward k (Case d.index) (reach d.tree s (retyped s types p d.test) d.node n)

  -- ---- in the cases of a switch
  record ByCase (types : Path → ℕ) (p : Path) (can : ℕ → Bool) (k i j : ℕ) (cs : Cases) (n : ℕ) (c : Came) : Type 0 where
    chosen : Chosen
    is : CaseOf i j cs chosen
    can_take : can (Case chosen.index) ≡ true
    onto : came_by chosen types p k n ≡ some c

  in_cases : (types : Path → ℕ) (p : Path) (can : ℕ → Bool) (k n : ℕ) (otherwise : Unit {0} → Option Came) (c : Came) (cs : Cases) (i j : ℕ)
      → reach_in cs s types p can k i j n otherwise ≡ some c → ByCase types p can k i j cs n c ⊎ (otherwise tt ≡ some c)
  unfolding reach_in CaseOf
  in_cases types p can k n otherwise c cnil i j e = inr e
  in_cases types p can k n otherwise c (ccons u at a cs) i j e = go (ltb n (j + nodes_in a)) e (in_cases types p can k n otherwise c cs (i + 1) (j + nodes_in a))
    where
      taken : (b : Bool) → can (Case i) ≡ b → if_so b (λ on. onward k (Case i) (reach a s (retyped s types p u) j n)) (λ no. none) ≡ some c
          → ByCase types p can k i j (ccons u at a cs) n c
      taken true x h = record { chosen = record { test = u; index = i; node = j; tree = a }; is = inl refl; can_take = x; onto = unfold if_so in h }
      taken false x h = absurd (no_came c (unfold if_so in h))

      on : ByCase types p can k (i + 1) (j + nodes_in a) cs n c ⊎ (otherwise tt ≡ some c) → ByCase types p can k i j (ccons u at a cs) n c ⊎ (otherwise tt ≡ some c)
      on (inl r) = inl (record { chosen = r.chosen; is = inr r.is; can_take = r.can_take; onto = r.onto })
      on (inr h) = inr h

      go : (b : Bool)
          → if_so b (λ here. if_so (can (Case i)) (λ on. onward k (Case i) (reach a s (retyped s types p u) j n)) (λ no. none)) (λ later. reach_in cs s types p can k (i + 1) (j + nodes_in a) n otherwise) ≡ some c
          → (reach_in cs s types p can k (i + 1) (j + nodes_in a) n otherwise ≡ some c → ByCase types p can k (i + 1) (j + nodes_in a) cs n c ⊎ (otherwise tt ≡ some c))
          → ByCase types p can k i j (ccons u at a cs) n c ⊎ (otherwise tt ≡ some c)
      go true h ih = inl (taken (can (Case i)) refl (unfold if_so in h))
      go false h ih = on (ih (unfold if_so in h))

  -- a node in a case's range is sought there; one past the cases is sought further on
  in_case : (types : Path → ℕ) (p : Path) (can : ℕ → Bool) (k n : ℕ) (otherwise : Unit {0} → Option Came) (c : Chosen) → c.node ≤ n → n < c.node + nodes_in c.tree
      → (cs : Cases) (i j : ℕ) → CaseOf i j cs c → reach_in cs s types p can k i j n otherwise ≡ if_so (can (Case c.index)) (λ on. came_by c types p k n) (λ no. none)
  unfolding reach_in CaseOf
  in_case types p can k n otherwise c l m cnil i j h = absurd h
  in_case types p can k n otherwise c l m (ccons u at a cs) i j (inl e) = unfold if_so in (rw (lt-ltb n (j + nodes_in a) below, e))
    where
      below : n < j + nodes_in a
      below = rw e at m
  in_case types p can k n otherwise c l m (ccons u at a cs) i j (inr h) =
      unfold if_so in (rw (le-ltb n (j + nodes_in a) (omega (arith, l, (case_within (i + 1) (j + nodes_in a) cs c h).node_from))) (in_case types p can k n otherwise c l m cs (i + 1) (j + nodes_in a) h))

  past_cases : (types : Path → ℕ) (p : Path) (can : ℕ → Bool) (k n : ℕ) (otherwise : Unit {0} → Option Came) (cs : Cases) (i j : ℕ) → j + nodes_in_of cs ≤ n
      → reach_in cs s types p can k i j n otherwise ≡ otherwise tt
  unfolding reach_in nodes_in
  past_cases types p can k n otherwise cnil i j l = refl
  past_cases types p can k n otherwise (ccons u at a cs) i j l =
      unfold if_so in (rw (le-ltb n (j + nodes_in a) (omega arith)) (past_cases types p can k n otherwise cs (i + 1) (j + nodes_in a) (omega arith)))

  -- ---- at a node
  pub data ReachedAt (types : Path → ℕ) (k : ℕ) (a : Tree) (w : Node) (n : ℕ) (c : Came) : Type 0 where
    here : n ≡ k → record { types = types; tree = a; way = [] } ≡ c → ReachedAt types k a w n c
    by_child : (d : Chosen) → ChildOf k a d → possible s (types w.path) k a (Case d.index) ≡ true → came_by d types w.path k n ≡ some c → ReachedAt types k a w n c
    by_default : possible s (types w.path) k a Fallback ≡ true → onward k Fallback (reach w.default s types w.next n) ≡ some c → ReachedAt types k a w n c

  module _ (types : Path → ℕ) (k n : ℕ) (c : Came) where
    default_at : (a : Tree) (w : Node) (b : Bool) → possible s (types w.path) k a Fallback ≡ b
        → if_so b (λ on. onward k Fallback (reach w.default s types w.next n)) (λ no. none) ≡ some c → ReachedAt types k a w n c
    unfolding if_so
    default_at a w true x h = by_default x h
    default_at a w false x h = absurd (no_came c h)

    switch_at : (p : Path) (cs : Cases) (d : Tree) (w : Node) → node_of k (switch p cs d) ≡ some w → reach (switch p cs d) s types k n ≡ some c → ReachedAt types k (switch p cs d) w n c
    unfolding node_of reach ChildOf
    switch_at p cs d w e h =
        let x : record { path = p; choose = λ t n. by_test k cs t; next = k + 1 + nodes_in_of cs; default = d } ≡ w = cc in
        rw (← x) (go (eqb n k) refl h)
      where
        below : ByCase types p (possible s (types p) k (switch p cs d)) k 0 (k + 1) cs n c
            ⊎ (if_so (possible s (types p) k (switch p cs d) Fallback) (λ on. onward k Fallback (reach d s types (k + 1 + nodes_in_of cs) n)) (λ no. none) ≡ some c)
            → ReachedAt types k (switch p cs d) (record { path = p; choose = λ t n. by_test k cs t; next = k + 1 + nodes_in_of cs; default = d }) n c
        below (inl r) = by_child r.chosen r.is r.can_take r.onto
        below (inr q) =
            default_at (switch p cs d) (record { path = p; choose = λ t n. by_test k cs t; next = k + 1 + nodes_in_of cs; default = d }) (possible s (types p) k (switch p cs d) Fallback) refl q

        go : (b : Bool) → eqb n k ≡ b
            → if_so b (λ here. some (record { types = types; tree = switch p cs d; way = [] }))
            (λ below. reach_in cs s types p (possible s (types p) k (switch p cs d)) k 0 (k + 1) n
            (λ else. if_so (possible s (types p) k (switch p cs d) Fallback) (λ on. onward k Fallback (reach d s types (k + 1 + nodes_in_of cs) n)) (λ no. none))) ≡ some c
            → ReachedAt types k (switch p cs d) (record { path = p; choose = λ t n. by_test k cs t; next = k + 1 + nodes_in_of cs; default = d }) n c
        go true y q =
            let z : ◌≡◌ {A = Option Came} (some (record { types = types; tree = switch p cs d; way = [] })) (some c) = unfold if_so in q in
            let same : record { types = types; tree = switch p cs d; way = [] } ≡ c = cc in
            here (eqb-true n k y) same
        go false y q =
            below (in_cases types p (possible s (types p) k (switch p cs d)) k n
            (λ else. if_so (possible s (types p) k (switch p cs d) Fallback) (λ on. onward k Fallback (reach d s types (k + 1 + nodes_in_of cs) n)) (λ no. none)) c cs 0 (k + 1)
            (unfold if_so in q))

    list_at : (p : Path) (cs ts : Cases) (d : Tree) (w : Node) → node_of k (listswitch p cs ts d) ≡ some w → reach (listswitch p cs ts d) s types k n ≡ some c
        → ReachedAt types k (listswitch p cs ts d) w n c
    unfolding node_of reach ChildOf
    list_at p cs ts d w e h =
        let x : record { path = p; choose = λ t n. by_length k cs ts n; next = k + 1 + nodes_in_of cs + nodes_in_of ts; default = d } ≡ w = cc in
        rw (← x) (go (eqb n k) refl h)
      where
        tails : ByCase types p (possible s (types p) k (listswitch p cs ts d)) k (how_many cs) (k + 1 + nodes_in_of cs) ts n c
            ⊎ (if_so (possible s (types p) k (listswitch p cs ts d) Fallback) (λ on. onward k Fallback (reach d s types (k + 1 + nodes_in_of cs + nodes_in_of ts) n)) (λ no. none) ≡ some c)
            → ReachedAt types k (listswitch p cs ts d) (record { path = p; choose = λ t n. by_length k cs ts n; next = k + 1 + nodes_in_of cs + nodes_in_of ts; default = d }) n c
        tails (inl r) = by_child r.chosen (inr r.is) r.can_take r.onto
        tails (inr q) =
            default_at (listswitch p cs ts d) (record { path = p; choose = λ t n. by_length k cs ts n; next = k + 1 + nodes_in_of cs + nodes_in_of ts; default = d })
            (possible s (types p) k (listswitch p cs ts d) Fallback) refl q

        below : ByCase types p (possible s (types p) k (listswitch p cs ts d)) k 0 (k + 1) cs n c
            ⊎ (reach_in ts s types p (possible s (types p) k (listswitch p cs ts d)) k (how_many cs) (k + 1 + nodes_in_of cs) n
            (λ else. if_so (possible s (types p) k (listswitch p cs ts d) Fallback) (λ on. onward k Fallback (reach d s types (k + 1 + nodes_in_of cs + nodes_in_of ts) n)) (λ no. none)) ≡ some c)
            → ReachedAt types k (listswitch p cs ts d) (record { path = p; choose = λ t n. by_length k cs ts n; next = k + 1 + nodes_in_of cs + nodes_in_of ts; default = d }) n c
        below (inl r) = by_child r.chosen (inl r.is) r.can_take r.onto
        below (inr q) =
            tails (in_cases types p (possible s (types p) k (listswitch p cs ts d)) k n
            (λ else. if_so (possible s (types p) k (listswitch p cs ts d) Fallback) (λ on. onward k Fallback (reach d s types (k + 1 + nodes_in_of cs + nodes_in_of ts) n)) (λ no. none)) c
            ts (how_many cs) (k + 1 + nodes_in_of cs) q)

        go : (b : Bool) → eqb n k ≡ b
            → if_so b (λ here. some (record { types = types; tree = listswitch p cs ts d; way = [] }))
            (λ below. reach_in cs s types p (possible s (types p) k (listswitch p cs ts d)) k 0 (k + 1) n
            (λ tails. reach_in ts s types p (possible s (types p) k (listswitch p cs ts d)) k (how_many cs) (k + 1 + nodes_in_of cs) n
            (λ else. if_so (possible s (types p) k (listswitch p cs ts d) Fallback) (λ on. onward k Fallback (reach d s types (k + 1 + nodes_in_of cs + nodes_in_of ts) n)) (λ no. none)))) ≡ some c
            → ReachedAt types k (listswitch p cs ts d) (record { path = p; choose = λ t n. by_length k cs ts n; next = k + 1 + nodes_in_of cs + nodes_in_of ts; default = d }) n c
        go true y q =
            let z : ◌≡◌ {A = Option Came} (some (record { types = types; tree = listswitch p cs ts d; way = [] })) (some c) = unfold if_so in q in
            let same : record { types = types; tree = listswitch p cs ts d; way = [] } ≡ c = cc in
            here (eqb-true n k y) same
        go false y q =
            below (in_cases types p (possible s (types p) k (listswitch p cs ts d)) k n
            (λ tails. reach_in ts s types p (possible s (types p) k (listswitch p cs ts d)) k (how_many cs) (k + 1 + nodes_in_of cs) n
            (λ else. if_so (possible s (types p) k (listswitch p cs ts d) Fallback) (λ on. onward k Fallback (reach d s types (k + 1 + nodes_in_of cs + nodes_in_of ts) n)) (λ no. none))) c
            cs 0 (k + 1) (unfold if_so in q))

    pub reached_at : (a : Tree) (w : Node) → node_of k a ≡ some w → reach a s types k n ≡ some c → ReachedAt types k a w n c
    reached_at absent w e h = absurd (no_node_there w (unfold node_of in e))
    reached_at (leaf d bs) w e h = absurd (no_node_there w (unfold node_of in e))
    reached_at (hoist d bs a) w e h = absurd (no_node_there w (unfold node_of in e))
    reached_at (switch p cs d) w e h = switch_at p cs d w e h
    reached_at (listswitch p cs ts d) w e h = list_at p cs ts d w e h

  -- ---- and the other way
  module _ (types : Path → ℕ) (k : ℕ) where
    pub reach_here : (a : Tree) (w : Node) → node_of k a ≡ some w → reach a s types k k ≡ some (record { types = types; tree = a; way = [] })
    unfolding node_of reach
    reach_here absent w e = absurd (no_node_there w e)
    reach_here (leaf d bs) w e = absurd (no_node_there w e)
    reach_here (hoist d bs a) w e = absurd (no_node_there w e)
    reach_here (switch p cs d) w e = unfold if_so in (rw (eq-eqb k k refl))
    reach_here (listswitch p cs ts d) w e = unfold if_so in (rw (eq-eqb k k refl))

    pub reach_child : (a : Tree) (w : Node) → node_of k a ≡ some w → (n : ℕ) (c : Chosen) → ChildOf k a c → c.node ≤ n → n < c.node + nodes_in c.tree
        → reach a s types k n ≡ if_so (possible s (types w.path) k a (Case c.index)) (λ on. came_by c types w.path k n) (λ no. none)
    unfolding node_of reach ChildOf
    reach_child absent w e n c h l m = absurd h
    reach_child (leaf d bs) w e n c h l m = absurd h
    reach_child (hoist d bs a) w e n c h l m = absurd h
    reach_child (switch p cs d) w e n c h l m =
        let path : p ≡ w.path = cc in
        rw (← path, not_itself k n (omega (arith, (case_within 0 (k + 1) cs c h).node_from)))
        (unfold if_so in (in_case types p (possible s (types p) k (switch p cs d)) k n
        (λ else. if_so (possible s (types p) k (switch p cs d) Fallback) (λ on. onward k Fallback (reach d s types (k + 1 + nodes_in_of cs) n)) (λ no. none)) c l m cs 0 (k + 1) h))
    reach_child (listswitch p cs ts d) w e n c (inl h) l m =
        let path : p ≡ w.path = cc in
        rw (← path, not_itself k n (omega (arith, (case_within 0 (k + 1) cs c h).node_from)))
        (unfold if_so in (in_case types p (possible s (types p) k (listswitch p cs ts d)) k n
        (λ tails. reach_in ts s types p (possible s (types p) k (listswitch p cs ts d)) k (how_many cs) (k + 1 + nodes_in_of cs) n
        (λ else. if_so (possible s (types p) k (listswitch p cs ts d) Fallback) (λ on. onward k Fallback (reach d s types (k + 1 + nodes_in_of cs + nodes_in_of ts) n)) (λ no. none))) c l m cs 0 (k + 1) h))
    reach_child (listswitch p cs ts d) w e n c (inr h) l m =
        let path : p ≡ w.path = cc in
        let r = case_within (how_many cs) (k + 1 + nodes_in_of cs) ts c h in
        rw (← path, not_itself k n (omega (arith, r.node_from)))
        (unfold if_so in (past_cases types p (possible s (types p) k (listswitch p cs ts d)) k n
        (λ tails. reach_in ts s types p (possible s (types p) k (listswitch p cs ts d)) k (how_many cs) (k + 1 + nodes_in_of cs) n
        (λ else. if_so (possible s (types p) k (listswitch p cs ts d) Fallback) (λ on. onward k Fallback (reach d s types (k + 1 + nodes_in_of cs + nodes_in_of ts) n)) (λ no. none))) cs 0 (k + 1)
        (omega (arith, l, r.node_from))
        ∙ in_case types p (possible s (types p) k (listswitch p cs ts d)) k n
        (λ else. if_so (possible s (types p) k (listswitch p cs ts d) Fallback) (λ on. onward k Fallback (reach d s types (k + 1 + nodes_in_of cs + nodes_in_of ts) n)) (λ no. none)) c l m ts
        (how_many cs) (k + 1 + nodes_in_of cs) h))

    pub reach_default : (a : Tree) (w : Node) → node_of k a ≡ some w → (n : ℕ) → w.next ≤ n
        → reach a s types k n ≡ if_so (possible s (types w.path) k a Fallback) (λ on. onward k Fallback (reach w.default s types w.next n)) (λ no. none)
    unfolding node_of reach
    reach_default absent w e n l = absurd (no_node_there w e)
    reach_default (leaf d bs) w e n l = absurd (no_node_there w e)
    reach_default (hoist d bs a) w e n l = absurd (no_node_there w e)
    reach_default (switch p cs d) w e n l =
        let x : record { path = p; choose = λ t n. by_test k cs t; next = k + 1 + nodes_in_of cs; default = d } ≡ w = cc in
        let next : k + 1 + nodes_in_of cs ≡ w.next = cc in
        rw (← x, not_itself k n (omega (arith, next, l)))
        (unfold if_so in (past_cases types p (possible s (types p) k (switch p cs d)) k n
        (λ else. if_so (possible s (types p) k (switch p cs d) Fallback) (λ on. onward k Fallback (reach d s types (k + 1 + nodes_in_of cs) n)) (λ no. none)) cs 0 (k + 1) (omega (arith, next, l))))
    reach_default (listswitch p cs ts d) w e n l =
        let x : record { path = p; choose = λ t n. by_length k cs ts n; next = k + 1 + nodes_in_of cs + nodes_in_of ts; default = d } ≡ w = cc in
        let next : k + 1 + nodes_in_of cs + nodes_in_of ts ≡ w.next = cc in
        rw (← x, not_itself k n (omega (arith, next, l)))
        (unfold if_so in (past_cases types p (possible s (types p) k (listswitch p cs ts d)) k n
        (λ tails. reach_in ts s types p (possible s (types p) k (listswitch p cs ts d)) k (how_many cs) (k + 1 + nodes_in_of cs) n
        (λ else. if_so (possible s (types p) k (listswitch p cs ts d) Fallback) (λ on. onward k Fallback (reach d s types (k + 1 + nodes_in_of cs + nodes_in_of ts) n)) (λ no. none))) cs 0 (k + 1)
        (omega (arith, next, l))
        ∙ past_cases types p (possible s (types p) k (listswitch p cs ts d)) k n
        (λ else. if_so (possible s (types p) k (listswitch p cs ts d) Fallback) (λ on. onward k Fallback (reach d s types (k + 1 + nodes_in_of cs + nodes_in_of ts) n)) (λ no. none)) ts
        (how_many cs) (k + 1 + nodes_in_of cs) (omega (arith, next, l))))

  -- ---- the branch that a shape takes
  branch_case : (o : Option (Option Chosen)) (i : ℕ) → branch_is o (Case i) ≡ true → (c : Chosen) × (o ≡ some (some c)) × (c.index ≡ i)
  unfolding branch_is
  branch_case none i h = absurd (false≢true h)
  branch_case (some none) i h = let z = eqb-true (suc i) 0 h in absurd (omega arith)
  branch_case (some (some c)) i h = let z = eqb-true (suc i) (suc c.index) h in (c, refl, omega (arith, z))

  branch_default : (o : Option (Option Chosen)) → branch_is o Fallback ≡ true → o ≡ some none
  unfolding branch_is
  branch_default none h = absurd (false≢true h)
  branch_default (some none) h = refl
  branch_default (some (some c)) h = let z = eqb-true 0 (suc c.index) h in absurd (omega arith)

  is_case : (o : Option (Option Chosen)) (c : Chosen) → o ≡ some (some c) → branch_is o (Case c.index) ≡ true
  unfolding branch_is
  is_case o c e = rw e (eq-eqb (suc c.index) (suc c.index) refl)

  is_default : (o : Option (Option Chosen)) → o ≡ some none → branch_is o Fallback ≡ true
  unfolding branch_is
  is_default o e = rw e

  -- ---- a default that is missing
  absent_lacks : (d : Tree) → d ≡ absent → not (is_present d) ≡ true
  unfolding is_present
  absent_lacks d e = rw e

  lacks_absent : (d : Tree) → not (is_present d) ≡ true → d ≡ absent
  unfolding is_present
  lacks_absent absent h = refl
  lacks_absent (leaf c bs) h = absurd (false≢true h)
  lacks_absent (hoist c bs a) h = absurd (false≢true h)
  lacks_absent (switch p cs d) h = absurd (false≢true h)
  lacks_absent (listswitch p cs ts d) h = absurd (false≢true h)

  node_lacks : (k : ℕ) (a : Tree) (w : Node) → node_of k a ≡ some w → lacks_default a ≡ not (is_present w.default)
  unfolding node_of lacks_default
  node_lacks k absent w e = absurd (no_node_there w e)
  node_lacks k (leaf c bs) w e = absurd (no_node_there w e)
  node_lacks k (hoist c bs a) w e = absurd (no_node_there w e)
  node_lacks k (switch p cs d) w e = let z : d ≡ w.default = cc in ap (λ b. not (is_present b)) z
  node_lacks k (listswitch p cs ts d) w e = let z : d ≡ w.default = cc in ap (λ b. not (is_present b)) z

  pub onward_some : (k b : ℕ) (o : Option Came) (c : Came) → onward k b o ≡ some c
      → (d : Came) × (o ≡ some d) × (c ≡ record { types = d.types; tree = d.tree; way = record { node = k; branch = b } ∷ d.way })
  unfolding onward
  onward_some k b none c e = absurd (no_came c e)
  onward_some k b (some d) c e =
      let z : record { types = d.types; tree = d.tree; way = record { node = k; branch = b } ∷ d.way } ≡ c = cc in
      (d, refl, sym z)

  -- ---- what a tested tree has below a node
  child_tested : (less : ℕ) (types : Path → ℕ) (ps : List Path) (w : Node) (c : Chosen) → Child s (retyped s) less types ps w c
      → (zs : List Path) × Tested s (retyped s) less (retyped s types w.path c.test) zs c.node c.tree
  child_tested less types ps w c (child d2 t2 ps2 w2 c2 zs o h) = (zs, h)

  rest_tested : (less : ℕ) (types : Path → ℕ) (ps : List Path) (w : Node) → Rest s (retyped s) less types ps w → (zs : List Path) × Tested s (retyped s) less types zs w.next w.default
  rest_tested less types ps w (rest d2 t2 ps2 w2 zs o h only) = (zs, h)

  -- ---- every switch that some value falls out of is reached, and falls out
  pub record Finds (types : Path → ℕ) (k : ℕ) (a : Tree) (n : ℕ) (ts : List Passed) : Type 0 where
    pub came : Came
    pub reached : reach a s types k n ≡ some came
    pub way : came.way ≡ ts
    pub falls : falls_out s n (some came) ≡ true
    pub from : k ≤ n
    pub to : n < k + nodes_in a

  finds_hoist : (types : Path → ℕ) (k c : ℕ) (bs : List Binding) (a : Tree) (n : ℕ) (ts : List Passed) → Finds types (k + 1) a n ts → Finds types k (hoist c bs a) n ts
  unfolding reach nodes_in
  finds_hoist types k c bs a n ts r =
      record { came = r.came; reached = rw (not_itself k n (omega (arith, r.from))) (unfold if_so in r.reached); way = r.way; falls = r.falls; from = omega (arith, r.from); to = omega (arith, r.to) }

  finds_out : (types : Path → ℕ) (k : ℕ) (a : Tree) (w : Node) → node_of k a ≡ some w → NodeFits s (types w.path) a → (x : Value) → of_type s (types w.path) x ≡ true
      → w.choose (shows x) (length_of x) ≡ some none → w.default ≡ absent → Finds types k a k []
  unfolding falls_out
  finds_out types k a w e f x tx ch ab =
      let (l, m) = default_within k a w e in
      record {
        came = record { types = types; tree = a; way = [] };
        reached = reach_here types k a w e;
        way = refl;
        falls = both_make (lacks_default a) (possible s (types (path_of a)) k a Fallback) (node_lacks k a w e ∙ absent_lacks w.default ab)
            (rw (← node_path k a w e) (taken_possible s (types w.path) k a Fallback f x tx (is_default (choose_in k a (shape_of x)) (sym (node_chooses k a w e x) ∙ ch))));
        from = omega arith;
        to = omega (arith, l, m);
      }

  finds_case : (types : Path → ℕ) (k : ℕ) (a : Tree) (w : Node) → node_of k a ≡ some w → NodeFits s (types w.path) a → (x : Value) → of_type s (types w.path) x ≡ true
      → (c : Chosen) → w.choose (shows x) (length_of x) ≡ some (some c) → (n : ℕ) (ts : List Passed) → Finds (retyped s types w.path c.test) c.node c.tree n ts
      → Finds types k a n (record { node = k; branch = Case c.index } ∷ ts)
  unfolding falls_out onward if_so
  finds_case types k a w e f x tx c ch n ts r =
      let chosen : choose_in k a (shape_of x) ≡ some (some c) = sym (node_chooses k a w e x) ∙ ch in
      let is = chosen_child k a (shape_of x) c chosen in
      let can = taken_possible s (types w.path) k a (Case c.index) f x tx (is_case (choose_in k a (shape_of x)) c chosen) in
      let (l, m) = default_within k a w e in
      let (p, q) = child_within k a w e c is in
      record {
        came = record { types = r.came.types; tree = r.came.tree; way = record { node = k; branch = Case c.index } ∷ r.came.way };
        reached = reach_child types k a w e n c is r.from r.to
            ∙ ap (λ b. if_so b (λ on. came_by c types w.path k n) (λ no. none)) can
            ∙ ap (onward k (Case c.index)) r.reached;
        way = ap (λ us. record { node = k; branch = Case c.index } ∷ us) r.way;
        falls = r.falls;
        from = omega (arith, p, r.from);
        to = omega (arith, q, m, r.to);
      }

  finds_on : (types : Path → ℕ) (k : ℕ) (a : Tree) (w : Node) → node_of k a ≡ some w → NodeFits s (types w.path) a → (x : Value) → of_type s (types w.path) x ≡ true
      → w.choose (shows x) (length_of x) ≡ some none → (n : ℕ) (ts : List Passed) → Finds types w.next w.default n ts
      → Finds types k a n (record { node = k; branch = Fallback } ∷ ts)
  unfolding falls_out onward if_so
  finds_on types k a w e f x tx ch n ts r =
      let chosen : choose_in k a (shape_of x) ≡ some none = sym (node_chooses k a w e x) ∙ ch in
      let can = taken_possible s (types w.path) k a Fallback f x tx (is_default (choose_in k a (shape_of x)) chosen) in
      let (l, m) = default_within k a w e in
      record {
        came = record { types = r.came.types; tree = r.came.tree; way = record { node = k; branch = Fallback } ∷ r.came.way };
        reached = reach_default types k a w e n r.from
            ∙ ap (λ b. if_so b (λ on. onward k Fallback (reach w.default s types w.next n)) (λ no. none)) can
            ∙ ap (onward k Fallback) r.reached;
        way = ap (λ us. record { node = k; branch = Fallback } ∷ us) r.way;
        falls = r.falls;
        from = omega (arith, l, r.from);
        to = omega (arith, m, r.to);
      }

  pub goes_reached : (types : Path → ℕ) (k : ℕ) (a : Tree) (n : ℕ) (ts : List Passed) → Goes s (retyped s) types k a n ts → (deep : ℕ) (ps : List Path) → Tested s (retyped s) deep types ps k a
      → Finds types k a n ts
  goes_reached types k a n ts (goes_hoist t1 k1 c bs b n1 ts1 g) deep ps h =
      let (less, l) = hoist_tested s (retyped s) deep types ps k c bs b (hoist c bs b) refl h in
      finds_hoist types k c bs b n ts (goes_reached types (k + 1) b n ts g less ps l)
  goes_reached types k a n ts (goes_out t1 k1 a1 w e x tx ch ab) deep ps h =
      finds_out types k a w e (node_tested s (retyped s) deep types ps k a w e h).fits x tx ch ab
  goes_reached types k a n ts (goes_case t1 k1 a1 w e x tx c ch n1 ts1 g) deep ps h =
      let d = node_tested s (retyped s) deep types ps k a w e h in
      let (zs, l) = child_tested d.less types ps w c (d.children c x tx ch) in
      finds_case types k a w e d.fits x tx c ch n ts1 (goes_reached (retyped s types w.path c.test) c.node c.tree n ts1 g d.less zs l)
  goes_reached types k a n ts (goes_on t1 k1 a1 w e x tx ch n1 ts1 g) deep ps h =
      let d = node_tested s (retyped s) deep types ps k a w e h in
      let (zs, l) = rest_tested d.less types ps w d.others in
      finds_on types k a w e d.fits x tx ch n ts1 (goes_reached types w.next w.default n ts1 g d.less zs l)

  -- ---- a reached switch that falls out is one that some value falls out of
  module _ (ty : Typed s) (filled : NoHollow s) where
    abbrev ReachGoes : Tree → Type 0
    ReachGoes a = (types : Path → ℕ) (k deep : ℕ) (ps : List Path) → Tested s (retyped s) deep types ps k a → (n : ℕ) (c : Came) → reach a s types k n ≡ some c → falls_out s n (some c) ≡ true
        → Goes s (retyped s) types k a n c.way

    take_default : (t k : ℕ) (a : Tree) (w : Node) → node_of k a ≡ some w → NodeFits s t a → possible s t k a Fallback ≡ true
        → (x : Value) × (of_type s t x ≡ true) × (w.choose (shows x) (length_of x) ≡ some none)
    take_default t k a w e f h =
        let (x, tx, b) = possible_taken s ty filled t k a Fallback f h in
        (x, tx, node_chooses k a w e x ∙ branch_default (choose_in k a (shape_of x)) b)

    take_child : (t k : ℕ) (a : Tree) (w : Node) → node_of k a ≡ some w → NodeFits s t a → (d : Chosen) → ChildOf k a d → possible s t k a (Case d.index) ≡ true
        → (x : Value) × (of_type s t x ≡ true) × (w.choose (shows x) (length_of x) ≡ some (some d))
    take_child t k a w e f d is h =
        let (x, tx, b) = possible_taken s ty filled t k a (Case d.index) f h in
        let (c, o, i) = branch_case (choose_in k a (shape_of x)) d.index b in
        (x, tx, node_chooses k a w e x ∙ o ∙ ap (λ z. some (some z)) (one_child k a c d (chosen_child k a (shape_of x) c o) is i))

    node_goes : (types : Path → ℕ) (k deep : ℕ) (ps : List Path) (a : Tree) (w : Node) → node_of k a ≡ some w → ((d : Chosen) → ChildOf k a d → ReachGoes d.tree) → ReachGoes w.default
        → Tested s (retyped s) deep types ps k a → (n : ℕ) (c : Came) → ReachedAt types k a w n c → falls_out s n (some c) ≡ true → Goes s (retyped s) types k a n c.way
    unfolding falls_out
    node_goes types k deep ps a w e ih ihd h n c (here m same) f =
        let t = node_tested s (retyped s) deep types ps k a w e h in
        let g : both (lacks_default a) (possible s (types (path_of a)) k a Fallback) ≡ true = rw (← same, m) at f in
        let (l, q) = both_true (lacks_default a) (possible s (types (path_of a)) k a Fallback) g in
        let (x, tx, ch) = take_default (types w.path) k a w e t.fits (rw (node_path k a w e) q) in
        rw (m, ← same) (goes_out types k a w e x tx ch (lacks_absent w.default (sym (node_lacks k a w e) ∙ l)))
    node_goes types k deep ps a w e ih ihd h n c (by_child d is can onto) f =
        let t = node_tested s (retyped s) deep types ps k a w e h in
        let (x, tx, ch) = take_child (types w.path) k a w e t.fits d is can in
        let (zs, l) = child_tested t.less types ps w d (t.children d x tx ch) in
        let (came, r, same) = onward_some k (Case d.index) (reach d.tree s (retyped s types w.path d.test) d.node n) c onto in
        rw same (goes_case types k a w e x tx d ch n came.way (ih d is (retyped s types w.path d.test) d.node t.less zs l n came r (rw same at f)))
    node_goes types k deep ps a w e ih ihd h n c (by_default can onto) f =
        let t = node_tested s (retyped s) deep types ps k a w e h in
        let (x, tx, ch) = take_default (types w.path) k a w e t.fits can in
        let (zs, l) = rest_tested t.less types ps w t.others in
        let (came, r, same) = onward_some k Fallback (reach w.default s types w.next n) c onto in
        rw same (goes_on types k a w e x tx ch n came.way (ihd types w.next t.less zs l n came r (rw same at f)))

    -- no value falls out of a leaf or of a hoist
    leaf_falls : (types : Path → ℕ) (k n : ℕ) (c : Came) (d : ℕ) (bs : List Binding) → reach (leaf d bs) s types k n ≡ some c → falls_out s n (some c) ≡ true → ⊥
    unfolding reach falls_out lacks_default
    leaf_falls types k n c d bs e f = go (eqb n k) e
      where
        go : (b : Bool) → if_so b (λ here. some (record { types = types; tree = leaf d bs; way = [] })) (λ no. none) ≡ some c → ⊥
        go true q =
            let z : ◌≡◌ {A = Option Came} (some (record { types = types; tree = leaf d bs; way = [] })) (some c) = unfold if_so in q in
            let same : record { types = types; tree = leaf d bs; way = [] } ≡ c = cc in
            false≢true (rw (← same) at f)
        go false q = no_came c (unfold if_so in q)

    below_hoist : (types : Path → ℕ) (k n : ℕ) (c : Came) (d : ℕ) (bs : List Binding) (a : Tree) → reach (hoist d bs a) s types k n ≡ some c → falls_out s n (some c) ≡ true
        → reach a s types (k + 1) n ≡ some c
    unfolding reach falls_out lacks_default
    below_hoist types k n c d bs a e f = go (eqb n k) e
      where
        go : (b : Bool) → if_so b (λ here. some (record { types = types; tree = hoist d bs a; way = [] })) (λ below. reach a s types (k + 1) n) ≡ some c → reach a s types (k + 1) n ≡ some c
        go true q =
            let z : ◌≡◌ {A = Option Came} (some (record { types = types; tree = hoist d bs a; way = [] })) (some c) = unfold if_so in q in
            let same : record { types = types; tree = hoist d bs a; way = [] } ≡ c = cc in
            absurd (false≢true (rw (← same) at f))
        go false q = unfold if_so in q

    mutual
      unfolding reach node_of ChildOf CaseOf

      pub reached_goes : (a : Tree) → ReachGoes a
      reached_goes absent types k deep ps h n c e f = absurd (no_came c e)
      reached_goes (leaf d bs) types k deep ps h n c e f = absurd (leaf_falls types k n c d bs e f)
      reached_goes (hoist d bs a) types k deep ps h n c e f =
          let (less, l) = hoist_tested s (retyped s) deep types ps k d bs a (hoist d bs a) refl h in
          goes_hoist types k d bs a n c.way (reached_goes a types (k + 1) less ps l n c (below_hoist types k n c d bs a e f) f)
      reached_goes (switch p cs d) types k deep ps h n c e f =
          node_goes types k deep ps (switch p cs d) (record { path = p; choose = λ t n. by_test k cs t; next = k + 1 + nodes_in_of cs; default = d }) refl
          (λ x is t1 k1 d1 ps1 h1 n1 c1 e1 f1. each_goes cs 0 (k + 1) x is t1 k1 d1 ps1 h1 n1 c1 e1 f1) (λ t1 k1 d1 ps1 h1 n1 c1 e1 f1. reached_goes d t1 k1 d1 ps1 h1 n1 c1 e1 f1) h n c
          (reached_at types k n c (switch p cs d) (record { path = p; choose = λ t n. by_test k cs t; next = k + 1 + nodes_in_of cs; default = d }) refl e) f
      reached_goes (listswitch p cs ts d) types k deep ps h n c e f =
          node_goes types k deep ps (listswitch p cs ts d) (record { path = p; choose = λ t n. by_length k cs ts n; next = k + 1 + nodes_in_of cs + nodes_in_of ts; default = d }) refl
          (λ x is. ⊎_elim (λ y t1 k1 d1 ps1 h1 n1 c1 e1 f1. each_goes cs 0 (k + 1) x y t1 k1 d1 ps1 h1 n1 c1 e1 f1)
          (λ y t1 k1 d1 ps1 h1 n1 c1 e1 f1. each_goes ts (how_many cs) (k + 1 + nodes_in_of cs) x y t1 k1 d1 ps1 h1 n1 c1 e1 f1) is) (λ t1 k1 d1 ps1 h1 n1 c1 e1 f1. reached_goes d t1 k1 d1 ps1 h1 n1 c1 e1 f1) h n c
          (reached_at types k n c (listswitch p cs ts d) (record { path = p; choose = λ t n. by_length k cs ts n; next = k + 1 + nodes_in_of cs + nodes_in_of ts; default = d }) refl e) f

      each_goes : (cs : Cases) (i j : ℕ) (d : Chosen) → CaseOf i j cs d → ReachGoes d.tree
      each_goes cnil i j d h = absurd h
      each_goes (ccons u at a cs) i j d h = ⊎_elim (λ e. rw e (λ t1 k1 d1 ps1 h1 n1 c1 e1 f1. reached_goes a t1 k1 d1 ps1 h1 n1 c1 e1 f1)) (λ y t1 k1 d1 ps1 h1 n1 c1 e1 f1. each_goes cs (i + 1) (j + nodes_in a) d y t1 k1 d1 ps1 h1 n1 c1 e1 f1) h
