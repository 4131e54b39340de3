-- What is read at a node of a tree in the arena is what the tree says: the marks of its children are those of its subtrees, and the way
-- down goes on in the first child that is marked. Rests on the nodes by number and on the laws of switches.
use Rattle.std.proofs.Math.Path.{◌≡◌, refl, sym, ap, ap₂}
use Rattle.std.proofs.Common.{◌∙◌, subst, inl, inr, eq-eqb, ne_eqb, lt-ltb, le-ltb}
use Rattle.std.specs.Prelude.{◌⊎◌, Bool, true, false, length, eqb, ltb}
use Rattle.std.proofs.Math.Logic.{⊎_elim}
use Rattle.std.proofs.lemmas.Bool.{false≢true}
use mathlib.Core.List.{List, [], ◌++◌}
use Rattle.std.proofs.Math.Option.{Option, some}
use Prim.Native.Nat.{ℕ, zero, suc, ◌+◌, ◌-◌, ◌*◌, ◌≤◌, ◌<◌}
use native.Mathlib.Omega.{arith}
use Rattle.std.proofs.Math.ListN.{get_or}
use Rattle.base_words.specs.Words.{pick}
use Rattle.base_words.specs.WordsLaws.{pick_true, pick_false}
use Rattle.spec_rules.specs.Limits.{clauses_most, case_size}
use Rattle.spec_rules.specs.Kinds.{leaf_node, first_case_word, cases_word, tail_cases_word, default_word, clause_word}
use Rattle.spec_rules.specs.Rows.{bit}
use Rattle.spec_rules.specs.Building.{Tree, Cases, absent, leaf, hoist, switch, listswitch, cnil, ccons}
use Rattle.spec_rules.specs.Hoisting.{how_many, nodes_in, nodes_in_of, bindings_in, has_leaf, has_leaf_of}
use Rattle.spec_rules.specs.TreeFile.{cases_in, own_cases}
use Rattle.spec_file.specs.StandingLaws.{Stands}
use Rattle.spec_file.specs.TreeStandsLaws.{own_rest}
use Rattle.spec_hoist.specs.Trees.{Plain, PlainOf, is_present, WellMade, WellMadeOf}
use Rattle.spec_hoist.specs.Scopes.{later, last_leaf, last_leaf_of}
use Rattle.spec_hoist.specs.Descent.{cases_with, children_with}
use Rattle.build_arena.specs.Arena.{cases_start, node_kind, node_word, case_child}
use Rattle.build_arena.specs.RecordsLaws.{own_first}
use Rattle.build_arena.specs.Numbered.{subtrees, subtrees_of, subtree_at, Within, Each, is_switch, cases_under, default_under, AllThere, HeldAt}
use Rattle.build_arena.specs.NumberedLaws.{length_subtrees, each_append, each_at, within_first, within_inside, first_within, rest_within, leaf_node_lem, cases_within, default_within, switch_shown, case_node, default_node, default_none, default_field_some}
use Rattle.build_scopes.specs.Numbers.{descent, descent_of}
use Rattle.build_scopes.specs.SwitchLaws.{has_leaf_switch, last_leaf_switch, children_with_switch, has_leaf_some, made_cases_there, made_some_case}
use Rattle.build_scopes.specs.NumbersLaws.{other_has, either_turn}
use Rattle.build_scopes.specs.Marks.{ReadyTree, LeafThere, SwitchThere, Marked, LastMarked, SwitchInside, NodeInside, marked_cases, first_marked, marked_default, marked_children, first_child, last_child, node_marked, last_of}

-- ---- subtrees of a plain and well made tree are so
record Good (n : ℕ) (s : Tree) : Type 0 where
  plain : Plain s
  made : WellMade n s
  there : is_present s ≡ true

module _ (n : ℕ) where
  abbrev IsGood : ℕ → Tree → Type 0
  IsGood j s = Good n s

  mutual
    unfolding subtrees Plain WellMade is_present

    each_good : (a : Tree) (k : ℕ) → Plain a → WellMade n a → Each IsGood k (subtrees a)
    each_good absent k pl m = tt
    each_good (leaf c bs) k pl m = (record { plain = tt; made = m; there = refl }, tt)
    each_good (hoist c bs a) k pl m = absurd pl
    each_good (switch p cs d) k pl m = (
      record { plain = pl; made = m; there = refl },
      each_append IsGood (k + 1) (k + 1 + length (subtrees_of cs)) (subtrees_of cs) (subtrees d) refl (each_good_of cs (k + 1) pl.0 m.1)
          (each_good d (k + 1 + length (subtrees_of cs)) pl.1 m.2),
    )
    each_good (listswitch p cs ts d) k pl m =
        let k₂ = k + 1 + length (subtrees_of cs) in
        let k₃ = k₂ + length (subtrees_of ts) in (
          record { plain = pl; made = m; there = refl },
          each_append IsGood (k + 1) k₂ (subtrees_of cs) (subtrees_of ts ++ subtrees d) refl (each_good_of cs (k + 1) pl.0 m.1)
              (each_append IsGood k₂ k₃ (subtrees_of ts) (subtrees d) refl (each_good_of ts k₂ pl.1 m.2) (each_good d k₃ pl.2 m.3)),
        )

    each_good_of : (cs : Cases) (k : ℕ) → PlainOf cs → WellMadeOf n cs → Each IsGood k (subtrees_of cs)
    each_good_of cnil k pl m = tt
    each_good_of (ccons t at a cs) k pl m =
        each_append IsGood k (k + length (subtrees a)) (subtrees a) (subtrees_of cs) refl (each_good a k pl.0 m.1)
        (each_good_of cs (k + length (subtrees a)) pl.1 m.2)

good_at : (n : ℕ) (a : Tree) → Plain a → WellMade n a → (j : ℕ) → j < nodes_in a → Good n (subtree_at a j)
unfolding subtree_at
good_at n a pl m j l = each_at (IsGood n) 0 (subtrees a) (each_good n a 0 pl m) j (omega (arith, length_subtrees a))

-- ---- each node is a leaf or a switch
pub node_there : (w : List ℕ) (a : Tree) → ReadyTree w a → (k : ℕ) → k < nodes_in a → LeafThere w a k ⊎ SwitchThere w a k
unfolding Plain WellMade is_present is_switch
node_there w a r k l = go (subtree_at a k) refl
  where
    good : Good clauses_most (subtree_at a k)
    good = good_at clauses_most a r.plain r.made k l

    switched : is_switch (subtree_at a k) ≡ true → SwitchThere w a k
    switched e =
        record {
          is = e;
          shown = switch_shown w r.table a r.nodes k l e;
          all_there = made_cases_there clauses_most (subtree_at a k) e good.made;
          some_case = made_some_case clauses_most (subtree_at a k) e good.made;
        }

    go : (s : Tree) → subtree_at a k ≡ s → LeafThere w a k ⊎ SwitchThere w a k
    go absent e = absurd (false≢true (sym (ap is_present e) ∙ good.there))
    go (leaf x bs) e =
        let h = leaf_node_lem w r.table (cases_in a) (length (bindings_in a)) k x bs r.nodes.room
        (subst (λ z. HeldAt w r.table (cases_in a) (length (bindings_in a)) k z) e (r.nodes.node k l)) in
        inl (record {
          clause = x;
          bindings = bs;
          is = e;
          kind_is = h.kind_is;
          clause_is = h.clause_is;
          small = subst (WellMade clauses_most) e good.made;
        })
    go (hoist x bs b) e = absurd (subst Plain e good.plain)
    go (switch p cs d) e = inr (switched (ap is_switch e))
    go (listswitch p cs ts d) e = inr (switched (ap is_switch e))

-- ---- what may be read there
module _ (w : List ℕ) (a : Tree) (r : ReadyTree w a) (k : ℕ) (l : k < nodes_in a) where
  switch_inside : (m : ℕ) → nodes_in a ≤ m → SwitchThere w a k → SwitchInside w k m
  switch_inside m most t =
      let s = t.shown in
      let n = r.nodes in
      record {
        node = omega (arith, n.nodes_most_holds);
        cases = record {
          room = n.room;
          inside = omega (arith, s.inside, s.count_is, n.cases_most_holds);
          children = λ j h. omega (arith, (case_node w r.table a n k l t.is j (omega (arith, s.count_is)) t.all_there).inside);
        };
        some_case = omega (arith, s.count_is, t.some_case);
        default = at_most (node_word w k default_word) refl;
      }
    where
      at_most : (d : ℕ) → node_word w k default_word ≡ d → node_word w k default_word ≤ m
      at_most zero e = omega arith
      at_most (suc d) e = omega (arith, (default_node w r.table a r.nodes k l t.is (omega arith)).inside)

  pub node_inside : (m : ℕ) → nodes_in a ≤ m → NodeInside w k m
  node_inside m most =
      record {
        room = r.nodes.room;
        node = omega (arith, r.nodes.nodes_most_holds);
        clause = λ e. ⊎_elim (λ t. omega (arith, t.clause_is, t.small)) (λ t. absurd (omega (arith, t.shown.kind_is))) (node_there w a r k l);
        switch = λ e. ⊎_elim (λ t. absurd (e t.kind_is)) (switch_inside m most) (node_there w a r k l);
      }

-- ---- marks of children
module _ (w : List ℕ) (a : Tree) (c : ℕ) (has : List ℕ) where
  -- the mark of a child that is there
  mark_there : (k from : ℕ) (s : Tree) → from ≤ k → 1 ≤ nodes_in s → Within (subtrees a) k (subtrees s) → Marked a c from has → get_or has k 0 ≡ bit (has_leaf c s)
  unfolding subtree_at
  mark_there k from s f l h m =
      m.mark k f (omega (arith, within_inside (subtrees a) k s h, length_subtrees a)) ∙ ap (λ z. bit (has_leaf c z)) (within_first (subtrees a) k s l h)

  marked_cases_lem : (cs : Cases) (i k from : ℕ) → from ≤ k → Stands w (cases_start + case_size * i) (own_cases k cs) → Within (subtrees a) k (subtrees_of cs) → AllThere cs
      → Marked a c from has → marked_cases w has i (how_many cs) ≡ cases_with c cs
  unfolding marked_cases cases_with how_many subtrees_of AllThere
  marked_cases_lem cnil i k from f own h t m = refl
  marked_cases_lem (ccons u start s cs) i k from f own h t m =
      ap₂ ◌+◌ (ap (λ z. get_or has z 0) (own_first w i k u start s cs own).child_is ∙ mark_there k from s f t.0 (first_within (subtrees a) k s (subtrees_of cs) h) m)
      (marked_cases_lem cs (i + 1) (k + nodes_in s) from (omega arith) (own_rest w cases_start i k u start s cs own) (rest_within (subtrees a) k s (subtrees_of cs) h) t.1 m)

  -- the child n has a leaf of c, and the way down goes on there
  pub record Led (k n : ℕ) (to : (Tree → Bool) → ℕ) : Type 0 where
    pub above : k ≤ n
    pub inside : n < nodes_in a
    pub leaf_there : has_leaf c (subtree_at a n) ≡ true
    pub on : (stop : Tree → Bool) → to stop ≡ descent stop c n (subtree_at a n)

  led_to : (k n : ℕ) (s : Tree) (to : (Tree → Bool) → ℕ) → k ≤ n → 1 ≤ nodes_in s → Within (subtrees a) n (subtrees s) → has_leaf c s ≡ true
      → ((stop : Tree → Bool) → to stop ≡ descent stop c n s) → Led k n to
  unfolding subtree_at
  led_to k n s to f l h e g =
      let there = within_first (subtrees a) n s l h in
      record {
        above = f;
        inside = omega (arith, within_inside (subtrees a) n s h, length_subtrees a);
        leaf_there = ap (has_leaf c) there ∙ e;
        on = λ stop. g stop ∙ ap (descent stop c n) (sym there);
      }

  led_up : (k j n : ℕ) (to other : (Tree → Bool) → ℕ) → j ≤ k → ((stop : Tree → Bool) → other stop ≡ to stop) → Led k n to → Led j n other
  led_up k j n to other f g h =
      record { above = omega (arith, h.above); inside = h.inside; leaf_there = h.leaf_there; on = λ stop. g stop ∙ h.on stop }

  first_marked_lem : (cs : Cases) (i k from z : ℕ) → from ≤ k → Stands w (cases_start + case_size * i) (own_cases k cs) → Within (subtrees a) k (subtrees_of cs) → AllThere cs
      → Marked a c from has → has_leaf_of c cs ≡ true → Led k (first_marked w has i (how_many cs)) (λ stop. descent_of stop c k cs z)
  unfolding first_marked how_many subtrees_of AllThere has_leaf_of descent_of bit
  first_marked_lem cnil i k from z f own h t m e = absurd (false≢true e)
  first_marked_lem (ccons u start s cs) i k from z f own h t m e =
      go (has_leaf c s) refl
      (first_marked_lem cs (i + 1) (k + nodes_in s) from z (omega arith) (own_rest w cases_start i k u start s cs own) (rest_within (subtrees a) k s (subtrees_of cs) h) t.1 m)
    where
      child : case_child w i ≡ k
      child = (own_first w i k u start s cs own).child_is

      mark : get_or has (case_child w i) 0 ≡ bit (has_leaf c s)
      mark = ap (λ y. get_or has y 0) child ∙ mark_there k from s f t.0 (first_within (subtrees a) k s (subtrees_of cs) h) m

      go : (b : Bool) → has_leaf c s ≡ b
          → (has_leaf_of c cs ≡ true → Led (k + nodes_in s) (first_marked w has (i + 1) (how_many cs)) (λ stop. descent_of stop c (k + nodes_in s) cs z))
          → Led k (pick (eqb (get_or has (case_child w i) 0) 1) (case_child w i) (first_marked w has (i + 1) (how_many cs)))
          (λ stop. pick (has_leaf c s) (descent stop c k s) (descent_of stop c (k + nodes_in s) cs z))
      go true x ih =
          rw (mark ∙ ap bit x, child)
          (led_to k k s (λ stop. pick (has_leaf c s) (descent stop c k s) (descent_of stop c (k + nodes_in s) cs z)) (omega arith) t.0
          (first_within (subtrees a) k s (subtrees_of cs) h) x (λ stop. pick_true (has_leaf c s) (descent stop c k s) (descent_of stop c (k + nodes_in s) cs z) x))
      go false x ih =
          rw (mark ∙ ap bit x)
          (led_up (k + nodes_in s) k (first_marked w has (i + 1) (how_many cs)) (λ stop. descent_of stop c (k + nodes_in s) cs z)
          (λ stop. pick (has_leaf c s) (descent stop c k s) (descent_of stop c (k + nodes_in s) cs z)) (omega arith)
          (λ stop. pick_false (has_leaf c s) (descent stop c k s) (descent_of stop c (k + nodes_in s) cs z) x) (ih (other_has (has_leaf c s) (has_leaf_of c cs) e x)))

  module _ (r : ReadyTree w a) (k : ℕ) (l : k < nodes_in a) (m : Marked a c (k + 1) has) where
    abbrev s : Tree
    s = subtree_at a k

    marked_default_lem : SwitchThere w a k → marked_default has (node_word w k default_word) ≡ bit (has_leaf c (default_under s))
    unfolding marked_default has_leaf bit
    marked_default_lem t = go (node_word w k default_word) refl
      where
        go : (d : ℕ) → node_word w k default_word ≡ d → pick (eqb (node_word w k default_word) 0) 0 (get_or has (node_word w k default_word - 1) 0) ≡ bit (has_leaf c (default_under s))
        go zero e = rw (e, default_none w r.table a r.nodes k l t.is e)
        go (suc d) e =
            let n = default_node w r.table a r.nodes k l t.is (omega arith) in
            pick_false (eqb (node_word w k default_word) 0) 0 (get_or has (node_word w k default_word - 1) 0) (ne_eqb (node_word w k default_word) 0 (λ z. omega arith))
            ∙ m.mark (node_word w k default_word - 1) (omega (arith, n.above)) n.inside
            ∙ ap (λ z. bit (has_leaf c z)) n.there

    -- THEOREM: the marks of a switch's children count those with a leaf of the clause
    pub marked_children_lem : SwitchThere w a k → marked_children w has k ≡ children_with c s
    unfolding marked_children
    marked_children_lem t =
        ap₂ ◌+◌
        (ap (marked_cases w has (node_word w k first_case_word)) t.shown.count_is
        ∙ marked_cases_lem (cases_under s) (node_word w k first_case_word) (k + 1) (k + 1) (omega arith) t.shown.own (cases_within (subtrees a) k s t.is (r.nodes.within k l)) t.all_there m)
        (marked_default_lem t)
        ∙ sym (children_with_switch c s t.is)

    -- THEOREM: a node is marked where its subtree has a leaf of the clause
    pub node_marked_lem : node_marked w has c k ≡ bit (has_leaf c s)
    unfolding node_marked has_leaf
    node_marked_lem =
        ⊎_elim
        (λ t.
        pick_true (eqb (node_kind w k) leaf_node) (bit (eqb c (node_word w k clause_word))) (bit (ltb 0 (marked_children w has k))) (eq-eqb (node_kind w k) leaf_node t.kind_is)
        ∙ ap (λ z. bit (eqb c z)) t.clause_is
        ∙ ap (λ z. bit (has_leaf c z)) (sym t.is))
        (λ t.
        pick_false (eqb (node_kind w k) leaf_node) (bit (eqb c (node_word w k clause_word))) (bit (ltb 0 (marked_children w has k))) (ne_eqb (node_kind w k) leaf_node (λ e. omega (arith, t.shown.kind_is)))
        ∙ ap bit (ap (ltb 0) (marked_children_lem t) ∙ sym (has_leaf_some c s t.is)))
        (node_there w a r k l)

    abbrev k₂ : ℕ
    k₂ = k + 1 + nodes_in_of (cases_under s)

    abbrev below : (Tree → Bool) → ℕ
    below stop = pick (has_leaf c (default_under s)) (descent stop c k₂ (default_under s)) (descent_of stop c (k + 1) (cases_under s) k)

    -- a default with a leaf of the clause is there, and is node k₂
    default_led : SwitchThere w a k → has_leaf c (default_under s) ≡ true → Led (k + 1) (node_word w k default_word - 1) below
    unfolding marked_default bit
    default_led t x = go (node_word w k default_word) refl
      where
        go : (d : ℕ) → node_word w k default_word ≡ d → Led (k + 1) (node_word w k default_word - 1) below
        go zero e =
            let y : ◌≡◌ {A = ℕ} 0 1 = sym (ap (marked_default has) e) ∙ marked_default_lem t ∙ ap bit x in
            absurd (omega arith)
        go (suc d) e =
            let f = default_field_some k₂ (default_under s) (omega (arith, t.shown.default_is)) in
            let n : node_word w k default_word - 1 ≡ k₂ = omega (arith, t.shown.default_is, f.0) in
            rw n
            (led_to (k + 1) k₂ (default_under s) below (omega arith) f.1 (default_within (subtrees a) k s t.is (r.nodes.within k l)) x
            (λ stop. pick_true (has_leaf c (default_under s)) (descent stop c k₂ (default_under s)) (descent_of stop c (k + 1) (cases_under s) k) x))

    case_led : SwitchThere w a k → has_leaf c s ≡ true → has_leaf c (default_under s) ≡ false
        → Led (k + 1) (first_marked w has (node_word w k first_case_word) (node_word w k cases_word + node_word w k tail_cases_word)) below
    case_led t h x =
        let e : has_leaf_of c (cases_under s) ≡ true =
        other_has (has_leaf c (default_under s)) (has_leaf_of c (cases_under s)) (either_turn (has_leaf c (default_under s)) (has_leaf_of c (cases_under s)) ∙ sym (has_leaf_switch c s t.is) ∙ h) x in
        let n = first_marked w has (node_word w k first_case_word) (how_many (cases_under s)) in
        rw t.shown.count_is
        (led_up (k + 1) (k + 1) n (λ stop. descent_of stop c (k + 1) (cases_under s) k) below (omega arith)
        (λ stop. pick_false (has_leaf c (default_under s)) (descent stop c k₂ (default_under s)) (descent_of stop c (k + 1) (cases_under s) k) x)
        (first_marked_lem (cases_under s) (node_word w k first_case_word) (k + 1) (k + 1) k (omega arith) t.shown.own (cases_within (subtrees a) k s t.is (r.nodes.within k l))
        t.all_there m e))

    -- THEOREM: from a switch with a leaf of the clause the way down goes on in the first marked child
    pub first_led : SwitchThere w a k → has_leaf c s ≡ true → Led (k + 1) (first_child w has k) below
    unfolding first_child bit
    first_led t h = go (has_leaf c (default_under s)) refl
      where
        mark : ℕ
        mark = marked_default has (node_word w k default_word)

        first : ℕ
        first = first_marked w has (node_word w k first_case_word) (node_word w k cases_word + node_word w k tail_cases_word)

        go : (b : Bool) → has_leaf c (default_under s) ≡ b → Led (k + 1) (pick (ltb 0 mark) (node_word w k default_word - 1) first) below
        go true x = rw (pick_true (ltb 0 mark) (node_word w k default_word - 1) first (lt-ltb 0 mark (omega (arith, marked_default_lem t ∙ ap bit x)))) (default_led t x)
        go false x = rw (pick_false (ltb 0 mark) (node_word w k default_word - 1) first (le-ltb 0 mark (omega (arith, marked_default_lem t ∙ ap bit x)))) (case_led t h x)

-- ---- the leaf visited last
module _ (w : List ℕ) (a : Tree) (last : List ℕ) where
  last_there : (k from : ℕ) (s : Tree) → from ≤ k → 1 ≤ nodes_in s → Within (subtrees a) k (subtrees s) → LastMarked a from last → last_leaf s ≡ some (get_or last k 0)
  unfolding subtree_at
  last_there k from s f l h m =
      ap last_leaf (sym (within_first (subtrees a) k s l h)) ∙ m.last_leaf_holds k f (omega (arith, within_inside (subtrees a) k s h, length_subtrees a))

  later_some : (o p : Option ℕ) (x : ℕ) → p ≡ some x → later o p ≡ some x
  unfolding later
  later_some o p x e = rw e

  last_case : (cs : Cases) (i k from : ℕ) → 0 < how_many cs → from ≤ k → Stands w (cases_start + case_size * i) (own_cases k cs) → Within (subtrees a) k (subtrees_of cs)
      → AllThere cs → LastMarked a from last → last_leaf_of cs ≡ some (get_or last (case_child w (i + how_many cs - 1)) 0)
  unfolding how_many subtrees_of AllThere last_leaf_of later
  last_case cnil i k from p f own h t m = absurd (omega arith)
  last_case (ccons u start s cnil) i k from p f own h t m =
      let e : i + 1 - 1 ≡ i = omega arith in
      last_there k from s f t.0 (first_within (subtrees a) k s [] h) m ∙ rw (e, (own_first w i k u start s cnil own).child_is)
  last_case (ccons u start s (ccons v begin q cs)) i k from p f own h t m =
      let e : i + 1 + suc (how_many cs) - 1 ≡ i + suc (suc (how_many cs)) - 1 = omega arith in
      later_some (last_leaf s) (later (last_leaf q) (last_leaf_of cs)) (get_or last (case_child w (i + suc (suc (how_many cs)) - 1)) 0)
      (last_case (ccons v begin q cs) (i + 1) (k + nodes_in s) from (omega arith) (omega arith) (own_rest w cases_start i k u start s (ccons v begin q cs) own)
      (rest_within (subtrees a) k s (subtrees q ++ subtrees_of cs) h) t.1 m
      ∙ ap (λ z. some (get_or last (case_child w z) 0)) e)

  module _ (r : ReadyTree w a) (k : ℕ) (l : k < nodes_in a) (m : LastMarked a (k + 1) last) where
    abbrev by_cases : ℕ
    by_cases = case_child w (node_word w k first_case_word + (node_word w k cases_word + node_word w k tail_cases_word) - 1)

    last_child_lem : SwitchThere w a k → last_leaf (subtree_at a k) ≡ some (get_or last (last_child w k) 0)
    unfolding last_child last_leaf later
    last_child_lem t = go (node_word w k default_word) refl
      where
        cs : Cases
        cs = cases_under (subtree_at a k)

        go : (d : ℕ) → node_word w k default_word ≡ d → last_leaf (subtree_at a k) ≡ some (get_or last (pick (eqb (node_word w k default_word) 0) by_cases (node_word w k default_word - 1)) 0)
        go zero e =
            last_leaf_switch (subtree_at a k) t.is
            ∙ ap (λ z. later (last_leaf_of cs) (last_leaf z)) (default_none w r.table a r.nodes k l t.is e)
            ∙ last_case cs (node_word w k first_case_word) (k + 1) (k + 1) t.some_case (omega arith) t.shown.own
            (cases_within (subtrees a) k (subtree_at a k) t.is (r.nodes.within k l)) t.all_there m
            ∙ ap (λ z. some (get_or last (case_child w (node_word w k first_case_word + z - 1)) 0)) (sym t.shown.count_is)
            ∙ ap (λ z. some (get_or last z 0)) (sym (pick_true (eqb (node_word w k default_word) 0) by_cases (node_word w k default_word - 1) (eq-eqb (node_word w k default_word) 0 e)))
        go (suc d) e =
            let n = default_node w r.table a r.nodes k l t.is (omega arith) in
            last_leaf_switch (subtree_at a k) t.is
            ∙ later_some (last_leaf_of cs) (last_leaf (default_under (subtree_at a k))) (get_or last (node_word w k default_word - 1) 0)
            (ap last_leaf (sym n.there) ∙ m.last_leaf_holds (node_word w k default_word - 1) (omega (arith, n.above)) n.inside)
            ∙ ap (λ z. some (get_or last z 0)) (sym (pick_false (eqb (node_word w k default_word) 0) by_cases (node_word w k default_word - 1) (ne_eqb (node_word w k default_word) 0 (λ z. omega arith))))

    -- THEOREM: the leaf visited last at or below a node
    pub last_of_lem : last_leaf (subtree_at a k) ≡ some (last_of w last k)
    unfolding last_of last_leaf
    last_of_lem =
        ⊎_elim
        (λ t.
        ap last_leaf t.is
        ∙ ap some (sym t.clause_is)
        ∙ ap some (sym (pick_true (eqb (node_kind w k) leaf_node) (node_word w k clause_word) (get_or last (last_child w k) 0) (eq-eqb (node_kind w k) leaf_node t.kind_is))))
        (λ t.
        last_child_lem t
        ∙ ap some (sym (pick_false (eqb (node_kind w k) leaf_node) (node_word w k clause_word) (get_or last (last_child w k) 0) (ne_eqb (node_kind w k) leaf_node (λ e. omega (arith, t.shown.kind_is))))))
        (node_there w a r k l)
