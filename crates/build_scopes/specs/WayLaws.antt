-- Laws for the passes over the nodes and for the ways down: what a turn of each loop keeps.
-- Rests on what is read at a node of a tree in the arena.
use Rattle.std.specs.Prelude.{◌≡◌, ◌⊎◌, Bool, List, ℕ, zero, suc, ◌+◌, ◌-◌, ◌≤◌, ◌<◌, length, get_or, set, leb}
use Rattle.std.proofs.Math.Path.{refl, sym, ap}
use Rattle.std.proofs.Common.{◌∙◌, subst, inl, inr, arith, get_or-set_same, get_or-set_other}
use Rattle.std.proofs.Math.Logic.{⊎_elim}
use Rattle.std.proofs.Math.Bool.{true, false, true≢false}
use Rattle.std.proofs.Math.Option.{some}
use Rattle.std.proofs.Math.Dec.{eqb}
use borrow.Author.Tests.{eq-eqb, eqb-true}
use Rattle.base_words.specs.Words.{either, pick}
use Rattle.base_words.specs.WordsLaws.{pick_false}
use Rattle.spec_rules.specs.Limits.{clauses_most, nodes_most}
use Rattle.spec_rules.specs.Kinds.{leaf_node}
use Rattle.spec_rules.specs.Rows.{bit}
use Rattle.spec_rules.specs.Building.{Tree, absent, leaf, hoist, switch, listswitch}
use Rattle.spec_rules.specs.Hoisting.{nodes_in, nodes_in_of, has_leaf}
use Rattle.spec_hoist.specs.Scopes.{last_leaf, is_clause}
use Rattle.spec_hoist.specs.Descent.{children_with, is_scope}
use Rattle.build_arena.specs.Arena.{node_kind}
use Rattle.build_arena.specs.Numbered.{subtree_at, cases_under, default_under}
use Rattle.build_arena.specs.NumberedLaws.{subtree_at_root}
use Rattle.build_scopes.specs.Numbers.{descent, descent_of, never, scope_number, first_number}
use Rattle.build_scopes.specs.SwitchLaws.{descent_switch, present_nodes}
use Rattle.build_scopes.specs.Marks.{ReadyTree, LeafThere, SwitchThere, Marked, SetsMarked, LastMarked, ClauseMarks, ScopeMarks, SwitchInside, ScopeInside, bit_at, column, marked_children, first_child, node_marked, node_set, last_of, scope_here}
use Rattle.build_scopes.specs.SetsLaws.{length_column, column_set, node_set_marked}
use Rattle.build_scopes.specs.ReadyLaws.{node_there, node_inside, marked_children_lem, node_marked_lem, first_led, last_of_lem}

-- ---- the passes from the last node to the first
pub first_or_more : (k j : ℕ) → k ≤ j → (j ≡ k) ⊎ (k + 1 ≤ j)
first_or_more k j l = go (j - k) refl
  where
    go : (d : ℕ) → j - k ≡ d → (j ≡ k) ⊎ (k + 1 ≤ j)
    go zero e = inl (omega arith)
    go (suc d) e = inr (omega arith)

module _ (w : List ℕ) (a : Tree) (r : ReadyTree w a) (k : ℕ) (l : k < nodes_in a) where
  -- one more node marked
  mark_more : (c : ℕ) (has : List ℕ) (one : ℕ) → k < length has → one ≡ node_marked w has c k → Marked a c (k + 1) has → Marked a c k (set has k one)
  mark_more c has one h e m = record { mark = each }
    where
      each : (j : ℕ) → k ≤ j → j < nodes_in a → get_or (set has k one) j 0 ≡ bit (has_leaf c (subtree_at a j))
      each j f g =
          ⊎_elim (λ x. rw x (get_or-set_same has k one 0 h ∙ e ∙ node_marked_lem w a c has r k l m))
          (λ x. get_or-set_other has k j one 0 (λ y. omega arith) ∙ m.mark j x g) (first_or_more k j f)

  pub sets_more : (sets : List ℕ) (one : ℕ) → k < length sets → one ≡ node_set w sets k → SetsMarked a (k + 1) sets → SetsMarked a k (set sets k one)
  sets_more sets one h e m =
      record {
        clause = λ c.
            subst (Marked a c k) (sym (column_set c sets k one))
            (mark_more c (column c sets) (bit_at c one) (omega (arith, length_column c sets)) (ap (bit_at c) e ∙ node_set_marked w sets c k) (m.clause c));
      }

  pub last_more : (last : List ℕ) (clause : ℕ) → k < length last → clause ≡ last_of w last k → LastMarked a (k + 1) last → LastMarked a k (set last k clause)
  last_more last clause h e m = record { last_leaf_holds = each }
    where
      each : (j : ℕ) → k ≤ j → j < nodes_in a → last_leaf (subtree_at a j) ≡ some (get_or (set last k clause) j 0)
      each j f g =
          ⊎_elim (λ x. rw x (last_of_lem w a last r k l m ∙ ap some (sym (get_or-set_same last k clause 0 h ∙ e))))
          (λ x. m.last_leaf_holds j x g ∙ ap some (sym (get_or-set_other last k j clause 0 (λ y. omega arith)))) (first_or_more k j f)

-- marks from a lower node on are marks from a higher one on
mark_from : (a : Tree) (c k : ℕ) (has : List ℕ) → Marked a c 0 has → Marked a c k has
mark_from a c k has m = record { mark = λ j f g. m.mark j (omega arith) g }

-- ---- the ways down
-- node k is on the way down that ends where `stop` holds, or at a leaf
pub record OnWay (stop : Tree → Bool) (a : Tree) (c k : ℕ) : Type 0 where
  pub inside : k < nodes_in a
  pub leaf_there : has_leaf c (subtree_at a k) ≡ true
  pub same : descent stop c k (subtree_at a k) ≡ descent stop c 0 a

pub way_start : (stop : Tree → Bool) {w : List ℕ} {a : Tree} (c : ℕ) → ReadyTree w a → has_leaf c a ≡ true → OnWay stop a c 0
way_start stop {a = a} c r h =
    record {
      inside = present_nodes a r.there;
      leaf_there = ap (has_leaf c) (subtree_at_root a) ∙ h;
      same = ap (descent stop c 0) (subtree_at_root a);
    }

pub way_inside : {stop : Tree → Bool} {w : List ℕ} {a : Tree} {c k : ℕ} → ReadyTree w a → OnWay stop a c k → k < nodes_most
way_inside r o = omega (arith, o.inside, r.nodes.nodes_most_holds)

-- it ends here
descent_stop : (stop : Tree → Bool) (c k : ℕ) (s : Tree) → stop s ≡ true → descent stop c k s ≡ k
unfolding descent
descent_stop stop c k absent e = refl
descent_stop stop c k (leaf d bs) e = refl
descent_stop stop c k (hoist d bs a) e = refl
descent_stop stop c k (switch p cs d) e = rw e
descent_stop stop c k (listswitch p cs ts d) e = rw e

pub way_end : (stop : Tree → Bool) (a : Tree) (c k : ℕ) → OnWay stop a c k → stop (subtree_at a k) ≡ true → k ≡ descent stop c 0 a
way_end stop a c k o e = sym (descent_stop stop c k (subtree_at a k) e) ∙ o.same

-- or goes on in the first marked child
pub record NextOnWay (stop : Tree → Bool) (a : Tree) (c k n : ℕ) : Type 0 where
  pub above : k < n
  pub next : OnWay stop a c n

pub way_next : (stop : Tree → Bool) (w : List ℕ) (a : Tree) (c k : ℕ) (has : List ℕ) → ReadyTree w a → Marked a c 0 has → OnWay stop a c k → SwitchThere w a k
    → stop (subtree_at a k) ≡ false → NextOnWay stop a c k (first_child w has k)
way_next stop w a c k has r m o t e =
    let led = first_led w a c has r k o.inside (mark_from a c (k + 1) has m) t o.leaf_there in
    let s = subtree_at a k in
    record {
      above = omega (arith, led.above);
      next = record {
        inside = led.inside;
        leaf_there = led.leaf_there;
        same =
            sym (led.on stop)
            ∙ sym (descent_switch stop c k s t.is
            ∙ pick_false (stop s) k (pick (has_leaf c (default_under s)) (descent stop c (k + 1 + nodes_in_of (cases_under s)) (default_under s)) (descent_of stop c (k + 1) (cases_under s) k)) e)
            ∙ o.same;
      };
    }

-- ---- the scope
module _ (w : List ℕ) (a : Tree) (c k : ℕ) (last has : List ℕ) (r : ReadyTree w a) (m : Marked a c 0 has) (q : LastMarked a 0 last) (l : k < nodes_in a)
    (h : has_leaf c (subtree_at a k) ≡ true) where
  last_clause : is_clause c (last_leaf (subtree_at a k)) ≡ eqb c (get_or last k 0)
  unfolding is_clause
  last_clause = ap (is_clause c) (q.last_leaf_holds k (omega arith) l)

  -- a leaf with a leaf of c is visited last there
  leaf_last : LeafThere w a k → c ≡ get_or last k 0
  unfolding has_leaf last_leaf
  leaf_last t =
      let e : c ≡ t.clause = eqb-true c t.clause (sym (ap (has_leaf c) t.is) ∙ h) in
      let f : some t.clause ≡ some (get_or last k 0) = sym (ap last_leaf t.is) ∙ q.last_leaf_holds k (omega arith) l in
      cc

  pub scope_switch : (c ≡ get_or last k 0 → ⊥) → SwitchThere w a k
  scope_switch n = ⊎_elim (λ t. absurd (n (leaf_last t))) (λ t. t) (node_there w a r k l)

  pub scope_here_lem : scope_here w last has c k ≡ is_scope c (subtree_at a k)
  unfolding scope_here is_scope
  scope_here_lem = go (eqb c (get_or last k 0)) refl
    where
      go : (b : Bool) → eqb c (get_or last k 0) ≡ b
          → either (eqb c (get_or last k 0)) (leb 2 (marked_children w has k)) ≡ either (is_clause c (last_leaf (subtree_at a k))) (leb 2 (children_with c (subtree_at a k)))
      go true e = rw (last_clause, e)
      go false e =
          rw (last_clause, e)
          (ap (leb 2) (marked_children_lem w a c has r k l (mark_from a c (k + 1) has m) (scope_switch (λ x. true≢false (sym (eq-eqb c (get_or last k 0) x) ∙ e)))))

  pub scope_inside : (sets : List ℕ) → c < clauses_most → nodes_in a ≤ length last → nodes_in a ≤ length sets → ScopeInside w last sets c k
  scope_inside sets small x y =
      record {
        small = small;
        node = omega arith;
        switch = λ n. (node_inside w a r k l (length sets) y).switch (λ e. omega (arith, (scope_switch n).shown.kind_is));
      }

module _ {w : List ℕ} {c : ℕ} {last sets : List ℕ} (h : ScopeMarks w c last sets) {k : ℕ} (o : OnWay (is_scope c) h.marks.tree c k) where
  abbrev has : List ℕ
  has = column c sets

  pub scope_asked : ScopeInside w last sets c k
  scope_asked =
      scope_inside w h.marks.tree c k last has h.marks.ready h.marks.marked h.last_marked o.inside o.leaf_there sets
      h.marks.small h.last_long h.marks.long

  here_is : (b : Bool) → b ≡ scope_here w last has c k → is_scope c (subtree_at h.marks.tree k) ≡ b
  here_is b e =
      sym (e ∙ scope_here_lem w h.marks.tree c k last has h.marks.ready h.marks.marked h.last_marked o.inside o.leaf_there)

  pub scope_found : true ≡ scope_here w last has c k → k ≡ scope_number c 0 h.marks.tree
  unfolding scope_number
  scope_found e = way_end (is_scope c) h.marks.tree c k o (here_is true e)

  not_last : false ≡ scope_here w last has c k → c ≡ get_or last k 0 → ⊥
  unfolding scope_here
  not_last e x = true≢false (sym (e ∙ ap (λ b. either b (leb 2 (marked_children w has k))) (eq-eqb c (get_or last k 0) x)))

  pub scope_child : false ≡ scope_here w last has c k → SwitchInside w k (length sets)
  scope_child e = scope_asked.switch (not_last e)

  pub scope_on : false ≡ scope_here w last has c k → NextOnWay (is_scope c) h.marks.tree c k (first_child w has k)
  scope_on e =
      way_next (is_scope c) w h.marks.tree c k has h.marks.ready h.marks.marked o
      (scope_switch w h.marks.tree c k last has h.marks.ready h.marks.marked h.last_marked o.inside o.leaf_there (not_last e)) (here_is false e)

-- ---- the first leaf
module _ {w : List ℕ} {c : ℕ} {sets : List ℕ} (h : ClauseMarks w c sets) {k : ℕ} (o : OnWay never h.tree c k) where
  pub leaf_found : node_kind w k ≡ leaf_node → k ≡ first_number c 0 h.tree
  unfolding first_number descent
  leaf_found e =
      ⊎_elim (λ t. sym (ap (descent never c k) t.is) ∙ o.same) (λ t. absurd (omega (arith, t.shown.kind_is))) (node_there w h.tree h.ready k o.inside)

  pub leaf_child : (node_kind w k ≡ leaf_node → ⊥) → SwitchInside w k (length sets)
  leaf_child n = (node_inside w h.tree h.ready k o.inside (length sets) h.long).switch n

  pub leaf_on : (node_kind w k ≡ leaf_node → ⊥) → NextOnWay never h.tree c k (first_child w (column c sets) k)
  leaf_on n =
      ⊎_elim (λ t. absurd (n t.kind_is)) (λ t. way_next never w h.tree c k (column c sets) h.ready h.marked o t refl) (node_there w h.tree h.ready k o.inside)
