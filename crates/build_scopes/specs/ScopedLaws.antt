-- Laws for the loop over the clauses, from the last to the first: what one clause adds to the answer, and what the answer then says.
-- Rests on the marks of a clause and on the laws of `lowest` and `times`.
use Rattle.std.specs.Prelude.{◌≡◌, Bool, List, ℕ, ◌+◌, ◌-◌, ◌≤◌, ◌<◌, length, get_or, replicate}
use Rattle.std.proofs.Math.Path.{refl, sym, ap}
use Rattle.std.proofs.Common.{ap₂, ◌∙◌, subst, arith, get_or-set_same}
use Rattle.std.proofs.Math.Logic.{⊎_elim}
use Rattle.std.proofs.Math.Bool.{true, false, not}
use Rattle.std.proofs.Math.ListN.{set, length-set}
use Rattle.std.proofs.lemmas.List.{length-replicate, get_or-replicate}
use Rattle.std.proofs.Math.Seq.{get_or-set_other}
use Rattle.base_words.specs.WordsLaws.{pick_true, pick_false}
use Rattle.spec_rules.specs.Limits.{clauses_most, nodes_most}
use Rattle.spec_rules.specs.Rows.{bit}
use Rattle.spec_rules.specs.Searching.{lowest, times}
use Rattle.spec_rules.specs.SearchingLaws.{lowest_found, lowest_on, lowest_end, times_yes, times_no, times_end, times_most}
use Rattle.spec_rules.specs.Building.{Tree}
use Rattle.spec_rules.specs.Hoisting.{has_leaf}
use Rattle.spec_rules.specs.Calls.{lowest_idle}
use Rattle.build_arena.specs.NumberedLaws.{subtree_at_root}
use Rattle.build_scopes.specs.declared.Scopes.{Scopes}
use Rattle.build_scopes.specs.Numbers.{scope_number, first_number, scope_node, first_leaf_node, idle_number}
use Rattle.build_scopes.specs.SwitchLaws.{present_nodes}
use Rattle.build_scopes.specs.NumbersLaws.{descent_in}
use Rattle.build_scopes.specs.Marks.{ReadyWith, SetsMarked, LastMarked, ClauseMarks, ScopeMarks, bit_at}
use Rattle.build_scopes.specs.SetsLaws.{get_or_column}
use Rattle.build_scopes.specs.WayLaws.{first_or_more}
use Rattle.build_scopes.specs.Scoped.{Surveyed, with_clause, Scoped}

-- ---- one clause
pub root_there : {w last sets : List ℕ} → Surveyed w last sets → 0 < length sets
root_there h = omega (arith, h.sets_long, present_nodes h.tree h.ready.there)

module _ {w last sets : List ℕ} (h : Surveyed w last sets) (c : ℕ) {mark : ℕ} (e : mark ≡ bit_at c (get_or sets 0 0)) where
  root_mark : mark ≡ bit (has_leaf c h.tree)
  root_mark =
      e ∙ sym (get_or_column c sets 0)
      ∙ (h.sets_marked.clause c).mark 0 (omega arith) (present_nodes h.tree h.ready.there)
      ∙ ap (λ z. bit (has_leaf c z)) (subtree_at_root h.tree)

  no_leaf : mark ≡ 0 → has_leaf c h.tree ≡ false
  unfolding bit
  no_leaf f = go (has_leaf c h.tree) refl
    where
      go : (b : Bool) → has_leaf c h.tree ≡ b → has_leaf c h.tree ≡ false
      go true x = absurd (omega (arith, root_mark ∙ ap bit x))
      go false x = x

  pub some_leaf : (mark ≡ 0 → ⊥) → has_leaf c h.tree ≡ true
  unfolding bit
  some_leaf n = go (has_leaf c h.tree) refl
    where
      go : (b : Bool) → has_leaf c h.tree ≡ b → has_leaf c h.tree ≡ true
      go true x = x
      go false x = absurd (n (root_mark ∙ ap bit x))

  abbrev pub clause_marks : c < clauses_most → (mark ≡ 0 → ⊥) → ClauseMarks w c sets
  clause_marks l n =
      record { tree = h.tree; ready = h.ready; small = l; marked = h.sets_marked.clause c; long = h.sets_long; leaf_there = some_leaf n }

  abbrev pub scope_marks : c < clauses_most → (mark ≡ 0 → ⊥) → ScopeMarks w c last sets
  scope_marks l n = record { marks = clause_marks l n; last_marked = h.last_marked; last_long = h.last_long }

  pub idle_clause : (x : Scopes) → mark ≡ 0 → record { node = x.node; leaf = x.leaf; hoists = x.hoists; idle = c } ≡ with_clause h.tree c x
  unfolding with_clause
  idle_clause x f = rw (no_leaf f)

  pub busy_clause : (x : Scopes) (node leaf : ℕ) → (mark ≡ 0 → ⊥) → node ≡ scope_number c 0 h.tree → leaf ≡ first_number c 0 h.tree
      → record { node = set x.node c node; leaf = set x.leaf c leaf; hoists = x.hoists + 1; idle = x.idle } ≡ with_clause h.tree c x
  unfolding with_clause
  busy_clause x node leaf n f g = rw (some_leaf n, f, g)

  pub scope_small : (mark ≡ 0 → ⊥) → (node : ℕ) → node ≡ scope_number c 0 h.tree → node < nodes_most
  unfolding scope_number
  scope_small n node f =
      omega (arith, f, (descent_in (Rattle.spec_hoist.specs.Descent.is_scope c) c 0 h.tree (some_leaf n) h.ready.plain).1, h.ready.nodes.nodes_most_holds)

  pub leaf_small : (mark ≡ 0 → ⊥) → (leaf : ℕ) → leaf ≡ first_number c 0 h.tree → leaf < nodes_most
  unfolding first_number
  leaf_small n leaf f =
      omega (arith, f, (descent_in Rattle.build_scopes.specs.Numbers.never c 0 h.tree (some_leaf n) h.ready.plain).1, h.ready.nodes.nodes_most_holds)

-- ---- the clauses from c on
pub record ScopedFrom (a : Tree) (clauses c : ℕ) (x : Scopes) : Type 0 where
  pub node_length : length x.node ≡ clauses_most
  pub leaf_length : length x.leaf ≡ clauses_most
  pub node : (j : ℕ) → c ≤ j → j < clauses → get_or x.node j 0 ≡ scope_node j a
  pub leaf : (j : ℕ) → c ≤ j → j < clauses → get_or x.leaf j 0 ≡ first_leaf_node j a
  pub no_node : (j : ℕ) → j < c → get_or x.node j 0 ≡ nodes_most
  pub no_leaf_node : (j : ℕ) → j < c → get_or x.leaf j 0 ≡ nodes_most
  pub hoists : x.hoists ≡ times (λ d. has_leaf d a) c (clauses - c)
  pub idle : x.idle ≡ idle_number (lowest (λ d. not (has_leaf d a)) c (clauses - c))

-- no clause yet
pub scoped_start : (a : Tree) (clauses : ℕ) → clauses ≤ clauses_most
    → ScopedFrom a clauses clauses (record { node = replicate clauses_most nodes_most; leaf = replicate clauses_most nodes_most; hoists = 0; idle = clauses_most })
unfolding idle_number
scoped_start a clauses l =
    record {
      node_length = length-replicate clauses_most nodes_most;
      leaf_length = length-replicate clauses_most nodes_most;
      node = λ j f g. absurd (omega arith);
      leaf = λ j f g. absurd (omega arith);
      no_node = λ j f. get_or-replicate clauses_most j nodes_most 0 (omega arith);
      no_leaf_node = λ j f. get_or-replicate clauses_most j nodes_most 0 (omega arith);
      hoists = sym (times_end (λ d. has_leaf d a) clauses clauses (omega arith));
      idle = sym (ap idle_number (lowest_end (λ d. not (has_leaf d a)) clauses clauses (omega arith)));
    }

pub hoists_few : (a : Tree) (clauses c : ℕ) (x : Scopes) → 0 < c → clauses ≤ clauses_most → c ≤ clauses → ScopedFrom a clauses c x → x.hoists < clauses_most
hoists_few a clauses c x p l f s = omega (arith, s.hoists, times_most (λ d. has_leaf d a) c (clauses - c))

-- one clause more
module _ (a : Tree) (clauses c : ℕ) (x : Scopes) (l : c < clauses) (m : clauses ≤ clauses_most) (s : ScopedFrom a clauses (c + 1) x) where
  with_leaf : has_leaf c a ≡ true
      → ScopedFrom a clauses c (record { node = set x.node c (scope_number c 0 a); leaf = set x.leaf c (first_number c 0 a); hoists = x.hoists + 1; idle = x.idle })
  unfolding scope_node first_leaf_node
  with_leaf e =
      record {
        node_length = length-set x.node c (scope_number c 0 a) ∙ s.node_length;
        leaf_length = length-set x.leaf c (first_number c 0 a) ∙ s.leaf_length;
        node = λ j f g.
            ⊎_elim
            (λ z. rw z (get_or-set_same x.node c (scope_number c 0 a) 0 (omega (arith, s.node_length)) ∙ sym (pick_true (has_leaf c a) (scope_number c 0 a) nodes_most e)))
            (λ z. get_or-set_other x.node c j (scope_number c 0 a) 0 (λ y. omega arith) ∙ s.node j z g)
            (first_or_more c j f);
        leaf = λ j f g.
            ⊎_elim
            (λ z. rw z (get_or-set_same x.leaf c (first_number c 0 a) 0 (omega (arith, s.leaf_length)) ∙ sym (pick_true (has_leaf c a) (first_number c 0 a) nodes_most e)))
            (λ z. get_or-set_other x.leaf c j (first_number c 0 a) 0 (λ y. omega arith) ∙ s.leaf j z g)
            (first_or_more c j f);
        no_node = λ j f. get_or-set_other x.node c j (scope_number c 0 a) 0 (λ y. omega arith) ∙ s.no_node j (omega arith);
        no_leaf_node = λ j f. get_or-set_other x.leaf c j (first_number c 0 a) 0 (λ y. omega arith) ∙ s.no_leaf_node j (omega arith);
        hoists = ap (λ z. z + 1) s.hoists ∙ sym (times_yes (λ d. has_leaf d a) c clauses l e);
        idle = s.idle ∙ ap idle_number (lowest_on (λ d. not (has_leaf d a)) c clauses l (ap not e));
      }

  without_leaf : has_leaf c a ≡ false → ScopedFrom a clauses c (record { node = x.node; leaf = x.leaf; hoists = x.hoists; idle = c })
  unfolding scope_node first_leaf_node idle_number
  without_leaf e =
      record {
        node_length = s.node_length;
        leaf_length = s.leaf_length;
        node = λ j f g.
            ⊎_elim (λ z. rw z (s.no_node c (omega arith) ∙ sym (pick_false (has_leaf c a) (scope_number c 0 a) nodes_most e))) (λ z. s.node j z g) (first_or_more c j f);
        leaf = λ j f g.
            ⊎_elim (λ z. rw z (s.no_leaf_node c (omega arith) ∙ sym (pick_false (has_leaf c a) (first_number c 0 a) nodes_most e))) (λ z. s.leaf j z g) (first_or_more c j f);
        no_node = λ j f. s.no_node j (omega arith);
        no_leaf_node = λ j f. s.no_leaf_node j (omega arith);
        hoists = s.hoists ∙ sym (times_no (λ d. has_leaf d a) c clauses l e);
        idle = sym (ap idle_number (lowest_found (λ d. not (has_leaf d a)) c clauses l (ap not e)));
      }

  pub scoped_more : (y : Scopes) → y ≡ with_clause a c x → ScopedFrom a clauses c y
  unfolding with_clause
  scoped_more y f = go (has_leaf c a) refl
    where
      busy : Scopes
      busy = record { node = set x.node c (scope_number c 0 a); leaf = set x.leaf c (first_number c 0 a); hoists = x.hoists + 1; idle = x.idle }

      idle_one : Scopes
      idle_one = record { node = x.node; leaf = x.leaf; hoists = x.hoists; idle = c }

      go : (b : Bool) → has_leaf c a ≡ b → ScopedFrom a clauses c y
      go true e = subst (ScopedFrom a clauses c) (sym (f ∙ pick_true (has_leaf c a) busy idle_one e)) (with_leaf e)
      go false e = subst (ScopedFrom a clauses c) (sym (f ∙ pick_false (has_leaf c a) busy idle_one e)) (without_leaf e)

-- all clauses
pub scoped_end : (a : Tree) (clauses c : ℕ) (x : Scopes) → c ≡ 0 → ScopedFrom a clauses c x → Scoped a clauses x
unfolding lowest_idle
scoped_end a clauses c x e s =
    let all : clauses - c ≡ clauses = omega arith in
    record {
      node = λ j f. s.node j (omega arith) f;
      leaf = λ j f. s.leaf j (omega arith) f;
      hoists = s.hoists ∙ ap₂ (times (λ d. has_leaf d a)) e all;
      idle = s.idle ∙ ap idle_number (ap₂ (lowest (λ d. not (has_leaf d a))) e all);
    }

-- what the two passes over the nodes find, of every tree that is there
abbrev pub surveyed : {w : List ℕ} {nodes : ℕ} {last sets : List ℕ} → ((h : ReadyWith w nodes) → LastMarked h.tree 0 last) → nodes ≤ length last
    → ((h : ReadyWith w nodes) → SetsMarked h.tree 0 sets) → nodes ≤ length sets → ReadyWith w nodes → Surveyed w last sets
surveyed m l n k h =
    record {
      tree = h.tree;
      ready = h.ready;
      last_marked = m h;
      last_long = omega (arith, h.count);
      sets_marked = n h;
      sets_long = omega (arith, h.count);
    }
