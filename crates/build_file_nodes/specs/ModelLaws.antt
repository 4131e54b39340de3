-- Laws for the loops of the writing functions: what is left of a run, at each turn, is the rest of the whole run.
-- And the frames: how far each function moves the tops, and that the path numbers stay counted.
use Rattle.std.specs.Prelude.{◌≡◌, refl, Bool, true, false, List, ◌++◌, get_or, eqb}
use Rattle.std.proofs.Math.Path.{sym, ap, subst}
use Rattle.std.proofs.Common.{ap₂, ◌∙◌, add-zero, eq-eqb, ne_eqb, eqb-true}
use Prim.Native.Nat.{ℕ, zero, suc, ◌+◌, ◌-◌, ◌*◌, ◌≤◌, ◌<◌}
use native.Mathlib.Omega.{arith}
use Rattle.std.proofs.Math.Nat.{sub-zero}
use Rattle.std.proofs.Math.ListN.{length}
use Rattle.std.proofs.lemmas.Bool.{eqb-false}
use Rattle.base_words.specs.Words.{pick}
use Rattle.base_words.specs.WordsLaws.{pick_true, pick_false}
use Rattle.base_words.specs.Stored.{stored}
use Rattle.base_words.specs.StoredLaws.{length_stored, stored_nil, stored_append}
use Rattle.spec_rules.specs.Limits.{patterns_most, case_size, binding_size}
use Rattle.spec_rules.specs.Kinds.{leaf_node, hoist_node, path_word, first_case_word, cases_word, tail_cases_word, default_word, first_binding_word, bindings_word}
use Rattle.build_arena.specs.Arena.{node_kind, node_word, case_child, binding_path}
use Rattle.spec_file.specs.RecordsLaws.{case_fields}
use Rattle.build_scopes.specs.Marks.{SwitchInside}
use Rattle.build_scopes.specs.WriterLaws.{stands_at}
use Rattle.build_file_nodes.specs.Uses.{Uses, Counted, with_class}
use Rattle.build_file_nodes.specs.UsesLaws.{counted_with, use_some}
use Rattle.build_file_nodes.specs.ShiftLaws.{no_hoists}
use Rattle.build_file_nodes.specs.Model.{Places, Reach, bound_binding, bound_bytes, bound_uses, BindingsAsked, PutBinding, PutBindings, clause_node, moved_by, Shifted, moved_case, moved_cases, moved_default, Out, out_of, bound_out, hoist_out, hoists_out, LeafSound, BoundAsked, Within, HoistsAsked, switch_bytes, switch_out, own_out, OwnAsked, node_out, nodes_out, NodeAsked, NodesAsked}

-- ---- bindings
pub record BindingsLeft (w : List ℕ) (first count at : ℕ) (u : Uses) (before tree : List ℕ) (v : Uses) (i : ℕ) : Type 0 where
  pub counted : Counted v
  pub long : length tree ≡ length before
  pub uses_left : bound_uses w (first + i) (count - i) v ≡ bound_uses w first count u
  pub bytes_left : stored tree (at + binding_size * i) (bound_bytes w (first + i) (count - i) v) ≡ stored before at (bound_bytes w first count u)

module _ {w : List ℕ} {first count at : ℕ} {u : Uses} {before tree : List ℕ} {v : Uses} {i : ℕ} (h : BindingsLeft w first count at u before tree v i) where
  pub bindings_next : i < count → BindingsAsked w first count → {tree₂ : List ℕ} {v₂ : Uses} → PutBinding w (first + i) (at + binding_size * i) v tree tree₂ v₂
      → BindingsLeft w first count at u before tree₂ v₂ (i + 1)
  unfolding bound_uses bound_bytes
  bindings_next l a p =
      let class = binding_path w (first + i) in
      let v₁ = with_class v class in
      let d : count - i ≡ suc (count - (i + 1)) = omega arith in
      let f : first + i + 1 ≡ first + (i + 1) = omega arith in
      let e : at + binding_size * i + binding_size ≡ at + binding_size * (i + 1) = omega arith in
      record {
        counted = rw p.uses_are (counted_with v class h.counted (a.classes i l));
        long = ap length p.bytes_are ∙ length_stored tree (at + binding_size * i) (bound_binding w (first + i) v₁) ∙ h.long;
        uses_left = rw (p.uses_are, ← f) (rw d at h.uses_left);
        bytes_left =
            rw (p.bytes_are, p.uses_are, ← f)
            (stored_append tree (at + binding_size * i) (at + binding_size * (i + 1)) (bound_binding w (first + i) v₁) (bound_bytes w (first + i + 1) (count - (i + 1)) v₁) e
            ∙ (rw d at h.bytes_left));
      }

  pub bindings_end : count ≤ i → PutBindings w first count at u before tree v
  unfolding bound_uses bound_bytes
  bindings_end l =
      let d : count - i ≡ 0 = omega arith in
      record {
        uses_are = rw d at h.uses_left;
        bytes_are = sym (stored_nil tree (at + binding_size * i)) ∙ (rw d at h.bytes_left);
      }

counted_bound : (w : List ℕ) (first count : ℕ) (u : Uses) → BindingsAsked w first count → Counted u → Counted (bound_uses w first count u)
unfolding bound_uses
counted_bound w first zero u a h = h
counted_bound w first (suc count) u a h =
    counted_bound w (first + 1) count (with_class u (binding_path w first))
    (record {
      room = a.room;
      inside = omega (arith, a.inside);
      classes = λ i l. let e : first + 1 + i ≡ first + (i + 1) = omega arith in rw e (a.classes (i + 1) (omega arith));
    })
    (counted_with u (binding_path w first) h (let e = add-zero first in rw e at (a.classes 0 (omega arith))))

-- a class that was used has a number
pub used_some : (u v : Uses) (class : ℕ) → v ≡ with_class u class → Counted u → class < patterns_most → 0 < get_or v.number class 0
used_some u v class e h l = rw e (use_some u class h l)

-- ---- cases
pub record CasesLeft (w : List ℕ) (stand : ℕ → ℕ) (first count at : ℕ) (before tree : List ℕ) (i : ℕ) : Type 0 where
  pub long : length tree ≡ length before
  pub bytes_left : stored tree (at + case_size * i) (moved_cases w stand (first + i) (count - i)) ≡ stored before at (moved_cases w stand first count)

module _ {w : List ℕ} {stand : ℕ → ℕ} {first count at : ℕ} {before tree : List ℕ} {i : ℕ} (h : CasesLeft w stand first count at before tree i) where
  pub cases_next : i < count → {child moved : ℕ} {tree₂ : List ℕ} → child ≡ case_child w (first + i) → moved ≡ stand child
      → tree₂ ≡ stored tree (at + case_size * i) (moved_case w (first + i) moved) → CasesLeft w stand first count at before tree₂ (i + 1)
  unfolding moved_cases case_fields
  cases_next l e f g =
      let d : count - i ≡ suc (count - (i + 1)) = omega arith in
      let q : first + i + 1 ≡ first + (i + 1) = omega arith in
      let x : at + case_size * i + case_size ≡ at + case_size * (i + 1) = omega arith in
      let here = moved_case w (first + i) (stand (case_child w (first + i))) in
      let g₂ = g ∙ ap (λ z. stored tree (at + case_size * i) (moved_case w (first + i) z)) (f ∙ ap stand e) in
      record {
        long = ap length g₂ ∙ length_stored tree (at + case_size * i) here ∙ h.long;
        bytes_left =
            rw (g₂, ← q)
            (stored_append tree (at + case_size * i) (at + case_size * (i + 1)) here (moved_cases w stand (first + i + 1) (count - (i + 1))) x ∙ (rw d at h.bytes_left));
      }

  pub cases_end : count ≤ i → tree ≡ stored before at (moved_cases w stand first count)
  unfolding moved_cases
  cases_end l =
      let d : count - i ≡ 0 = omega arith in
      sym (stored_nil tree (at + case_size * i)) ∙ (rw d at h.bytes_left)

-- where two answers of where nodes stand are the same for the children, so are the references
moved_cases_same : (w : List ℕ) (f g : ℕ → ℕ) (i n : ℕ) → ((j : ℕ) → j < n → f (case_child w (i + j)) ≡ g (case_child w (i + j))) → moved_cases w f i n ≡ moved_cases w g i n
unfolding moved_cases
moved_cases_same w f g i zero h = refl
moved_cases_same w f g i (suc n) h =
    let z = add-zero i in
    ap₂ (λ x y. moved_case w i x ++ y) (rw z at (h 0 (omega arith)))
    (moved_cases_same w f g (i + 1) n (λ j l. let e : i + 1 + j ≡ i + (j + 1) = omega arith in rw e (h (j + 1) (omega arith))))

moved_default_same : (f g : ℕ → ℕ) (default : ℕ) → ((default ≡ 0 → ⊥) → f (default - 1) ≡ g (default - 1)) → moved_default f default ≡ moved_default g default
unfolding moved_default
moved_default_same f g default h = go (eqb default 0) refl
  where
    go : (b : Bool) → eqb default 0 ≡ b → pick (eqb default 0) 0 (f (default - 1) + 1) ≡ pick (eqb default 0) 0 (g (default - 1) + 1)
    go true e = rw e
    go false e = rw (e, h (eqb-false default 0 e))

-- ---- a default
pub moved_none : (stand : ℕ → ℕ) (default : ℕ) → default ≡ 0 → moved_default stand default ≡ 0
unfolding moved_default
moved_none stand default e = pick_true (eqb default 0) 0 (stand (default - 1) + 1) (eq-eqb default 0 e)

pub moved_some : (stand : ℕ → ℕ) (default : ℕ) → (default ≡ 0 → ⊥) → moved_default stand default ≡ stand (default - 1) + 1
unfolding moved_default
moved_some stand default e = pick_false (eqb default 0) 0 (stand (default - 1) + 1) (ne_eqb default 0 e)

-- ---- hoists
module _ (w : List ℕ) (at : ℕ) (x : Places) (k c : ℕ) (o : Out) where
  pub hoist_here : clause_node x c ≡ k → hoist_out w at x k c o ≡ bound_out w at (get_or x.leaf c 0) hoist_node (o.tops.nodes + 1) o
  unfolding hoist_out
  hoist_here e = pick_true (eqb (clause_node x c) k) (bound_out w at (get_or x.leaf c 0) hoist_node (o.tops.nodes + 1) o) o (eq-eqb (clause_node x c) k e)

  pub hoist_elsewhere : (clause_node x c ≡ k → ⊥) → hoist_out w at x k c o ≡ o
  unfolding hoist_out
  hoist_elsewhere e = pick_false (eqb (clause_node x c) k) (bound_out w at (get_or x.leaf c 0) hoist_node (o.tops.nodes + 1) o) o (ne_eqb (clause_node x c) k e)

  -- whichever it is
  by_hoist : (P : Out → Type 0) → (clause_node x c ≡ k → P (bound_out w at (get_or x.leaf c 0) hoist_node (o.tops.nodes + 1) o)) → P o → P (hoist_out w at x k c o)
  by_hoist P f g = go (eqb (clause_node x c) k) refl
    where
      go : (b : Bool) → eqb (clause_node x c) k ≡ b → P (hoist_out w at x k c o)
      go true e = let z = eqb-true (clause_node x c) k e in rw (hoist_here z) (f z)
      go false e = rw (hoist_elsewhere (eqb-false (clause_node x c) k e)) g

-- nothing written is taken back
pub record Grown (f g : Reach) : Type 0 where
  pub nodes_grow : f.nodes ≤ g.nodes
  pub cases_grow : f.cases ≤ g.cases
  pub bindings_grow : f.bindings ≤ g.bindings

grown_refl : (f : Reach) → Grown f f
grown_refl f = record { nodes_grow = omega arith; cases_grow = omega arith; bindings_grow = omega arith }

grown_trans : (f g h : Reach) → Grown f g → Grown g h → Grown f h
grown_trans f g h a b =
    record {
      nodes_grow = omega (arith, a.nodes_grow, b.nodes_grow);
      cases_grow = omega (arith, a.cases_grow, b.cases_grow);
      bindings_grow = omega (arith, a.bindings_grow, b.bindings_grow);
    }

within_before : (f g : Reach) → Grown f g → Within g → Within f
within_before f g a h =
    record {
      nodes_most_holds = omega (arith, a.nodes_grow, h.nodes_most_holds);
      cases_most_holds = omega (arith, a.cases_grow, h.cases_most_holds);
      bindings_most_holds = omega (arith, a.bindings_grow, h.bindings_most_holds);
    }

bound_grows : (w : List ℕ) (at leaf kind child : ℕ) (o : Out) → Grown o.tops (bound_out w at leaf kind child o).tops
unfolding bound_out
bound_grows w at leaf kind child o = record { nodes_grow = omega arith; cases_grow = omega arith; bindings_grow = omega arith }

switch_grows : (w : List ℕ) (at : ℕ) (stand : ℕ → ℕ) (k : ℕ) (o : Out) → Grown o.tops (switch_out w at stand k o).tops
unfolding switch_out
switch_grows w at stand k o = record { nodes_grow = omega arith; cases_grow = omega arith; bindings_grow = omega arith }

hoist_grows : (w : List ℕ) (at : ℕ) (x : Places) (k c : ℕ) (o : Out) → Grown o.tops (hoist_out w at x k c o).tops
hoist_grows w at x k c o =
    by_hoist w at x k c o (λ z. Grown o.tops z.tops) (λ e. bound_grows w at (get_or x.leaf c 0) hoist_node (o.tops.nodes + 1) o) (grown_refl o.tops)

hoists_grow : (w : List ℕ) (at : ℕ) (x : Places) (k c n : ℕ) (o : Out) → Grown o.tops (hoists_out w at x k c n o).tops
unfolding hoists_out
hoists_grow w at x k c zero o = grown_refl o.tops
hoists_grow w at x k c (suc n) o =
    grown_trans o.tops (hoist_out w at x k c o).tops (hoists_out w at x k (c + 1) n (hoist_out w at x k c o)).tops (hoist_grows w at x k c o)
    (hoists_grow w at x k (c + 1) n (hoist_out w at x k c o))

-- ---- the loop over the clauses: what is left from clause c on
pub record HoistsLeft (w : List ℕ) (at : ℕ) (x : Places) (k clauses : ℕ) (before : List ℕ) (f : Reach) (tree : List ℕ) (g : Reach) (c : ℕ) : Type 0 where
  pub counted : Counted g.uses
  pub long : length tree ≡ length before
  pub left : hoists_out w at x k c (clauses - c) (out_of tree g) ≡ hoists_out w at x k 0 clauses (out_of before f)

-- with no clause hoisted there nothing is written
pub hoists_none : (w : List ℕ) (at : ℕ) (x : Places) (k c n : ℕ) (o : Out) → ((d : ℕ) → c ≤ d → d < c + n → clause_node x d ≡ k → ⊥) → o ≡ hoists_out w at x k c n o
unfolding hoists_out
hoists_none w at x k c zero o none = refl
hoists_none w at x k c (suc n) o none =
    hoists_none w at x k (c + 1) n o (λ d i j. none d (omega arith) (omega arith))
    ∙ sym (ap (hoists_out w at x k (c + 1) n) (hoist_elsewhere w at x k c o (none c (omega arith) (omega arith))))

pub hoists_start : (w : List ℕ) (at : ℕ) (x : Places) (k clauses : ℕ) (before : List ℕ) (f : Reach) → Counted f.uses → HoistsLeft w at x k clauses before f before f 0
hoists_start w at x k clauses before f h = record { counted = h; long = refl; left = rw (sub-zero clauses) }

pub hoists_end : {w : List ℕ} {at : ℕ} {x : Places} {k clauses : ℕ} {before : List ℕ} {f : Reach} {tree : List ℕ} {g : Reach} {c : ℕ} → HoistsLeft w at x k clauses before f tree g c
    → clauses ≤ c → out_of tree g ≡ hoists_out w at x k 0 clauses (out_of before f)
unfolding hoists_out
hoists_end {clauses = clauses} {c = c} h l = let d : clauses - c ≡ 0 = omega arith in rw d at h.left

module _ {w : List ℕ} {at : ℕ} {x : Places} {k clauses : ℕ} {before : List ℕ} {f : Reach} {shift tree : List ℕ} {g : Reach} {c : ℕ} (a : HoistsAsked w k x clauses shift at before f)
    (h : HoistsLeft w at x k clauses before f tree g c) (l : c < clauses) where
  abbrev hoisted : Out
  hoisted = hoist_out w at x k c (out_of tree g)

  hoists_on : hoists_out w at x k c (clauses - c) (out_of tree g) ≡ hoists_out w at x k (c + 1) (clauses - (c + 1)) hoisted
  unfolding hoists_out
  hoists_on = let d : clauses - c ≡ suc (clauses - (c + 1)) = omega arith in rw d

  hoisted_within : Within hoisted.tops
  hoisted_within =
      within_before hoisted.tops (hoists_out w at x k (c + 1) (clauses - (c + 1)) hoisted).tops (hoists_grow w at x k (c + 1) (clauses - (c + 1)) hoisted)
      (subst (λ z. Within z.tops) (sym h.left ∙ hoists_on) a.within)

  pub hoist_asked : clause_node x c ≡ k → BoundAsked w (get_or x.leaf c 0) at tree g
  unfolding bound_out
  hoist_asked e =
      let n = subst (λ z. Within z.tops) (hoist_here w at x k c (out_of tree g) e) hoisted_within in
      record {
        sound = a.leaf c l e;
        tree_room_holds = omega (arith, a.tree_room_holds, h.long);
        start = a.start;
        counted = h.counted;
        nodes_fit = omega (arith, n.nodes_most_holds);
        bindings_fit = n.bindings_most_holds;
      }

  hoisted_counted : Counted hoisted.tops.uses
  unfolding bound_out
  hoisted_counted =
      by_hoist w at x k c (out_of tree g) (λ z. Counted z.tops.uses)
      (λ e. counted_bound w (node_word w (get_or x.leaf c 0) first_binding_word) (node_word w (get_or x.leaf c 0) bindings_word) g.uses (a.leaf c l e).bindings h.counted) h.counted

  pub hoists_next : {tree₂ : List ℕ} {g₂ : Reach} → length tree₂ ≡ length tree → out_of tree₂ g₂ ≡ hoisted → HoistsLeft w at x k clauses before f tree₂ g₂ (c + 1)
  hoists_next m e =
      record {
        counted = subst (λ z. Counted z.tops.uses) (sym e) hoisted_counted;
        long = m ∙ h.long;
        left = ap (hoists_out w at x k (c + 1) (clauses - (c + 1))) e ∙ sym hoists_on ∙ h.left;
      }

bound_counted : (w : List ℕ) (at leaf kind child : ℕ) (o : Out) → BindingsAsked w (node_word w leaf first_binding_word) (node_word w leaf bindings_word) → Counted o.tops.uses
    → Counted (bound_out w at leaf kind child o).tops.uses
unfolding bound_out
bound_counted w at leaf kind child o a h = counted_bound w (node_word w leaf first_binding_word) (node_word w leaf bindings_word) o.tops.uses a h

switch_counted : (w : List ℕ) (at : ℕ) (stand : ℕ → ℕ) (k : ℕ) (o : Out) → Counted o.tops.uses → node_word w k path_word < patterns_most
    → Counted (switch_out w at stand k o).tops.uses
unfolding switch_out
switch_counted w at stand k o h l = counted_with o.tops.uses (node_word w k path_word) h l

hoists_counted : (w : List ℕ) (at : ℕ) (x : Places) (k c n m : ℕ) (o : Out) → c + n ≤ m → ((d : ℕ) → d < m → clause_node x d ≡ k → LeafSound w (get_or x.leaf d 0))
    → Counted o.tops.uses → Counted (hoists_out w at x k c n o).tops.uses
unfolding hoists_out bound_out
hoists_counted w at x k c zero m o l s h = h
hoists_counted w at x k c (suc n) m o l s h =
    hoists_counted w at x k (c + 1) n m (hoist_out w at x k c o) (omega arith) s
    (by_hoist w at x k c o (λ z. Counted z.tops.uses)
    (λ e. counted_bound w (node_word w (get_or x.leaf c 0) first_binding_word) (node_word w (get_or x.leaf c 0) bindings_word) o.tops.uses (s c (omega arith) e).bindings h) h)

-- ---- a node
-- by the table of how far nodes are moved, a node is written with its references where their nodes come to stand
pub own_moved : (w : List ℕ) (cases_at bindings_at : ℕ) (node : ℕ → ℕ) (n nodes k : ℕ) (shift : List ℕ) (o : Out) → Shifted node n nodes shift
    → ((node_kind w k ≡ leaf_node → ⊥) → SwitchInside w k nodes) → own_out w cases_at bindings_at (moved_by shift) k o ≡ own_out w cases_at bindings_at (stands_at node n) k o
unfolding own_out switch_out switch_bytes stands_at
own_moved w cases_at bindings_at node n nodes k shift o s b = go (eqb (node_kind w k) leaf_node) refl
  where
    same : (j : ℕ) → j ≤ nodes → moved_by shift j ≡ stands_at node n j
    same j l = ap (λ z. j + z) (s.shift_is j l)

    go : (t : Bool) → eqb (node_kind w k) leaf_node ≡ t
        → pick (eqb (node_kind w k) leaf_node) (bound_out w bindings_at k leaf_node 0 o) (switch_out w cases_at (moved_by shift) k o)
        ≡ pick (eqb (node_kind w k) leaf_node) (bound_out w bindings_at k leaf_node 0 o) (switch_out w cases_at (stands_at node n) k o)
    go true e = rw e
    go false e =
        let i = b (eqb-false (node_kind w k) leaf_node e) in
        let cases = moved_cases_same w (moved_by shift) (stands_at node n) (node_word w k first_case_word) (node_word w k cases_word + node_word w k tail_cases_word)
        (λ j l. same (case_child w (node_word w k first_case_word + j)) (omega (arith, i.cases.children j l))) in
        let default = moved_default_same (moved_by shift) (stands_at node n) (node_word w k default_word) (λ z. same (node_word w k default_word - 1) (omega (arith, i.default))) in
        rw (e, cases, default)

module _ (w : List ℕ) (cases_at bindings_at : ℕ) (stand : ℕ → ℕ) (k : ℕ) (o : Out) where
  pub own_leaf : node_kind w k ≡ leaf_node → own_out w cases_at bindings_at stand k o ≡ bound_out w bindings_at k leaf_node 0 o
  unfolding own_out
  own_leaf e = pick_true (eqb (node_kind w k) leaf_node) (bound_out w bindings_at k leaf_node 0 o) (switch_out w cases_at stand k o) (eq-eqb (node_kind w k) leaf_node e)

  pub own_switch : (node_kind w k ≡ leaf_node → ⊥) → own_out w cases_at bindings_at stand k o ≡ switch_out w cases_at stand k o
  unfolding own_out
  own_switch e = pick_false (eqb (node_kind w k) leaf_node) (bound_out w bindings_at k leaf_node 0 o) (switch_out w cases_at stand k o) (ne_eqb (node_kind w k) leaf_node e)

  by_own : (P : Out → Type 0) → (node_kind w k ≡ leaf_node → P (bound_out w bindings_at k leaf_node 0 o)) → ((node_kind w k ≡ leaf_node → ⊥) → P (switch_out w cases_at stand k o))
      → P (own_out w cases_at bindings_at stand k o)
  by_own P f g = go (eqb (node_kind w k) leaf_node) refl
    where
      go : (b : Bool) → eqb (node_kind w k) leaf_node ≡ b → P (own_out w cases_at bindings_at stand k o)
      go true e = let z = eqb-true (node_kind w k) leaf_node e in rw (own_leaf z) (f z)
      go false e = let z = eqb-false (node_kind w k) leaf_node e in rw (own_switch z) (g z)

  own_grows : Grown o.tops (own_out w cases_at bindings_at stand k o).tops
  own_grows = by_own (λ z. Grown o.tops z.tops) (λ e. bound_grows w bindings_at k leaf_node 0 o) (λ e. switch_grows w cases_at stand k o)

node_grows : (w : List ℕ) (cases_at bindings_at : ℕ) (x : Places) (n k : ℕ) (o : Out) → Grown o.tops (node_out w cases_at bindings_at x n k o).tops
unfolding node_out
node_grows w cases_at bindings_at x n k o =
    let up = hoists_out w bindings_at x k 0 n o in
    grown_trans o.tops up.tops (own_out w cases_at bindings_at (stands_at (clause_node x) n) k up).tops (hoists_grow w bindings_at x k 0 n o)
    (own_grows w cases_at bindings_at (stands_at (clause_node x) n) k up)

nodes_grow : (w : List ℕ) (cases_at bindings_at : ℕ) (x : Places) (n k m : ℕ) (o : Out) → Grown o.tops (nodes_out w cases_at bindings_at x n k m o).tops
unfolding nodes_out
nodes_grow w cases_at bindings_at x n k zero o = grown_refl o.tops
nodes_grow w cases_at bindings_at x n k (suc m) o =
    let next = node_out w cases_at bindings_at x n k o in
    grown_trans o.tops next.tops (nodes_out w cases_at bindings_at x n (k + 1) m next).tops (node_grows w cases_at bindings_at x n k o)
    (nodes_grow w cases_at bindings_at x n (k + 1) m next)

module _ {w : List ℕ} {k : ℕ} {x : Places} {clauses : ℕ} {shift : List ℕ} {cases_at bindings_at : ℕ} {tree : List ℕ} {f : Reach}
    (a : NodeAsked w k x clauses shift cases_at bindings_at tree f) where
  abbrev lifted : Out
  lifted = hoists_out w bindings_at x k 0 clauses (out_of tree f)

  own_within : Within (own_out w cases_at bindings_at (stands_at (clause_node x) clauses) k lifted).tops
  unfolding node_out
  own_within = a.within

  leaves_sound : (c : ℕ) → c < clauses → clause_node x c ≡ k → LeafSound w (get_or x.leaf c 0)
  leaves_sound c l e = a.sound.hoist c l (omega (arith, a.inside))

  pub hoists_asked : HoistsAsked w k x clauses shift bindings_at tree f
  hoists_asked =
      record {
        few = a.sound.few;
        node = omega (arith, a.inside, a.sound.most);
        none_here = no_hoists (clause_node x) clauses a.nodes shift a.shifted k a.inside;
        leaf = leaves_sound;
        tree_room_holds = a.file.tree_room_holds;
        start = a.file.bindings_start_holds;
        counted = a.counted;
        within = within_before lifted.tops (own_out w cases_at bindings_at (stands_at (clause_node x) clauses) k lifted).tops (own_grows w cases_at bindings_at (stands_at (clause_node x) clauses) k lifted) own_within;
      }

  module _ {tree₂ : List ℕ} {g : Reach} (m : length tree₂ ≡ length tree) (e : out_of tree₂ g ≡ lifted) where
    g_counted : Counted g.uses
    g_counted =
        subst (λ z. Counted z.tops.uses) (sym e) (hoists_counted w bindings_at x k 0 clauses clauses (out_of tree f) (omega arith) leaves_sound a.counted)

    g_within : Within (own_out w cases_at bindings_at (stands_at (clause_node x) clauses) k (out_of tree₂ g)).tops
    g_within = subst (λ z. Within (own_out w cases_at bindings_at (stands_at (clause_node x) clauses) k z).tops) (sym e) own_within

    pub own_asked : OwnAsked w k cases_at bindings_at tree₂ g
    unfolding bound_out switch_out
    own_asked =
        record {
          room = a.sound.room;
          node = omega (arith, a.inside, a.sound.most);
          leaf = λ q.
              let n = subst (λ z. Within z.tops) (own_leaf w cases_at bindings_at (stands_at (clause_node x) clauses) k (out_of tree₂ g) q) g_within in
              record {
                sound = a.sound.leaf k a.inside q;
                tree_room_holds = omega (arith, a.file.tree_room_holds);
                start = a.file.bindings_start_holds;
                counted = g_counted;
                nodes_fit = omega (arith, n.nodes_most_holds);
                bindings_fit = n.bindings_most_holds;
              };
          switch = λ q.
              let n = subst (λ z. Within z.tops) (own_switch w cases_at bindings_at (stands_at (clause_node x) clauses) k (out_of tree₂ g) q) g_within in
              record {
                asked = record {
                  sound = a.sound.switch k a.inside q;
                  tree_room_holds = omega (arith, a.file.tree_room_holds);
                  counted = g_counted;
                  nodes_fit = omega (arith, n.nodes_most_holds);
                  cases_fit = n.cases_most_holds;
                };
                start = a.file.cases_start_holds;
              };
        }

  node_counted : Counted (node_out w cases_at bindings_at x clauses k (out_of tree f)).tops.uses
  unfolding node_out
  node_counted =
      by_own w cases_at bindings_at (stands_at (clause_node x) clauses) k lifted (λ z. Counted z.tops.uses)
      (λ q. bound_counted w bindings_at k leaf_node 0 lifted (a.sound.leaf k a.inside q).bindings up) (λ q. switch_counted w cases_at (stands_at (clause_node x) clauses) k lifted up (a.sound.switch k a.inside q).path)
    where
      up : Counted lifted.tops.uses
      up = hoists_counted w bindings_at x k 0 clauses clauses (out_of tree f) (omega arith) leaves_sound a.counted

-- ---- the loop over the nodes
pub record NodesLeft (w : List ℕ) (nodes : ℕ) (x : Places) (clauses cases_at bindings_at : ℕ) (before : List ℕ) (f : Reach) (tree : List ℕ) (g : Reach) (k : ℕ) : Type 0 where
  pub counted : Counted g.uses
  pub long : length tree ≡ length before
  pub left : nodes_out w cases_at bindings_at x clauses k (nodes - k) (out_of tree g) ≡ nodes_out w cases_at bindings_at x clauses 0 nodes (out_of before f)

pub nodes_end : {w : List ℕ} {nodes : ℕ} {x : Places} {clauses cases_at bindings_at : ℕ} {before : List ℕ} {f : Reach} {tree : List ℕ} {g : Reach} {k : ℕ}
    → NodesLeft w nodes x clauses cases_at bindings_at before f tree g k → nodes ≤ k → out_of tree g ≡ nodes_out w cases_at bindings_at x clauses 0 nodes (out_of before f)
unfolding nodes_out
nodes_end {nodes = nodes} {k = k} h l = let d : nodes - k ≡ 0 = omega arith in rw d at h.left

module _ {w : List ℕ} {nodes : ℕ} {x : Places} {clauses cases_at bindings_at : ℕ} {before : List ℕ} {f : Reach} {shift tree : List ℕ} {g : Reach} {k : ℕ}
    (a : NodesAsked w nodes x clauses shift cases_at bindings_at before f) (h : NodesLeft w nodes x clauses cases_at bindings_at before f tree g k) (l : k < nodes) where
  abbrev turn : Out
  turn = node_out w cases_at bindings_at x clauses k (out_of tree g)

  nodes_on : nodes_out w cases_at bindings_at x clauses k (nodes - k) (out_of tree g) ≡ nodes_out w cases_at bindings_at x clauses (k + 1) (nodes - (k + 1)) turn
  unfolding nodes_out
  nodes_on = let d : nodes - k ≡ suc (nodes - (k + 1)) = omega arith in rw d

  pub node_asked : NodeAsked w k x clauses shift cases_at bindings_at tree g
  node_asked =
      record {
        nodes = nodes;
        sound = a.sound;
        shifted = a.shifted;
        inside = l;
        file = record {
          tree_room_holds = omega (arith, a.file.tree_room_holds, h.long);
          cases_start_holds = a.file.cases_start_holds;
          bindings_start_holds = a.file.bindings_start_holds;
        };
        counted = h.counted;
        within =
            within_before turn.tops (nodes_out w cases_at bindings_at x clauses (k + 1) (nodes - (k + 1)) turn).tops
            (nodes_grow w cases_at bindings_at x clauses (k + 1) (nodes - (k + 1)) turn)
            (subst (λ z. Within z.tops) (sym h.left ∙ nodes_on) a.within);
      }

  pub nodes_next : {tree₂ : List ℕ} {g₂ : Reach} → length tree₂ ≡ length tree → out_of tree₂ g₂ ≡ turn → NodesLeft w nodes x clauses cases_at bindings_at before f tree₂ g₂ (k + 1)
  nodes_next m e =
      record {
        counted = subst (λ z. Counted z.tops.uses) (sym e) (node_counted node_asked);
        long = m ∙ h.long;
        left = ap (nodes_out w cases_at bindings_at x clauses (k + 1) (nodes - (k + 1))) e ∙ sym nodes_on ∙ h.left;
      }
