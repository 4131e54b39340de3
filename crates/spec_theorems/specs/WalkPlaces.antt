-- Where a walk ends: the node that it goes on to is the one whose walk it is, the place of 32 is never made up, and both its numbers fit
-- 16 bits. A node is looked at with whatever trees its children stand for, so that going on by numbers is going on by trees.
use Prim.Native.Nat.{ℕ, zero, suc, ◌+◌, ◌-◌, ◌≤◌, ◌<◌}
use native.Mathlib.Omega.{arith}
use Rattle.std.proofs.Math.Path.{◌≡◌, refl, sym, ap}
use Rattle.std.proofs.Common.{◌∙◌, ⊎_elim, eq-eqb}
use Rattle.std.specs.Prelude.{◌⊎◌, Bool, eqb, leb, length}
use Rattle.std.proofs.Math.Logic.{inl, inr}
use Rattle.std.proofs.Math.Bool.{true, false}
use Rattle.std.proofs.lemmas.Bool.{false≢true}
use mathlib.Core.List.{List, [], ◌∷◌, ◌++◌}
use Rattle.std.proofs.Math.Option.{Option, none, some}
use Rattle.base_words.specs.Words.{pick}
use Rattle.spec_rules.specs.Kinds.{list_record}
use Rattle.spec_rules.specs.Searching.{lowest}
use Rattle.spec_rules.specs.Rows.{Path, Binding}
use Rattle.spec_rules.specs.SheetRefusals.{is_in}
use Rattle.spec_rules.specs.Splitting.{Test, ListOf, ListWithTail, same_test}
use Rattle.spec_rules.specs.Building.{Tree}
use Rattle.spec_rules.specs.PanelFile.{record_kind, record_count}
use Rattle.spec_rules.specs.TreeReader.{nodes, node_kind, node_path, node_first_case, node_cases, node_tail_cases, node_default, node_clause, node_first_binding, node_bindings, node_child, case_child, tree_fits, NodeKind, Switch, List_switch, Leaf, Hoist_node, Unknown_node, node_kind_of, case_test, case_children, default_child, children_of_kind, node_children, path_at, bindings_from, cases_for, default_for, node_for, tree_below, tree_of}
use Rattle.spec_rules.specs.Walking.{Position, panel_root, take_step, follow, Bound, bound, Walked, reached, no_leaf, stuck, at_leaf, shown_at, length_at, test_kind, first_kind, of_this_kind, at_part, of_length, at_list, tail_number, largest_tail, at_tail, walk, walk_cases}
use Rattle.spec_rules.specs.WalkPlaces.{steps_taken, first_stuck, step_at_kind, numbered, child_reached, goes_on_by_kind, goes_on, last_from, last_node, stuck_step}
use Rattle.spec_rules.specs.WalkPlacesLaws.{all_taken}
use Rattle.spec_accepted.specs.KindsLaws.{node_byte}
use Rattle.spec_accepted.specs.TreeFacts.{TreeSound, tree_sound, only_listed, default_listed, is_in_left, is_in_right, tree_below_open}
use Rattle.spec_accepted.specs.WalkRunsLaws.{chosen_walk, walk_run, chosen_listed, case_children_add, first_kind_lem, nodes_small, stuck_step_small}
use Rattle.spec_theorems.specs.Said.{StepFails, not_of_its_cases, no_list, BindingFails, StuckThere, at_a_step, at_a_test, at_a_binding, LeafThere, LeadsOn}

-- ---- a path that cannot be followed, and bindings that cannot: which step of which
-- LEMMA: `steps_taken` is the number of the step that could not be taken
pub step_fails : (v : List ℕ) (p : Path) (x : Position) → follow v p x ≡ none → StepFails v p x (steps_taken v p x)
unfolding follow steps_taken
step_fails v [] x e = let z : ◌≡◌ {A = ℕ} 0 1 = cc in absurd (omega arith)
step_fails v (s ∷ p) x e = go (take_step v s x) refl (λ y. step_fails v p y)
  where
    go : (o : Option Position) → take_step v s x ≡ o → ((y : Position) → follow v p y ≡ none → StepFails v p y (steps_taken v p y))
        → StepFails v (s ∷ p) x (steps_taken v (s ∷ p) x)
    go none q ih = rw (q, steps_taken) (record { before = []; step = s; after = p; from = x; is_path = refl; its_number = refl; taken = refl; not_taken = q })
    go (some y) q ih =
        let w = ih y (rw (q, follow) at e) in
        rw (q, steps_taken)
        (record {
          before = s ∷ w.before;
          step = w.step;
          after = w.after;
          from = w.from;
          is_path = ap (λ (r : Path). s ∷ r) w.is_path;
          its_number = ap suc w.its_number;
          taken = rw (q, follow) w.taken;
          not_taken = w.not_taken;
        })

-- LEMMA: `first_stuck` is that of the first binding that sticks
pub binding_fails : (v : List ℕ) (bs : List Binding) → bound v bs ≡ none → BindingFails v bs (first_stuck v bs)
unfolding bound first_stuck
binding_fails v [] e = let z : ◌≡◌ {A = ℕ} 0 1 = cc in absurd (omega arith)
binding_fails v (b ∷ bs) e = go (follow v b.path panel_root) refl (bound v bs) refl (binding_fails v bs)
  where
    go : (o : Option Position) → follow v b.path panel_root ≡ o → (r : Option (List Bound)) → bound v bs ≡ r
        → (bound v bs ≡ none → BindingFails v bs (first_stuck v bs)) → BindingFails v (b ∷ bs) (first_stuck v (b ∷ bs))
    go none q r g ih =
        rw (q, first_stuck) (record { before = []; binding = b; after = bs; are_bindings = refl; followed = tt; fails = step_fails v b.path panel_root q })
    go (some x) q none g ih =
        let w = ih g in
        rw (q, first_stuck)
        (record {
          before = b ∷ w.before;
          binding = w.binding;
          after = w.after;
          are_bindings = ap (λ (cs : List Binding). b ∷ cs) w.are_bindings;
          followed = ((x, q), w.followed);
          fails = w.fails;
        })
    go (some x) q (some xs) g ih =
        let f : some (record { name = b.name; position = x } ∷ xs) ≡ none = rw (q, g, bound) at e in
        let z : ◌≡◌ {A = ℕ} 0 1 = cc in
        absurd (omega arith)

-- ---- the ways of a walk that hangs on the trees of the nodes cs: to one of these, out with No leaf, or stuck for a reason
pub data Ways (v cs : List ℕ) (goes : (ℕ → Tree) → Walked) (Reason : Type 0) : Type 0 where
  to : (c : ℕ) → is_in c cs ≡ true → ((f : ℕ → Tree) → goes f ≡ walk (f c) v) → Ways v cs goes Reason
  out : ((f : ℕ → Tree) → goes f ≡ no_leaf) → Ways v cs goes Reason
  sticks : Reason → ((f : ℕ → Tree) → goes f ≡ stuck) → Ways v cs goes Reason

-- a walk that is the same; and one with more nodes to go to
module _ (v cs : List ℕ) (goes : (ℕ → Tree) → Walked) (Reason : Type 0) where
  ways_same : (walks : (ℕ → Tree) → Walked) → ((f : ℕ → Tree) → walks f ≡ goes f) → Ways v cs goes Reason → Ways v cs walks Reason
  ways_same walks e (to c h g) = to c h (λ f. e f ∙ g f)
  ways_same walks e (out g) = out (λ f. e f ∙ g f)
  ways_same walks e (sticks r g) = sticks r (λ f. e f ∙ g f)

  ways_more : (ds : List ℕ) → ((c : ℕ) → is_in c cs ≡ true → is_in c ds ≡ true) → Ways v cs goes Reason → Ways v ds goes Reason
  ways_more ds more (to c h g) = to c (more c h) g
  ways_more ds more (out g) = out g
  ways_more ds more (sticks r g) = sticks r g

-- ---- the default, and a run of cases before it
module _ (t v : List ℕ) (Reason : Type 0) where
  default_ways : (d : ℕ) → Ways v (default_child d) (λ f. walk (default_for f d) v) Reason
  unfolding default_for walk
  default_ways zero = out (λ f. refl)
  default_ways (suc d) = to d (default_listed d) (λ f. refl)

  run_ways : (x : Test) (i n : ℕ) (rest : List ℕ) (o : (ℕ → Tree) → Walked) → Ways v rest o Reason
      → Ways v (case_children t i n ++ rest) (λ f. walk_cases (cases_for f t i n) x v (λ u. o f)) Reason
  run_ways x i n rest o w = go (lowest (λ j. same_test x (case_test t j)) i n) refl
    where
      go : (q : Option ℕ) → lowest (λ j. same_test x (case_test t j)) i n ≡ q
          → Ways v (case_children t i n ++ rest) (λ f. walk_cases (cases_for f t i n) x v (λ u. o f)) Reason
      go none e =
          ways_same v (case_children t i n ++ rest) o Reason (λ f. walk_cases (cases_for f t i n) x v (λ u. o f))
          (λ f. walk_run f t v x (o f) i n ∙ ap (λ (q : Option ℕ). chosen_walk f t v q (o f)) e)
          (ways_more v rest o Reason (case_children t i n ++ rest) (λ c. is_in_right c (case_children t i n) rest) w)
      go (some j) e =
          to (case_child t j) (is_in_left (case_child t j) (case_children t i n) rest (chosen_listed t x i n j e))
          (λ f. walk_run f t v x (o f) i n ∙ ap (λ (q : Option ℕ). chosen_walk f t v q (o f)) e)

  -- cases and tail cases are one run of the file
  ways_joined : (i n m d : ℕ) (goes : (ℕ → Tree) → Walked) → Ways v (case_children t i n ++ (case_children t (i + n) m ++ default_child d)) goes Reason
      → Ways v (case_children t i (n + m) ++ default_child d) goes Reason
  ways_joined i n m d goes w = rw (case_children_add t i n m (default_child d)) at w

  -- a switch: the first case that holds, then the default
  switch_run_ways : (x : Test) (i n m d : ℕ)
      → Ways v (case_children t i (n + m) ++ default_child d) (λ f. walk_cases (cases_for f t i n) x v (λ else. walk (default_for f d) v)) Reason
  switch_run_ways x i n m d =
      ways_joined i n m d (λ f. walk_cases (cases_for f t i n) x v (λ else. walk (default_for f d) v))
      (run_ways x i n (case_children t (i + n) m ++ default_child d) (λ f. walk (default_for f d) v)
      (ways_more v (default_child d) (λ f. walk (default_for f d) v) Reason (case_children t (i + n) m ++ default_child d)
      (λ c. is_in_right c (case_children t (i + n) m) (default_child d)) (default_ways d)))

-- ---- which kind a switch tests, and which tail a list switch takes, do not hang on the trees of the children
first_same : (f g : ℕ → Tree) (t : List ℕ) (i n : ℕ) → first_kind (cases_for f t i n) ≡ first_kind (cases_for g t i n)
unfolding first_kind cases_for
first_same f g t i zero = refl
first_same f g t i (suc n) = refl

tail_same : (f g : ℕ → Tree) (t : List ℕ) (long i n : ℕ) → largest_tail long (cases_for f t i n) ≡ largest_tail long (cases_for g t i n)
unfolding largest_tail cases_for
tail_same f g t long i zero = refl
tail_same f g t long i (suc n) =
    ap (λ (m : ℕ). elim (leb (tail_number long (case_test t i)) m) [ true ↦ m | false ↦ tail_number long (case_test t i) ]) (tail_same f g t long (i + 1) n)

-- ---- a list switch: the cases of the exact length, then those of the largest tail number, then the default
module _ (t v : List ℕ) (Reason : Type 0) (long d : ℕ) where
  abbrev tails_walk : ℕ → ℕ → (ℕ → Tree) → Walked
  tails_walk i n f =
      at_tail (largest_tail long (cases_for f t i n))
      (λ k. walk_cases (cases_for f t i n) (ListWithTail k) v (λ else. walk (default_for f d) v)) (λ else. walk (default_for f d) v)

  tails_ways : (i n : ℕ) → Ways v (case_children t i n ++ default_child d) (tails_walk i n) Reason
  unfolding at_tail
  tails_ways i n = go (largest_tail long (cases_for numbered t i n)) refl
    where
      go : (k : ℕ) → largest_tail long (cases_for numbered t i n) ≡ k → Ways v (case_children t i n ++ default_child d) (tails_walk i n) Reason
      go zero e =
          ways_same v (case_children t i n ++ default_child d) (λ f. walk (default_for f d) v) Reason (tails_walk i n)
          (λ f. rw (tail_same f numbered t long i n ∙ e))
          (ways_more v (default_child d) (λ f. walk (default_for f d) v) Reason (case_children t i n ++ default_child d)
          (λ c. is_in_right c (case_children t i n) (default_child d)) (default_ways t v Reason d))
      go (suc k) e =
          ways_same v (case_children t i n ++ default_child d)
          (λ f. walk_cases (cases_for f t i n) (ListWithTail k) v (λ else. walk (default_for f d) v)) Reason (tails_walk i n)
          (λ f. rw (tail_same f numbered t long i n ∙ e))
          (run_ways t v Reason (ListWithTail k) i n (default_child d) (λ f. walk (default_for f d) v) (default_ways t v Reason d))

  abbrev length_walk : ℕ → ℕ → ℕ → (ℕ → Tree) → Walked
  length_walk i n m f = walk_cases (cases_for f t i n) (ListOf long) v (λ else. tails_walk (i + n) m f)

  length_ways : (i n m : ℕ) → Ways v (case_children t i (n + m) ++ default_child d) (length_walk i n m) Reason
  length_ways i n m =
      ways_joined t v Reason i n m d (length_walk i n m)
      (run_ways t v Reason (ListOf long) i n (case_children t (i + n) m ++ default_child d) (tails_walk (i + n) m) (tails_ways (i + n) m))

-- ---- a node of a tree file
-- the part that a switch's path leads to, and the kind that it asks of it
abbrev pub part_of_node : List ℕ → List ℕ → ℕ → Option Position
part_of_node t v k = follow v (path_at t (node_path t k)) panel_root

abbrev pub kind_asked : List ℕ → ℕ → ℕ
kind_asked t k = first_kind (cases_for numbered t (node_first_case t k) (node_cases t k))

-- the part at x is of another kind than node k tests
abbrev pub OtherKind : List ℕ → List ℕ → ℕ → NodeKind → Position → Type 0
OtherKind t v k Switch x = (u : Test) → shown_at v x ≡ some u → test_kind u ≡ kind_asked t k → ⊥
OtherKind t v k List_switch x = length_at v x ≡ none
OtherKind t v k Leaf x = ⊥
OtherKind t v k Hoist_node x = ⊥
OtherKind t v k Unknown_node x = ⊥

-- why node k sticks: its path cannot be followed, or leads to a part of another kind
pub data Fails (t v : List ℕ) (k : ℕ) (kind : NodeKind) : Type 0 where
  no_part : part_of_node t v k ≡ none → Fails t v k kind
  other_kind : (x : Position) → part_of_node t v k ≡ some x → OtherKind t v k kind x → Fails t v k kind

-- what the walk of node k does, whatever trees its children stand for
abbrev pub Way : List ℕ → List ℕ → ℕ → NodeKind → Type 0
Way t v k kind = Ways v (children_of_kind t k kind) (λ f. walk (node_for f t k kind) v) (Fails t v k kind)

module _ (t v : List ℕ) (k : ℕ) where
  pub list_switch_way : Way t v k List_switch
  unfolding node_for children_of_kind walk at_list of_length
  list_switch_way = go (part_of_node t v k) refl
    where
      of_length_lem : (x : Position) → part_of_node t v k ≡ some x → (o : Option ℕ) → length_at v x ≡ o → Way t v k List_switch
      of_length_lem x e none q = sticks (other_kind x e q) (λ f. rw (e, q))
      of_length_lem x e (some long) q =
          ways_same v (children_of_kind t k List_switch)
          (length_walk t v (Fails t v k List_switch) long (node_default t k) (node_first_case t k) (node_cases t k) (node_tail_cases t k)) (Fails t v k List_switch)
          (λ f. walk (node_for f t k List_switch) v) (λ f. rw (e, q))
          (length_ways t v (Fails t v k List_switch) long (node_default t k) (node_first_case t k) (node_cases t k) (node_tail_cases t k))

      go : (o : Option Position) → part_of_node t v k ≡ o → Way t v k List_switch
      go none e = sticks (no_part e) (λ f. rw e)
      go (some x) e = of_length_lem x e (length_at v x) refl

  -- what a switch's walk is where its path leads to a part that shows y
  shown_walk : (x : Position) → part_of_node t v k ≡ some x → (y : Test) → shown_at v x ≡ some y → (b : Bool)
      → eqb (test_kind y) (kind_asked t k) ≡ b → (f : ℕ → Tree)
      → walk (node_for f t k Switch) v
      ≡ pick b (walk_cases (cases_for f t (node_first_case t k) (node_cases t k)) y v (λ else. walk (default_for f (node_default t k)) v)) stuck
  unfolding node_for walk at_part of_this_kind
  shown_walk x e y q true g f = rw (e, q, first_same f numbered t (node_first_case t k) (node_cases t k), g, of_this_kind)
  shown_walk x e y q false g f = rw (e, q, first_same f numbered t (node_first_case t k) (node_cases t k), g, of_this_kind)

  pub switch_way : Way t v k Switch
  unfolding node_for children_of_kind walk at_part of_this_kind
  switch_way = go (part_of_node t v k) refl
    where
      nothing_shown : (u : Test) → ◌≡◌ {A = Option Test} none (some u) → ⊥
      nothing_shown u e = let z : ◌≡◌ {A = ℕ} 0 1 = cc in omega arith

      not_asked : (u y : Test) (asked : ℕ) → ◌≡◌ {A = Option Test} (some u) (some y) → eqb (test_kind y) asked ≡ false → test_kind u ≡ asked → ⊥
      not_asked u y asked e g h =
          let same : u ≡ y = cc in
          false≢true (sym g ∙ eq-eqb (test_kind y) asked (ap test_kind (sym same) ∙ h))

      of_kind : (x : Position) → part_of_node t v k ≡ some x → (y : Test) → shown_at v x ≡ some y → (b : Bool)
          → eqb (test_kind y) (kind_asked t k) ≡ b → Way t v k Switch
      of_kind x e y q true g =
          ways_same v (children_of_kind t k Switch)
          (λ f. walk_cases (cases_for f t (node_first_case t k) (node_cases t k)) y v (λ else. walk (default_for f (node_default t k)) v)) (Fails t v k Switch)
          (λ f. walk (node_for f t k Switch) v) (shown_walk x e y q true g)
          (switch_run_ways t v (Fails t v k Switch) y (node_first_case t k) (node_cases t k) (node_tail_cases t k) (node_default t k))
      of_kind x e y q false g =
          sticks (other_kind x e (λ u a. not_asked u y (kind_asked t k) (sym a ∙ q) g))
          (shown_walk x e y q false g)

      shows : (x : Position) → part_of_node t v k ≡ some x → (o : Option Test) → shown_at v x ≡ o → Way t v k Switch
      shows x e none q = sticks (other_kind x e (λ u a b. nothing_shown u (sym q ∙ a))) (λ f. rw (e, q))
      shows x e (some y) q = of_kind x e y q (eqb (test_kind y) (kind_asked t k)) refl

      go : (o : Option Position) → part_of_node t v k ≡ o → Way t v k Switch
      go none e = sticks (no_part e) (λ f. rw e)
      go (some x) e = shows x e (shown_at v x) refl

  -- a hoist is passed over
  pub hoist_way : Way t v k Hoist_node
  unfolding node_for children_of_kind walk
  hoist_way = to (node_child t k) (only_listed (node_child t k)) (λ f. refl)

-- ---- what the child that is reached by its number says of the ways
nowhere : (c : ℕ) → ◌≡◌ {A = Option ℕ} none (some c) → ⊥
nowhere c e = let z : ◌≡◌ {A = ℕ} 0 1 = cc in omega arith

module _ (v cs : List ℕ) (goes : (ℕ → Tree) → Walked) (Reason : Type 0) where
  reaches : (c : ℕ) → child_reached (walk (numbered c) v) ≡ some c
  unfolding walk bound at_leaf child_reached
  reaches c = refl

  number_same : (c d : ℕ) → ◌≡◌ {A = Option ℕ} (some c) (some d) → c ≡ d
  number_same c d e = cc

  -- the walk goes to the child whose number is reached
  ways_to : (c : ℕ) → Ways v cs goes Reason → child_reached (goes numbered) ≡ some c → (is_in c cs ≡ true) × ((f : ℕ → Tree) → goes f ≡ walk (f c) v)
  unfolding child_reached
  ways_to c (to d h g) e =
      let same = number_same d c (sym (ap child_reached (g numbered) ∙ reaches d) ∙ e) in
      (rw same at h, λ f. g f ∙ ap (λ (b : ℕ). walk (f b) v) same)
  ways_to c (out g) e = absurd (nowhere c (sym (ap child_reached (g numbered)) ∙ e))
  ways_to c (sticks r g) e = absurd (nowhere c (sym (ap child_reached (g numbered)) ∙ e))

  -- where none is reached the walk ends, without a leaf or stuck
  ways_end : Ways v cs goes Reason → child_reached (goes numbered) ≡ none → ((f : ℕ → Tree) → goes f ≡ no_leaf) ⊎ (Reason × ((f : ℕ → Tree) → goes f ≡ stuck))
  unfolding child_reached
  ways_end (to d h g) e = absurd (nowhere d (sym e ∙ (ap child_reached (g numbered) ∙ reaches d)))
  ways_end (out g) e = inl g
  ways_end (sticks r g) e = inr (r, g)

-- ---- each step is the walk's own
-- node k leads to node c: c is one of its children, and whatever trees these stand for, the walk of k is the walk of c
pub record Leads (t v : List ℕ) (k : ℕ) (kind : NodeKind) (c : ℕ) : Type 0 where
  pub child : is_in c (children_of_kind t k kind) ≡ true
  pub same_walk : (f : ℕ → Tree) → walk (node_for f t k kind) v ≡ walk (f c) v

-- node k leads to none: it sticks for a reason, or its walk does not hang on its children
pub data Stays (t v : List ℕ) (k : ℕ) (kind : NodeKind) : Type 0 where
  goes_out : ((f : ℕ → Tree) → walk (node_for f t k kind) v ≡ no_leaf) → Stays t v k kind
  sticks_there : Fails t v k kind → ((f : ℕ → Tree) → walk (node_for f t k kind) v ≡ stuck) → Stays t v k kind
  ends_there : kind ≡ Leaf → Stays t v k kind

module _ (t v : List ℕ) (k : ℕ) where
  leads_by_way : (kind : NodeKind) (c : ℕ) → Way t v k kind → child_reached (walk (node_for numbered t k kind) v) ≡ some c → Leads t v k kind c
  leads_by_way kind c w e =
      let p = ways_to v (children_of_kind t k kind) (λ f. walk (node_for f t k kind) v) (Fails t v k kind) c w e in
      record { child = p.0; same_walk = p.1 }

  pub leads_by_kind : (kind : NodeKind) (c : ℕ) → goes_on_by_kind t v k kind ≡ some c → Leads t v k kind c
  unfolding goes_on_by_kind
  leads_by_kind Switch c e = leads_by_way Switch c (switch_way t v k) e
  leads_by_kind List_switch c e = leads_by_way List_switch c (list_switch_way t v k) e
  leads_by_kind Leaf c e = absurd (nowhere c e)
  leads_by_kind Hoist_node c e = leads_by_way Hoist_node c (hoist_way t v k) e
  leads_by_kind Unknown_node c e = absurd (nowhere c e)

  stays_by_way : (kind : NodeKind) → Way t v k kind → child_reached (walk (node_for numbered t k kind) v) ≡ none → Stays t v k kind
  stays_by_way kind w e =
      ⊎_elim goes_out (λ p. sticks_there p.0 p.1) (ways_end v (children_of_kind t k kind) (λ f. walk (node_for f t k kind) v) (Fails t v k kind) w e)

  pub stays_by_kind : (kind : NodeKind) → goes_on_by_kind t v k kind ≡ none → Stays t v k kind
  unfolding goes_on_by_kind node_for walk
  stays_by_kind Switch e = stays_by_way Switch (switch_way t v k) e
  stays_by_kind List_switch e = stays_by_way List_switch (list_switch_way t v k) e
  stays_by_kind Leaf e = ends_there refl
  stays_by_kind Hoist_node e = stays_by_way Hoist_node (hoist_way t v k) e
  stays_by_kind Unknown_node e = goes_out (λ f. refl)

  -- so its walk is the same whatever trees its children stand for
  stays_same : (kind : NodeKind) → Stays t v k kind → (f g : ℕ → Tree) → walk (node_for f t k kind) v ≡ walk (node_for g t k kind) v
  unfolding node_for
  stays_same kind (goes_out h) f g = h f ∙ sym (h g)
  stays_same kind (sticks_there r h) f g = h f ∙ sym (h g)
  stays_same kind (ends_there e) f g = rw e

  -- THEOREM: where node k goes on to c, its walk is the walk of c, by the branch that leads there; of any bytes
  pub goes_on_way : (c : ℕ) → goes_on t v k ≡ some c → Leads t v k (node_kind_of (node_kind t k)) c
  unfolding goes_on
  goes_on_way c e = leads_by_kind (node_kind_of (node_kind t k)) c e

  goes_on_stays : goes_on t v k ≡ none → Stays t v k (node_kind_of (node_kind t k))
  unfolding goes_on
  goes_on_stays e = stays_by_kind (node_kind_of (node_kind t k)) e

-- e is the last node of the walk from node k on: it goes no further, and the walk of the tree below k is the walk of e
pub record LastOf (t v : List ℕ) (k e : ℕ) : Type 0 where
  pub there : e < nodes t
  pub last : goes_on t v e ≡ none
  pub same_walk : (f : ℕ → Tree) → walk (tree_below (nodes t) t k) v ≡ walk (node_for f t e (node_kind_of (node_kind t e))) v

module _ (t v : List ℕ) (sound : TreeSound t) where
  -- THEOREM: in an accepted file c is a later node, and the walk of the tree below k is that of the tree below c
  pub goes_on_leads : (k c : ℕ) → k < nodes t → goes_on t v k ≡ some c → LeadsOn t v k c
  unfolding node_children
  goes_on_leads k c h e =
      let w = goes_on_way t v k c e in
      let after = sound.child_after k c h w.child in
      record {
        child = w.child;
        later = after.0;
        there = after.1;
        whatever_below = w.same_walk;
        same_walk = ap (λ (a : Tree). walk a v) (tree_below_open t sound k h) ∙ w.same_walk (tree_below (nodes t) t);
      }

  -- LEMMA: a child's number is larger, so that so many nodes are deep enough
  pub last_of : (deep k : ℕ) → k < nodes t → nodes t ≤ deep + k → LastOf t v k (last_from deep t v k)
  unfolding last_from
  last_of zero k h enough = absurd (omega arith)
  last_of (suc deep) k h enough = go (goes_on t v k) refl (λ c l. last_of deep c l)
    where
      go : (o : Option ℕ) → goes_on t v k ≡ o → ((c : ℕ) → c < nodes t → nodes t ≤ deep + c → LastOf t v c (last_from deep t v c))
          → LastOf t v k (last_from (suc deep) t v k)
      go none q ih =
          rw (q, last_from)
          (record {
            there = h;
            last = q;
            same_walk = λ f.
                ap (λ (a : Tree). walk a v) (tree_below_open t sound k h)
                ∙ stays_same t v k (node_kind_of (node_kind t k)) (goes_on_stays t v k q) (tree_below (nodes t) t) f;
          })
      go (some c) q ih =
          let on = goes_on_leads k c h q in
          let w = ih c on.there (omega (arith, on.later)) in
          rw (q, last_from) (record { there = w.there; last = w.last; same_walk = λ f. on.same_walk ∙ w.same_walk f })

  -- the last node of the whole walk
  last_node_of : LastOf t v 0 (last_node t v)
  unfolding last_node
  last_node_of = last_of (nodes t) 0 sound.some_node (omega arith)

  pub last_there : last_node t v < nodes t
  last_there = last_node_of.there

  -- what the walk of the file answers is what the walk of its last node answers
  pub last_walk : (f : ℕ → Tree) → walk (tree_of t) v ≡ walk (node_for f t (last_node t v) (node_kind_of (node_kind t (last_node t v)))) v
  unfolding tree_of
  last_walk f = last_node_of.same_walk f

  pub last_stays : Stays t v (last_node t v) (node_kind_of (node_kind t (last_node t v)))
  last_stays = goes_on_stays t v (last_node t v) last_node_of.last

-- ---- answers are apart, and what a leaf's answer says of its bindings
out_not_stuck : no_leaf ≡ stuck → ⊥
out_not_stuck e = let z : ◌≡◌ {A = ℕ} 0 1 = cc in omega arith

module _ (c : ℕ) (xs : List Bound) where
  reached_not_stuck : reached c xs ≡ stuck → ⊥
  reached_not_stuck e = let z : ◌≡◌ {A = ℕ} 0 1 = cc in omega arith

  out_not_reached : no_leaf ≡ reached c xs → ⊥
  out_not_reached e = let z : ◌≡◌ {A = ℕ} 0 1 = cc in omega arith

  leaf_reached : (d : ℕ) (o : Option (List Bound)) → at_leaf d o ≡ reached c xs → (d ≡ c) × (o ≡ some xs)
  unfolding at_leaf
  leaf_reached d none e = absurd (reached_not_stuck (sym e))
  leaf_reached d (some ys) e = (cc, cc)

leaf_stuck : (c : ℕ) (o : Option (List Bound)) → at_leaf c o ≡ stuck → o ≡ none
unfolding at_leaf
leaf_stuck c none e = refl
leaf_stuck c (some xs) e = absurd (reached_not_stuck c xs e)

-- ---- the place of 32 at a node
module _ (t v : List ℕ) (sound : TreeSound t) (k : ℕ) (there : k < nodes t) where
  step_of_kind : (kind : NodeKind) → node_kind_of (node_kind t k) ≡ kind → stuck_step t v k ≡ step_at_kind t v k kind
  unfolding stuck_step
  step_of_kind kind e = ap (step_at_kind t v k) e

  no_length : (x : Position) → length_at v x ≡ none → record_kind v x.place ≡ list_record → ⊥
  unfolding length_at
  no_length x e h =
      let f : ◌≡◌ {A = Option ℕ} (some (record_count v x.place - x.dropped)) none = rw (eq-eqb (record_kind v x.place) list_record h) at e in
      nowhere (record_count v x.place - x.dropped) (sym f)

  stuck_at_switch : node_kind_of (node_kind t k) ≡ Switch → Fails t v k Switch → StuckThere t v k (stuck_step t v k)
  unfolding step_at_kind
  stuck_at_switch kind (no_part e) = at_a_step there (inl kind) (rw (step_of_kind Switch kind) (step_fails v (path_at t (node_path t k)) panel_root e))
  stuck_at_switch kind (other_kind x e other) =
      let is = node_byte (node_kind t k) Switch kind (omega arith) in
      let ruled = sound.is_ruled in
      let asked = first_kind_lem numbered t (node_first_case t k) (node_cases t k) (ruled.switch_some k there is) (omega (arith, ruled.switch_kinds k there is)) in
      at_a_test there x e (not_of_its_cases kind (λ u a b. other u a (b ∙ sym asked)))
      (step_of_kind Switch kind ∙ all_taken v (path_at t (node_path t k)) panel_root x e)

  stuck_at_list_switch : node_kind_of (node_kind t k) ≡ List_switch → Fails t v k List_switch → StuckThere t v k (stuck_step t v k)
  unfolding step_at_kind
  stuck_at_list_switch kind (no_part e) =
      at_a_step there (inr kind) (rw (step_of_kind List_switch kind) (step_fails v (path_at t (node_path t k)) panel_root e))
  stuck_at_list_switch kind (other_kind x e other) =
      at_a_test there x e (no_list kind (no_length x other)) (step_of_kind List_switch kind ∙ all_taken v (path_at t (node_path t k)) panel_root x e)

  stuck_at_leaf : node_kind_of (node_kind t k) ≡ Leaf → walk (node_for numbered t k Leaf) v ≡ stuck → StuckThere t v k (stuck_step t v k)
  unfolding step_at_kind node_for walk
  stuck_at_leaf kind e =
      let bs = bindings_from t (node_first_binding t k) (node_bindings t k) in
      at_a_binding there kind (rw (step_of_kind Leaf kind) (binding_fails v bs (leaf_stuck (node_clause t k) (bound v bs) e)))

  -- a hoist would go on, and a node of no kind would go out
  stuck_by_fails : (kind : NodeKind) → node_kind_of (node_kind t k) ≡ kind → Fails t v k kind → walk (node_for numbered t k kind) v ≡ stuck
      → StuckThere t v k (stuck_step t v k)
  unfolding node_for walk bound at_leaf
  stuck_by_fails Switch is r e = stuck_at_switch is r
  stuck_by_fails List_switch is r e = stuck_at_list_switch is r
  stuck_by_fails Leaf is r e = stuck_at_leaf is e
  stuck_by_fails Hoist_node is r e = absurd (reached_not_stuck (node_child t k) [] e)
  stuck_by_fails Unknown_node is r e = absurd (out_not_stuck e)

  stuck_by_kind : (kind : NodeKind) → node_kind_of (node_kind t k) ≡ kind → Stays t v k kind → walk (node_for numbered t k kind) v ≡ stuck
      → StuckThere t v k (stuck_step t v k)
  stuck_by_kind kind is (goes_out g) e = absurd (out_not_stuck (sym (g numbered) ∙ e))
  stuck_by_kind kind is (sticks_there r g) e = stuck_by_fails kind is r e
  stuck_by_kind kind is (ends_there f) e = stuck_at_leaf (is ∙ f) (rw f at e)

  -- ---- and the leaf that is reached
  module _ (c : ℕ) (xs : List Bound) where
    reached_at_leaf : node_kind_of (node_kind t k) ≡ Leaf → walk (node_for numbered t k Leaf) v ≡ reached c xs → LeafThere t v k c xs
    unfolding node_for walk
    reached_at_leaf kind e =
        let p = leaf_reached c xs (node_clause t k) (bound v (bindings_from t (node_first_binding t k) (node_bindings t k))) e in
        record { there = there; is_leaf = kind; its_clause = p.0; its_bindings = p.1 }

    reached_by_kind : (kind : NodeKind) → node_kind_of (node_kind t k) ≡ kind → Stays t v k kind → walk (node_for numbered t k kind) v ≡ reached c xs
        → LeafThere t v k c xs
    reached_by_kind kind is (goes_out g) e = absurd (out_not_reached c xs (sym (g numbered) ∙ e))
    reached_by_kind kind is (sticks_there r g) e = absurd (reached_not_stuck c xs (sym e ∙ g numbered))
    reached_by_kind kind is (ends_there f) e = reached_at_leaf (is ∙ f) (rw f at e)

-- ---- of an accepted file
module _ (t v : List ℕ) (fits : tree_fits t ≡ true) where
  -- THEOREM: the place of 32 is never made up
  pub stuck_there : walk (tree_of t) v ≡ stuck → StuckThere t v (last_node t v) (stuck_step t v (last_node t v))
  stuck_there e =
      let sound = tree_sound t fits in
      stuck_by_kind t v sound (last_node t v) (last_there t v sound) (node_kind_of (node_kind t (last_node t v))) refl (last_stays t v sound)
      (sym (last_walk t v sound numbered) ∙ e)

  -- THEOREM: a walk that reaches a leaf ends at a leaf of that clause, whose bindings give what the walk answers
  pub leaf_there : (c : ℕ) (xs : List Bound) → walk (tree_of t) v ≡ reached c xs → LeafThere t v (last_node t v) c xs
  leaf_there c xs e =
      let sound = tree_sound t fits in
      reached_by_kind t v sound (last_node t v) (last_there t v sound) c xs (node_kind_of (node_kind t (last_node t v))) refl (last_stays t v sound)
      (sym (last_walk t v sound numbered) ∙ e)

  -- THEOREM: both numbers of the place fit 16 bits where the file's length does
  pub place_short : length t < 65536 → (last_node t v < 65536) × (stuck_step t v (last_node t v) < 65536)
  place_short short =
      let sound = tree_sound t fits in
      let last = last_there t v sound in
      (omega (arith, last, nodes_small t sound short), stuck_step_small t sound short v (last_node t v) last)
