-- Laws of the walk at a switch, a list switch and a node of a tree file: one law for each way on.
-- Rests on Turns, the laws of choosing a case, and the law that opens a tree of a file one level.
use Rattle.std.specs.Prelude.{◌≡◌, refl, Option as Chosen, Some, None, Ok, Err, Bool, true, false, List, [], ◌∷◌, ◌++◌, length}
use Rattle.std.proofs.Math.Path.{sym, ap}
use Rattle.std.proofs.Common.{◌∙◌}
use Rattle.std.proofs.Math.Option.{Option, none, some}
use Prim.Native.Nat.{ℕ, zero, suc, ◌+◌, ◌-◌, ◌≤◌, ◌<◌}
use native.Mathlib.Omega.{arith}
use borrow.Author.Tests.{eq-eqb, ne_eqb}
use Rattle.base_words.specs.Words.{pick, text_at}
use Rattle.spec_rules.specs.Kinds.{integer_record, bytes_record, list_record, constructor_record, int_case, bytes_case}
use Rattle.spec_rules.specs.Found.{found}
use Rattle.spec_rules.specs.Splitting.{Test, Constr, ListOf, ListWithTail}
use Rattle.spec_rules.specs.Building.{Tree}
use Rattle.spec_rules.specs.PanelFile.{record_kind, record_count}
use Rattle.spec_rules.specs.TreeReader.{nodes, node_kind, Switch, List_switch, Leaf, Hoist_node, case_kind, case_child, case_children, default_child, node_children, path_at, cases_for, default_for, node_for, tree_below, tree_of}
use Rattle.spec_rules.specs.Walking.{Position as Place, panel_root, follow, bound, Walked, stuck, shown_at, length_at, test_kind, of_this_kind, at_part, of_length, at_list, largest_tail, at_tail, walk, walk_cases}
use Rattle.spec_rules.specs.WalkPlaces.{numbered, child_reached, goes_on_by_kind, goes_on, last_from, last_node, step_at_kind, stuck_step}
use Rattle.spec_rules.specs.WalkPlacesLaws.{all_taken}
use Rattle.spec_accepted.specs.KindsLaws.{byte_node}
use Rattle.spec_accepted.specs.TreeFacts.{TreeSound, default_listed, only_listed, is_in_left, is_in_right, tree_below_of_kind}
use Rattle.spec_accepted.specs.WalkRunsLaws.{walk_run, chosen_listed, case_children_add, first_kind_lem}
use Rattle.format_panel.specs.declared.PanelMap.{PanelMap}
use Rattle.format_panel.specs.declared.records.Record.{Record}
use Rattle.format_panel.specs.Opened.{record_of, Opened}
use Rattle.format_records.specs.declared.reading.Test.{Test as TestRead}
use Rattle.format_tree.specs.Reading.{test_of}
use Rattle.format_tree.specs.NodesLaws.{SwitchNode, ListSwitchNode, LeafNode, HoistNode, switch_node_children, list_switch_node_children, hoist_node_children}
use Rattle.walk.specs.declared.nodes.Next.{Next}
use Rattle.walk.specs.Choices.{asked_by, AllKind, first_case, first_numbered, first_text, text_test}
use Rattle.walk.specs.ChoicesLaws.{asked_is, constr_asked, text_asked, of_kind, shown_constr, shown_other, shown_text, numbered_constr, text_first}
use Rattle.walk.specs.Positions.{stuck_at}
use Rattle.walk.specs.Turns.{End, Turn, next_means, steps_on, Leads, Turns, TurnsBy, cases_walk, default_walk, switch_walk, list_walk, tails_walk, length_walk, GoesOn, next_node, Sticks, Steps, OnTheWay, Arrives}

-- ---- the default
module _ (t v : List ℕ) (s : ℕ) where
  pub turns_no_default : (d : ℕ) → d ≡ 0 → Turns t v s (default_child d) (default_walk v d) (Ok (Next.End None))
  unfolding walk default_for
  turns_no_default d e = record { means = λ f. rw e; leads = tt }

  pub turns_default : (d : ℕ) → (d ≡ 0 → ⊥) → Turns t v s (default_child d) (default_walk v d) (Ok (Next.Node (d - 1)))
  unfolding default_for
  turns_default zero h = absurd (h refl)
  turns_default (suc d) h =
      let e : suc d - 1 ≡ d = omega arith in
      record { means = λ f. ap (λ (k : ℕ). walk (f k) v) e; leads = rw e (default_listed d) }

leads_right : (s : ℕ) (cs ds : List ℕ) (r : Turn) → Leads s ds r → Leads s (cs ++ ds) r
leads_right s cs ds (Ok (Next.Node c)) h = is_in_right c cs ds h
leads_right s cs ds (Ok (Next.End (Some leaf))) h = h
leads_right s cs ds (Ok (Next.End None)) h = tt
leads_right s cs ds (Err at) h = h

-- ---- a run of cases and what comes where none holds
module _ (t v : List ℕ) (s : ℕ) (x : Test) (i n : ℕ) (rest : List ℕ) (o : (ℕ → Tree) → Walked) where
  pub turns_case : (place c : ℕ) → found (first_case t x i n) ≡ Some place → c ≡ case_child t place
      → Turns t v s (case_children t i n ++ rest) (λ f. walk_cases (cases_for f t i n) x v (λ u. o f)) (Ok (Next.Node c))
  turns_case place c e child = go (first_case t x i n) refl
    where
      go : (q : Option ℕ) → first_case t x i n ≡ q → Turns t v s (case_children t i n ++ rest) (λ f. walk_cases (cases_for f t i n) x v (λ u. o f)) (Ok (Next.Node c))
      go none q = let y : None ≡ Some place = rw q at e in let z : ◌≡◌ {A = ℕ} 0 1 = cc in absurd (omega arith)
      go (some j) q =
          let y : Some j ≡ Some place = rw q at e in
          let same : place ≡ j = cc in
          let its : c ≡ case_child t j = child ∙ ap (case_child t) same in
          record {
            means = λ f. ap (λ (k : ℕ). walk (f k) v) its ∙ sym (walk_run f t v x (o f) i n ∙ rw q);
            leads = rw its (is_in_left (case_child t j) (case_children t i n) rest (chosen_listed t x i n j q));
          }

  pub turns_past : (r : Turn) → found (first_case t x i n) ≡ None → Turns t v s rest o r
      → Turns t v s (case_children t i n ++ rest) (λ f. walk_cases (cases_for f t i n) x v (λ u. o f)) r
  turns_past r e w = go (first_case t x i n) refl
    where
      go : (q : Option ℕ) → first_case t x i n ≡ q → Turns t v s (case_children t i n ++ rest) (λ f. walk_cases (cases_for f t i n) x v (λ u. o f)) r
      go none q = record {
        means = λ f. w.means f ∙ sym (walk_run f t v x (o f) i n ∙ rw q);
        leads = leads_right s (case_children t i n) rest r w.leads;
      }
      go (some j) q = let y : Some j ≡ None = rw q at e in let z : ◌≡◌ {A = ℕ} 0 1 = cc in absurd (omega arith)

-- ---- a list switch
module _ (t v : List ℕ) (s long first tails d : ℕ) where
  pub turns_no_tail : (r : Turn) (k : ℕ) → ((f : ℕ → Tree) → k ≡ largest_tail long (cases_for f t first tails)) → k ≡ 0
      → Turns t v s (default_child d) (default_walk v d) r → Turns t v s (case_children t first tails ++ default_child d) (tails_walk t v long first tails d) r
  unfolding at_tail
  turns_no_tail r k e z w = record {
    means = λ f. let q : largest_tail long (cases_for f t first tails) ≡ 0 = sym (e f) ∙ z in w.means f ∙ rw q;
    leads = leads_right s (case_children t first tails) (default_child d) r w.leads;
  }

  pub turns_tail : (r : Turn) (k : ℕ) → ((f : ℕ → Tree) → k ≡ largest_tail long (cases_for f t first tails)) → (k ≡ 0 → ⊥)
      → Turns t v s (case_children t first tails ++ default_child d) (cases_walk t v (ListWithTail (k - 1)) first tails d) r
      → Turns t v s (case_children t first tails ++ default_child d) (tails_walk t v long first tails d) r
  unfolding at_tail
  turns_tail r k e z w = record {
    means = λ f.
        let q : largest_tail long (cases_for f t first tails) ≡ suc (k - 1) = sym (e f) ∙ (let g : k ≡ suc (k - 1) = omega arith in g) in
        w.means f ∙ rw q;
    leads = w.leads;
  }

module _ (t v : List ℕ) (s long first cases tails d : ℕ) where
  same_children : (r : Turn) → Leads s (case_children t first cases ++ (case_children t (first + cases) tails ++ default_child d)) r
      → Leads s (case_children t first (cases + tails) ++ default_child d) r
  same_children r h = rw (case_children_add t first cases tails (default_child d)) at h

  pub turns_length : (place c : ℕ) → found (first_case t (ListOf long) first cases) ≡ Some place → c ≡ case_child t place
      → Turns t v s (case_children t first (cases + tails) ++ default_child d) (length_walk t v long first cases tails d) (Ok (Next.Node c))
  turns_length place c e child =
      let w = turns_case t v s (ListOf long) first cases (case_children t (first + cases) tails ++ default_child d) (tails_walk t v long (first + cases) tails d) place c e child in
      record { means = w.means; leads = same_children (Ok (Next.Node c)) w.leads }

  pub turns_no_length : (r : Turn) → found (first_case t (ListOf long) first cases) ≡ None
      → Turns t v s (case_children t (first + cases) tails ++ default_child d) (tails_walk t v long (first + cases) tails d) r
      → Turns t v s (case_children t first (cases + tails) ++ default_child d) (length_walk t v long first cases tails d) r
  turns_no_length r e w =
      let u = turns_past t v s (ListOf long) first cases (case_children t (first + cases) tails ++ default_child d) (tails_walk t v long (first + cases) tails d) r e w in
      record { means = u.means; leads = same_children r u.leads }

module _ (t v : List ℕ) (path first cases tails d : ℕ) where
  list_stuck : (step : ℕ) → step ≡ steps_on t v path → (o : Option Place) → follow v (path_at t path) panel_root ≡ o → ((g : ℕ → Walked) → at_list v o g ≡ stuck)
      → Turns t v (steps_on t v path) (case_children t first (cases + tails) ++ default_child d) (list_walk t v path first cases tails d) (Err (stuck_at step))
  unfolding walk
  list_stuck step at o e h = record { means = λ f. sym (rw e (h (λ n. length_walk t v n first cases tails d f))); leads = at }

  pub list_no_part : (step : ℕ) → step ≡ steps_on t v path → follow v (path_at t path) panel_root ≡ none
      → Turns t v (steps_on t v path) (case_children t first (cases + tails) ++ default_child d) (list_walk t v path first cases tails d) (Err (stuck_at step))
  unfolding at_list
  list_no_part step at e = list_stuck step at none e (λ g. refl)

  pub list_wrong_kind : (step : ℕ) → step ≡ length (path_at t path) → (p : Place) (x : Record) → follow v (path_at t path) panel_root ≡ some p → x ≡ record_of v p.place → (x.kind ≡ list_record → ⊥)
      → Turns t v (steps_on t v path) (case_children t first (cases + tails) ++ default_child d) (list_walk t v path first cases tails d) (Err (stuck_at step))
  unfolding at_list of_length length_at
  list_wrong_kind step at p x e is h =
      let k : record_kind v p.place ≡ x.kind = sym (ap (λ (y : Record). y.kind) is) in
      list_stuck step (at ∙ sym (all_taken v (path_at t path) panel_root p e)) (some p) e (λ g. rw (k, ne_eqb x.kind list_record h))

  pub list_turns : (p : Place) (x : Record) (r : Turn) → follow v (path_at t path) panel_root ≡ some p → x ≡ record_of v p.place → x.kind ≡ list_record
      → Turns t v (steps_on t v path) (case_children t first (cases + tails) ++ default_child d) (length_walk t v (x.count - p.dropped) first cases tails d) r
      → Turns t v (steps_on t v path) (case_children t first (cases + tails) ++ default_child d) (list_walk t v path first cases tails d) r
  unfolding walk at_list of_length length_at
  list_turns p x r e is h w =
      let k : record_kind v p.place ≡ x.kind = sym (ap (λ (y : Record). y.kind) is) in
      let c : record_count v p.place ≡ x.count = sym (ap (λ (y : Record). y.count) is) in
      record { means = λ f. w.means f ∙ sym (rw (e, k, eq-eqb x.kind list_record h, c)); leads = w.leads }

-- ---- a switch
of_this_kind_lem : (k : ℕ) (o : Option Test) (g : Test → Walked) → of_kind o k ≡ false → of_this_kind k o g ≡ stuck
unfolding of_this_kind
of_this_kind_lem k none g e = refl
of_this_kind_lem k (some x) g e = rw (e, of_this_kind)

of_this_kind_go : (k : ℕ) (x : Test) (g : Test → Walked) → of_kind (some x) k ≡ true → of_this_kind k (some x) g ≡ g x
unfolding of_this_kind
of_this_kind_go k x g e = rw (e, of_this_kind)

text_kind : (integer : Bool) (w : List ℕ) → test_kind (text_test integer w) ≡ pick integer int_case bytes_case
unfolding test_kind
text_kind true w = refl
text_kind false w = refl

module _ (t v : List ℕ) (path first cases d : ℕ) where
  pub switch_no_part : (step : ℕ) → step ≡ steps_on t v path → follow v (path_at t path) panel_root ≡ none
      → Turns t v (steps_on t v path) (case_children t first cases ++ default_child d) (switch_walk t v path first cases d) (Err (stuck_at step))
  unfolding walk at_part
  switch_no_part step at e = record { means = λ f. sym (rw e); leads = at }

  -- the part there is, and its record was read as x
  module _ (some_case : 1 ≤ cases) (known : case_kind t first ≤ bytes_case) (p : Place) (there : follow v (path_at t path) panel_root ≡ some p) (x : Record) (is : x ≡ record_of v p.place) where
    opened_at : (o : Option Test) → shown_at v p ≡ o → (f : ℕ → Tree)
        → switch_walk t v path first cases d f ≡ of_this_kind (case_kind t first) o (λ y. cases_walk t v y first cases d f)
    unfolding walk at_part
    opened_at o e f = rw (there, first_kind_lem f t first cases some_case (omega (arith, known)), e)

    pub switch_wrong_kind : (step : ℕ) → step ≡ length (path_at t path) → (x.kind ≡ asked_by (test_of t first) → ⊥)
        → Turns t v (steps_on t v path) (case_children t first cases ++ default_child d) (switch_walk t v path first cases d) (Err (stuck_at step))
    switch_wrong_kind step at h = record {
      means = λ f.
          sym (opened_at (shown_at v p) refl f ∙ of_this_kind_lem (case_kind t first) (shown_at v p) _ (shown_other v p x is (case_kind t first) (λ e. h (e ∙ sym (asked_is t first known)))));
      leads = at ∙ sym (all_taken v (path_at t path) panel_root p there);
    }

    -- the part shows a test of the kind that is asked
    switch_turns : (y : Test) → shown_at v p ≡ some y → test_kind y ≡ case_kind t first → (r : Turn)
        → Turns t v (steps_on t v path) (case_children t first cases ++ default_child d) (cases_walk t v y first cases d) r
        → Turns t v (steps_on t v path) (case_children t first cases ++ default_child d) (switch_walk t v path first cases d) r
    switch_turns y e k r w = record {
      means = λ f. w.means f ∙ sym (opened_at (some y) e f ∙ of_this_kind_go (case_kind t first) y _ (eq-eqb (test_kind y) (case_kind t first) k));
      leads = w.leads;
    }

    module _ (asks : x.kind ≡ asked_by (test_of t first)) (alike : AllKind t (case_kind t first) first cases) (chosen : Chosen ℕ) (r : Turn) (by : TurnsBy t chosen d r) where
      pub switch_constr : asked_by (test_of t first) ≡ constructor_record → chosen ≡ found (first_numbered t x.a first cases)
          → Turns t v (steps_on t v path) (case_children t first cases ++ default_child d) (switch_walk t v path first cases d) r
      unfolding test_kind
      switch_constr five e =
          let zero = constr_asked t first known five in
          switch_turns (Constr x.a) (shown_constr v p x is (asks ∙ five)) (sym zero) r
          (by v (steps_on t v path) (Constr x.a) first cases (e ∙ ap found (numbered_constr t first cases x.a (rw zero at alike))))

      pub switch_text : (n : PanelMap) → Opened v n → (asked_by (test_of t first) ≡ constructor_record → ⊥)
          → chosen ≡ found (first_text t (text_at v (n.pool.start + x.first) x.count) first cases)
          → Turns t v (steps_on t v path) (case_children t first cases ++ default_child d) (switch_walk t v path first cases d) r
      switch_text n opened other e = let texts = text_asked t first known other in go texts.0 texts.1 texts.2
        where
          w : List ℕ
          w = text_at v (n.pool.start + x.first) x.count

          go : (integer : Bool) → case_kind t first ≡ pick integer int_case bytes_case → asked_by (test_of t first) ≡ pick integer integer_record bytes_record
              → Turns t v (steps_on t v path) (case_children t first cases ++ default_child d) (switch_walk t v path first cases d) r
          go integer k a =
              switch_turns (text_test integer w) (shown_text v p x is n opened integer (asks ∙ a)) (text_kind integer w ∙ sym k) r
              (by v (steps_on t v path) (text_test integer w) first cases (e ∙ ap found (text_first t first cases integer w (rw k at alike))))

-- ---- a node of a file
module _ (t v : List ℕ) (sound : TreeSound t) (k : ℕ) (h : k < nodes t) where
  goes_on_lem : (s : ℕ) (cs : List ℕ) (r : Turn) → node_children t k ≡ cs → Leads s cs r → GoesOn t k r
  goes_on_lem s cs (Ok (Next.Node c)) e l = sound.child_after k c h (rw e l)
  goes_on_lem s cs (Ok (Next.End (Some leaf))) e l = absurd l
  goes_on_lem s cs (Ok (Next.End None)) e l = tt
  goes_on_lem s cs (Err at) e l = tt

  -- where the code turns with a leaf for each child is where the rules' walk goes on
  next_is : (s : ℕ) (cs : List ℕ) (r : Turn) (w : Walked) → Leads s cs r → next_means t v numbered r ≡ w → next_node r ≡ child_reached w
  unfolding walk bound child_reached
  next_is s cs (Ok (Next.Node c)) w l e = ap child_reached e
  next_is s cs (Ok (Next.End (Some leaf))) w l e = absurd l
  next_is s cs (Ok (Next.End None)) w l e = ap child_reached e
  next_is s cs (Err at) w l e = ap child_reached e

  sticks_as : (s s' : ℕ) (cs : List ℕ) (r : Turn) → Leads s cs r → s ≡ s' → Sticks t v s' r
  sticks_as s s' cs (Ok (Next.Node c)) l e = tt
  sticks_as s s' cs (Ok (Next.End (Some leaf))) l e = absurd l
  sticks_as s s' cs (Ok (Next.End None)) l e = tt
  sticks_as s s' cs (Err at) l e = l ∙ e

  pub steps_switch : (p f n d : ℕ) (x : TestRead) (r : Turn) → SwitchNode t k p f n d x → Turns t v (steps_on t v p) (case_children t f n ++ default_child d) (switch_walk t v p f n d) r → Steps t v k r
  unfolding node_for goes_on goes_on_by_kind stuck_step step_at_kind
  steps_switch p f n d x r w u =
      let path = w.path_is in
      let first = w.first_is in
      let many = w.cases_is in
      let default = w.default_is in
      let kind = byte_node (node_kind t k) Switch w.kind in
      let e = tree_below_of_kind t sound k h Switch kind in
      record {
        means = u.means (tree_below (nodes t) t) ∙ sym (ap (λ (a : Tree). walk a v) e ∙ rw (← path, ← first, ← many, ← default));
        goes = goes_on_lem (steps_on t v p) (case_children t f n ++ default_child d) r (switch_node_children sound.is_ruled k h p f n d x w) u.leads;
        next = next_is (steps_on t v p) (case_children t f n ++ default_child d) r (switch_walk t v p f n d numbered) u.leads (u.means numbered) ∙ sym (rw (kind, ← path, ← first, ← many, ← default));
        sticks = sticks_as (steps_on t v p) (stuck_step t v k) (case_children t f n ++ default_child d) r u.leads (sym (rw (kind, ← path)));
      }

  pub steps_list_switch : (p f n m d : ℕ) (r : Turn) → ListSwitchNode t k p f n m d
      → Turns t v (steps_on t v p) (case_children t f (n + m) ++ default_child d) (list_walk t v p f n m d) r → Steps t v k r
  unfolding node_for goes_on goes_on_by_kind stuck_step step_at_kind
  steps_list_switch p f n m d r w u =
      let path = w.path_is in
      let first = w.first_is in
      let many = w.cases_is in
      let tails = w.tails_is in
      let default = w.default_is in
      let kind = byte_node (node_kind t k) List_switch w.kind in
      let e = tree_below_of_kind t sound k h List_switch kind in
      record {
        means = u.means (tree_below (nodes t) t) ∙ sym (ap (λ (a : Tree). walk a v) e ∙ rw (← path, ← first, ← many, ← tails, ← default));
        goes = goes_on_lem (steps_on t v p) (case_children t f (n + m) ++ default_child d) r (list_switch_node_children sound.is_ruled k h p f n m d w) u.leads;
        next = next_is (steps_on t v p) (case_children t f (n + m) ++ default_child d) r (list_walk t v p f n m d numbered) u.leads (u.means numbered) ∙ sym (rw (kind, ← path, ← first, ← many, ← tails, ← default));
        sticks = sticks_as (steps_on t v p) (stuck_step t v k) (case_children t f (n + m) ++ default_child d) r u.leads (sym (rw (kind, ← path)));
      }

  pub steps_leaf : (a f n : ℕ) → LeafNode t k a f n → a < 65536 → Steps t v k (Ok (Next.End (Some (record { clause = a; first = f; count = n }))))
  unfolding node_for walk goes_on goes_on_by_kind stuck_step step_at_kind
  steps_leaf a f n w word =
      let clause = w.clause_is in
      let first = w.first_is in
      let many = w.count_is in
      let byte = w.kind in
      let kind = byte_node (node_kind t k) Leaf byte in
      let e = tree_below_of_kind t sound k h Leaf kind in
      record {
        means = sym (ap (λ (b : Tree). walk b v) e ∙ rw (← clause, ← first, ← many));
        goes = (omega (arith, (sound.is_ruled.bindings_run k h (omega arith)).inside), omega (arith, sound.is_ruled.bindings_most_holds k h (omega arith)), word);
        next = sym (rw kind);
        sticks = sym (rw (kind, ← first, ← many));
      }

  pub steps_hoist : (c : ℕ) → HoistNode t k c → Steps t v k (Ok (Next.Node c))
  unfolding node_for walk bound goes_on goes_on_by_kind child_reached
  steps_hoist c w =
      let child = w.child_is in
      let kind = byte_node (node_kind t k) Hoist_node w.kind in
      let e = tree_below_of_kind t sound k h Hoist_node kind in
      record {
        means = sym (ap (λ (b : Tree). walk b v) e ∙ rw (← child));
        goes = goes_on_lem 0 (c ∷ []) (Ok (Next.Node c)) (hoist_node_children sound.is_ruled k h c w) (only_listed c);
        next = sym (rw (kind, ← child));
        sticks = tt;
      }

-- ---- the walk from node 0 on
pub walk_starts : (t v : List ℕ) → walk (tree_below (nodes t) t 0) v ≡ walk (tree_of t) v
unfolding tree_of
walk_starts t v = refl

pub way_starts : (t v : List ℕ) → OnTheWay t v 0
unfolding last_node
way_starts t v = record { deep = nodes t; enough = omega arith; last = refl }

-- ---- a node that was stepped from, as its answer was taken apart
module _ (t v : List ℕ) (k : ℕ) (here : k < nodes t) (way : OnTheWay t v k) where
  -- the last node from k on, by where k leads
  last_from_lem : (o : Option ℕ) → goes_on t v k ≡ o → (d : ℕ) → way.deep ≡ suc d → elim o [ none ↦ k | some c ↦ last_from d t v c ] ≡ last_node t v
  unfolding last_from
  last_from_lem o e d q =
      let a : last_from way.deep t v k ≡ last_from (suc d) t v k = ap (λ (n : ℕ). last_from n t v k) q in
      let b : last_from (suc d) t v k ≡ elim o [ none ↦ k | some c ↦ last_from d t v c ] = rw (e, last_from) in
      sym (a ∙ b) ∙ way.last

  some_deep : (d : ℕ) × (way.deep ≡ suc d)
  some_deep = go way.deep refl
    where
      go : (d : ℕ) → way.deep ≡ d → (e : ℕ) × (way.deep ≡ suc e)
      go zero e = absurd (omega (arith, way.enough))
      go (suc d) e = (d, e)

  pub steps_on_lem : (c : ℕ) → Steps t v k (Ok (Next.Node c))
      → (k < c) × (c < nodes t) × (walk (tree_below (nodes t) t c) v ≡ walk (tree_below (nodes t) t k) v) × OnTheWay t v c
  steps_on_lem c s =
      let d = some_deep in (
        s.goes.0,
        s.goes.1,
        s.means,
        record {
          deep = d.0;
          enough = omega (arith, way.enough, d.1, s.goes.0);
          last = last_from_lem (some c) (sym s.next) d.0 d.1;
        },
      )

  -- the walk's end as the node there told it
  abbrev pub turn_of : End → Turn
  turn_of (Ok leaf) = Ok (Next.End leaf)
  turn_of (Err at) = Err at

  pub steps_end : (a : End) → Steps t v k (turn_of a) → walk (tree_below (nodes t) t k) v ≡ walk (tree_of t) v → Arrives t v k a
  steps_end (Ok leaf) s q =
      let d = some_deep in
      record {
        means = s.means ∙ q;
        holds = s.goes;
        there = here;
        last = last_from_lem none (sym s.next) d.0 d.1;
        sticks = s.sticks;
      }
  steps_end (Err at) s q =
      let d = some_deep in
      record {
        means = s.means ∙ q;
        holds = s.goes;
        there = here;
        last = last_from_lem none (sym s.next) d.0 d.1;
        sticks = s.sticks;
      }
