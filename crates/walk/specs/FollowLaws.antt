-- Laws of steps and paths: a record's part as the code reads it, a path after some of its steps, and that every position on the way
-- is one of the panel. Rests on Positions and the facts of an accepted panel.
use Rattle.std.proofs.Math.Path.{◌≡◌, refl, sym}
use Rattle.std.proofs.Common.{ap, ◌∙◌, inl, inr, ⊎_elim}
use Rattle.std.specs.Prelude.{◌⊎◌, Some, None, Bool, true, false, eqb, ltb, leb, length}
use mathlib.Core.List.{List, [], ◌∷◌}
use Rattle.std.proofs.Math.Option.{Option, none, some}
use Prim.Native.Nat.{ℕ, zero, suc, ◌+◌, ◌-◌, ◌≤◌, ◌<◌}
use native.Mathlib.Omega.{arith}
use borrow.Author.Tests.{eq-eqb, ne_eqb, lt-ltb, le-ltb, le-leb, lt-leb, eqb-true, ltb-true, leb-true}
use Rattle.base_words.specs.Words.{both}
use Rattle.base_words.specs.WordsLaws.{both_true}
use Rattle.spec_rules.specs.Limits.{panel_most}
use Rattle.spec_rules.specs.Kinds.{bytes_record, list_record, pair_record, tuple_record, constructor_record, pair_step, tuple_step, constr_step, list_step}
use Rattle.spec_rules.specs.PanelFile.{records, parts, record_kind, record_first, record_count, part}
use Rattle.spec_rules.specs.Rows.{Step, pair, tuple, constr, list, listtail, Path}
use Rattle.spec_rules.specs.TreeReader.{tree_paths_at, tree_steps_at, bindings, paths, steps, step_at, steps_from, step_of_fields, path_first, path_count, path_at}
use Rattle.spec_rules.specs.Walking.{Position as Place, panel_root, part_of, tail_of, take_step, follow}
use Rattle.spec_rules.specs.WalkPlaces.{steps_taken}
use Rattle.spec_accepted.specs.PanelFacts.{PanelLaid, PanelShaped}
use Rattle.spec_accepted.specs.WalkRunsLaws.{length_steps_from}
use Rattle.format_panel.specs.declared.PanelMap.{PanelMap}
use Rattle.format_panel.specs.declared.records.Record.{Record}
use Rattle.format_panel.specs.Opened.{record_of}
use Rattle.format_records.specs.declared.reading.Step.{Step as StepRead}
use Rattle.format_records.specs.declared.reading.Path.{Path as PathRead}
use Rattle.format_records.specs.declared.reading.Binding.{Binding as BindingRead}
use Rattle.format_tree.specs.declared.layout.TreeMap.{TreeMap}
use Rattle.format_tree.specs.Reading.{Ruled, step_of, path_of, binding_of}
use Rattle.format_tree.specs.ReadingLaws.{bindings_lie, paths_lie, steps_lie, bindings_start, paths_start, steps_start, paths_count}
use Rattle.walk.specs.declared.follow.Position.{Position}
use Rattle.walk.specs.declared.follow.StuckAt.{StuckAt}
use Rattle.walk.specs.declared.follow.Found.{Found}
use Rattle.walk.specs.declared.follow.Found.TheVariants.{At, Stuck}
use Rattle.walk.specs.Positions.{placed, position_of, taken_of, stuck_at, found_of, found_from, found_by, stuck_of, left_by, part_in, tail_in, Within, Followable, Bindable, ReadyToWalk}

-- ---- where a step led
pub taken_some : (o : Option Place) (p : Position) → taken_of o ≡ Some p → o ≡ some (placed p)
taken_some none p e = let z : ◌≡◌ {A = ℕ} 0 1 = cc in absurd (omega arith)
taken_some (some x) p e = let a : position_of x ≡ p = cc in ap (λ (q : Position). some (placed q)) a

pub taken_none : (o : Option Place) → taken_of o ≡ None → o ≡ none
taken_none none e = refl
taken_none (some x) e = let z : ◌≡◌ {A = ℕ} 0 1 = cc in absurd (omega arith)

-- ---- where a path led
pub found_some : (v : List ℕ) (q : Path) (p : Position) → found_by v q ≡ At p → follow v q panel_root ≡ some (placed p)
found_some v q p e = go (follow v q panel_root) e
  where
    go : (o : Option Place) → found_of o (steps_taken v q panel_root) ≡ At p → o ≡ some (placed p)
    go none f = let z : ◌≡◌ {A = ℕ} 0 1 = cc in absurd (omega arith)
    go (some x) f = let a : position_of x ≡ p = cc in ap (λ (y : Position). some (placed y)) a

-- stuck at y, which the code asked for as `at`
pub found_none : (v : List ℕ) (q : Path) (found : Found) (y at : StuckAt) → found ≡ found_by v q → found ≡ Stuck y → at ≡ stuck_of found
    → (follow v q panel_root ≡ none) × (at.0 ≡ steps_taken v q panel_root)
found_none v q found y at is told asked = go (follow v q panel_root) (sym is ∙ told)
  where
    go : (o : Option Place) → found_of o (steps_taken v q panel_root) ≡ Stuck y → (o ≡ none) × (at.0 ≡ steps_taken v q panel_root)
    go none f = let a : stuck_at (steps_taken v q panel_root) ≡ y = cc in (refl, ap (λ (s : StuckAt). s.0) (asked ∙ ap stuck_of told ∙ sym a))
    go (some x) f = let z : ◌≡◌ {A = ℕ} 0 1 = cc in absurd (omega arith)

-- ---- a record that was read as x
module _ (v : List ℕ) (r : ℕ) (x : Record) (is : x ≡ record_of v r) where
  kind_is : record_kind v r ≡ x.kind
  kind_is = sym (ap (λ (y : Record). y.kind) is)

  count_is : record_count v r ≡ x.count
  count_is = sym (ap (λ (y : Record). y.count) is)

  first_is : record_first v r ≡ x.first
  first_is = sym (ap (λ (y : Record). y.first) is)

  part_other : (kind i : ℕ) → (x.kind ≡ kind → ⊥) → part_of v kind r i ≡ none
  unfolding part_of
  part_other kind i h = rw (kind_is, ne_eqb x.kind kind h)

  part_same : (kind i : ℕ) → x.kind ≡ kind → part_in v x i ≡ part_of v kind r i
  unfolding part_of
  part_same kind i h = rw (kind_is, eq-eqb x.kind kind h, count_is, first_is)

  tail_other : (i : ℕ) → (x.kind ≡ list_record → ⊥) → tail_of v r i ≡ none
  unfolding tail_of
  tail_other i h = rw (kind_is, ne_eqb x.kind list_record h)

  tail_same : (i : ℕ) → x.kind ≡ list_record → tail_in x r i ≡ tail_of v r i
  unfolding tail_of
  tail_same i h = rw (kind_is, eq-eqb x.kind list_record h, count_is)

  -- the parts of a record that has them are entries of the child list
  pub parts_in : PanelShaped v → r < records v → list_record ≤ x.kind → x.first + x.count ≤ parts v
  parts_in shaped h low =
      let k = kind_is in
      let c = count_is in
      let f = first_is in
      omega (arith, (shaped.parts_run r h (omega arith)).inside)

pub part_missing : (v : List ℕ) (x : Record) (i : ℕ) → x.count ≤ i → None ≡ taken_of (part_in v x i)
part_missing v x i l = rw (le-ltb i x.count l)

pub part_there : (v : List ℕ) (x : Record) (i p : ℕ) → i < x.count → p ≡ part v (x.first + i)
    → Some (record { «record» = p; dropped = 0 }) ≡ taken_of (part_in v x i)
part_there v x i p l e = rw (lt-ltb i x.count l, e)

pub tail_missing : (x : Record) (r i : ℕ) → x.count < i → None ≡ taken_of (tail_in x r i)
tail_missing x r i l = rw (lt-leb i x.count l)

pub tail_there : (x : Record) (r i : ℕ) → i ≤ x.count → Some (record { «record» = r; dropped = i }) ≡ taken_of (tail_in x r i)
tail_there x r i l = rw (le-leb i x.count l)

-- ---- positions stay within the panel
module _ {v : List ℕ} (laid : PanelLaid v) (shaped : PanelShaped v) where
  pub count_small : (r : ℕ) → r < records v → record_count v r ≤ panel_most
  count_small r h = ⊎_elim texts others (small (record_kind v r))
    where
      small : (k : ℕ) → (k ≤ 1) ⊎ (2 ≤ k)
      small zero = inl (omega arith)
      small (suc zero) = inl (omega arith)
      small (suc (suc k)) = inr (omega arith)

      texts : record_kind v r ≤ bytes_record → record_count v r ≤ panel_most
      texts k = omega (arith, (shaped.text_run r h k).inside, laid.pool_end_holds, laid.trailer_end, laid.length_most)

      others : list_record ≤ record_kind v r → record_count v r ≤ panel_most
      others k = omega (arith, (shaped.parts_run r h k).inside, laid.parts_end, laid.pool_end_holds, laid.trailer_end, laid.length_most)

  pub dropped_small : (x : Place) → Within v x → x.dropped ≤ panel_most
  dropped_small x w = omega (arith, w.dropped_in, count_small x.place w.place_in)

  pub root_within : Within v panel_root
  root_within = record { place_in = laid.some_record; dropped_in = omega arith }

  part_within : (kind r i : ℕ) (y : Place) → r < records v → list_record ≤ kind → part_of v kind r i ≡ some y → Within v y
  unfolding part_of
  part_within kind r i y h low e = go (both (eqb (record_kind v r) kind) (ltb i (record_count v r))) refl
    where
      there : Option Place
      there = some (record { place = part v (record_first v r + i); dropped = 0 })

      go : (b : Bool) → both (eqb (record_kind v r) kind) (ltb i (record_count v r)) ≡ b → Within v y
      go true b =
          let p = both_true (eqb (record_kind v r) kind) (ltb i (record_count v r)) b in
          let k = eqb-true (record_kind v r) kind p.0 in
          let l = ltb-true i (record_count v r) p.1 in
          let f : there ≡ some y = rw b at e in
          let a : part v (record_first v r + i) ≡ y.place = cc in
          let d : 0 ≡ y.dropped = cc in
          let run = shaped.parts_run r h (omega arith) in
          record {
            place_in = omega (arith, shaped.part_record (record_first v r + i) (omega (arith, run.inside)));
            dropped_in = omega arith;
          }
      go false b = let f : none ≡ some y = rw b at e in let z : ◌≡◌ {A = ℕ} 0 1 = cc in absurd (omega arith)

  tail_within : (r i : ℕ) (y : Place) → r < records v → tail_of v r i ≡ some y → Within v y
  unfolding tail_of
  tail_within r i y h e = go (both (eqb (record_kind v r) list_record) (leb i (record_count v r))) refl
    where
      there : Option Place
      there = some (record { place = r; dropped = i })

      go : (b : Bool) → both (eqb (record_kind v r) list_record) (leb i (record_count v r)) ≡ b → Within v y
      go true b =
          let p = both_true (eqb (record_kind v r) list_record) (leb i (record_count v r)) b in
          let l = leb-true i (record_count v r) p.1 in
          let f : there ≡ some y = rw b at e in
          let a : r ≡ y.place = cc in
          let d : i ≡ y.dropped = cc in
          let c : record_count v r ≡ record_count v y.place = ap (record_count v) a in
          record { place_in = omega arith; dropped_in = omega arith }
      go false b = let f : none ≡ some y = rw b at e in let z : ◌≡◌ {A = ℕ} 0 1 = cc in absurd (omega arith)

  pub step_within : (s : Step) (x y : Place) → Within v x → take_step v s x ≡ some y → Within v y
  unfolding take_step
  step_within (pair i t) x y w e = part_within pair_record x.place i y w.place_in (omega arith) e
  step_within (tuple i t) x y w e = part_within tuple_record x.place i y w.place_in (omega arith) e
  step_within (constr i b t) x y w e = part_within constructor_record x.place i y w.place_in (omega arith) e
  step_within (list i t) x y w e = part_within list_record x.place (x.dropped + i) y w.place_in (omega arith) e
  step_within (listtail i t) x y w e = tail_within x.place (x.dropped + i) y w.place_in e

  pub follow_within : (p : Path) (x y : Place) → Within v x → follow v p x ≡ some y → Within v y
  unfolding follow
  follow_within [] x y w e = let a : x ≡ y = cc in rw (← a) w
  follow_within (s ∷ p) x y w e = go (take_step v s x) refl (λ z q. follow_within p z y q)
    where
      go : (o : Option Place) → take_step v s x ≡ o → ((z : Place) → Within v z → follow v p z ≡ some y → Within v y) → Within v y
      go none q ih = let f : none ≡ some y = rw (q, follow) at e in let z : ◌≡◌ {A = ℕ} 0 1 = cc in absurd (omega arith)
      go (some z) q ih = ih z (step_within s x z w q) (rw (q, follow) at e)

-- ---- one step, by the fields of its record, from a position whose record was read as x
pub left_has_parts : (kind : ℕ) → list_record ≤ left_by kind
left_has_parts kind = go (ltb kind list_step) refl
  where
    go : (b : Bool) → ltb kind list_step ≡ b → list_record ≤ left_by kind
    go true e = rw e (omega arith)
    go false e = rw e (omega arith)

module _ (v : List ℕ) (s : StepRead) (p : Position) where
  abbrev stepped : Option Place
  stepped = take_step v (step_of_fields s.kind s.flag s.index s.of) (placed p)

  -- a step to a part is taken from the kind of its number and 3, one into a list from kind 2
  part_step : s.kind < list_step → part_of v (left_by s.kind) p.«record» s.index ≡ stepped
  unfolding step_of_fields take_step
  part_step h = go s.kind h refl
    where
      go : (k : ℕ) → k < list_step → s.kind ≡ k → part_of v (left_by s.kind) p.«record» s.index ≡ stepped
      go zero l e = rw e
      go (suc zero) l e = rw e
      go (suc (suc zero)) l e = rw e
      go (suc (suc (suc k))) l e = absurd (omega arith)

  list_step_lem : s.kind ≡ list_step → part_of v list_record p.«record» (p.dropped + s.index) ≡ stepped
  unfolding step_of_fields take_step
  list_step_lem e = rw e

  tail_step : list_step < s.kind → tail_of v p.«record» (p.dropped + s.index) ≡ stepped
  unfolding step_of_fields take_step
  tail_step h =
      rw (ne_eqb s.kind pair_step (λ e. omega arith), ne_eqb s.kind tuple_step (λ e. omega arith), ne_eqb s.kind constr_step (λ e. omega arith), ne_eqb s.kind list_step (λ e. omega arith))

  module _ (x : Record) (is : x ≡ record_of v p.«record») where
    left_list : list_step ≤ s.kind → left_by s.kind ≡ list_record
    left_list l = rw (le-ltb s.kind list_step l)

    pub step_wrong_kind : (x.kind ≡ left_by s.kind → ⊥) → none ≡ stepped
    step_wrong_kind h = ⊎_elim small others (three s.kind)
      where
        three : (k : ℕ) → (k < list_step) ⊎ ((k ≡ list_step) ⊎ (list_step < k))
        three zero = inl (omega arith)
        three (suc zero) = inl (omega arith)
        three (suc (suc zero)) = inl (omega arith)
        three (suc (suc (suc zero))) = inr (inl refl)
        three (suc (suc (suc (suc k)))) = inr (inr (omega arith))

        small : s.kind < list_step → none ≡ stepped
        small l = sym (part_other v p.«record» x is (left_by s.kind) s.index h) ∙ part_step l

        others : (s.kind ≡ list_step) ⊎ (list_step < s.kind) → none ≡ stepped
        others (inl e) = sym (part_other v p.«record» x is list_record (p.dropped + s.index) (λ q. h (q ∙ sym (left_list (omega arith))))) ∙ list_step_lem e
        others (inr l) = sym (tail_other v p.«record» x is (p.dropped + s.index) (λ q. h (q ∙ sym (left_list (omega arith))))) ∙ tail_step l

    module _ (from : x.kind ≡ left_by s.kind) where
      pub step_part : s.kind < list_step → part_in v x s.index ≡ stepped
      step_part l = part_same v p.«record» x is (left_by s.kind) s.index from ∙ part_step l

      pub step_list : s.kind ≡ list_step → part_in v x (p.dropped + s.index) ≡ stepped
      step_list e = part_same v p.«record» x is list_record (p.dropped + s.index) (from ∙ left_list (omega arith)) ∙ list_step_lem e

      pub step_listtail : list_step < s.kind → tail_in x p.«record» (p.dropped + s.index) ≡ stepped
      step_listtail l = tail_same v p.«record» x is (p.dropped + s.index) (from ∙ left_list (omega arith)) ∙ tail_step l

-- the step that was read is the tree's
step_read : (t : List ℕ) (i : ℕ) (s : StepRead) → s ≡ step_of t i → step_of_fields s.kind s.flag s.index s.of ≡ step_at t i
unfolding step_at
step_read t i s e = ap (λ (x : StepRead). step_of_fields x.kind x.flag x.index x.of) e

pub step_taken : (v t : List ℕ) (i : ℕ) (s : StepRead) (p : Position) → s ≡ step_of t i
    → take_step v (step_of_fields s.kind s.flag s.index s.of) (placed p) ≡ take_step v (step_at t i) (placed p)
step_taken v t i s p e = ap (λ (x : Step). take_step v x (placed p)) (step_read t i s e)

-- the run of steps of a path that was read
pub path_run : {t v : List ℕ} {n : PanelMap} → Followable t v n → (p : ℕ) (x : PathRead) → p < paths t → x ≡ path_of t p → x.first + x.count ≤ steps t
path_run w p x h e =
    let f = ap (λ (y : PathRead). y.first) e in
    let c = ap (λ (y : PathRead). y.count) e in
    omega (arith, w.path_steps p h)

-- ---- a path after k of its steps
module _ (v t : List ℕ) (first count : ℕ) where
  pub path_start : (p : ℕ) → first ≡ path_first t p → count ≡ path_count t p → found_from v (steps_from t (first + 0) (count - 0)) panel_root 0 ≡ found_by v (path_at t p)
  unfolding path_at
  path_start p a b =
      let e : first + 0 ≡ first = omega arith in
      let f : count - 0 ≡ count = omega arith in
      let q = steps_from t (path_first t p) (path_count t p) in
      let g : 0 + steps_taken v q panel_root ≡ steps_taken v q panel_root = omega arith in
      rw (e, f, a, b) (ap (found_of (follow v q panel_root)) g)

  steps_next : (k : ℕ) → k < count → steps_from t (first + k) (count - k) ≡ step_at t (first + k) ∷ steps_from t (first + (k + 1)) (count - (k + 1))
  unfolding steps_from
  steps_next k h =
      let e : count - k ≡ suc (count - (k + 1)) = omega arith in
      let f : first + (k + 1) ≡ first + k + 1 = omega arith in
      rw (e, f)

  path_next : (k : ℕ) (x : Place) → k < count
      → found_from v (steps_from t (first + k) (count - k)) x k ≡ found_from v (step_at t (first + k) ∷ steps_from t (first + (k + 1)) (count - (k + 1))) x k
  path_next k x h = ap (λ (q : Path). found_from v q x k) (steps_next k h)

  pub path_on : (k : ℕ) (x y : Place) → k < count → take_step v (step_at t (first + k)) x ≡ some y
      → found_from v (steps_from t (first + (k + 1)) (count - (k + 1))) y (k + 1) ≡ found_from v (steps_from t (first + k) (count - k)) x k
  unfolding follow steps_taken
  path_on k x y h e =
      let q = steps_from t (first + (k + 1)) (count - (k + 1)) in
      let more : k + suc (steps_taken v q y) ≡ k + 1 + steps_taken v q y = omega arith in
      sym (path_next k x h ∙ rw (e, follow, steps_taken) (ap (found_of (follow v q y)) more))

  pub path_stuck : (k : ℕ) (x : Place) → k < count → take_step v (step_at t (first + k)) x ≡ none → Stuck (stuck_at k) ≡ found_from v (steps_from t (first + k) (count - k)) x k
  unfolding follow steps_taken
  path_stuck k x h e = let None_more : k + 0 ≡ k = omega arith in sym (path_next k x h ∙ rw (e, follow, steps_taken) (ap (λ (n : ℕ). Stuck (stuck_at n)) None_more))

  pub path_end : (k : ℕ) (x : Position) → count ≤ k → At x ≡ found_from v (steps_from t (first + k) (count - k)) (placed x) k
  unfolding follow steps_from
  path_end k x h = let e : count - k ≡ 0 = omega arith in rw e

-- how long a path is that was read
pub path_long : (t : List ℕ) (p : ℕ) (x : PathRead) → x ≡ path_of t p → x.count ≡ length (path_at t p)
unfolding path_at
path_long t p x e = ap (λ (y : PathRead). y.count) e ∙ sym (length_steps_from t (path_first t p) (path_count t p))

-- ---- where a path was followed to
pub found_within : {t v : List ℕ} {n : PanelMap} → Followable t v n → (p : ℕ) (x : Position) → follow v (path_at t p) panel_root ≡ some (placed x) → Within v (placed x)
found_within {t} w p x e =
    let laid = w.opened.laid in
    let shaped = w.shaped in
    follow_within laid shaped (path_at t p) panel_root (placed x) (root_within laid shaped) e

-- ---- what a path is followed with
module _ {t : List ℕ} {m : TreeMap} {v : List ℕ} {n : PanelMap} where
  -- the path of a binding that was read
  pub binding_followed : Bindable t m v n → (b : ℕ) (x : BindingRead) → b < bindings t → x ≡ binding_of t b
      → Followable t v n × (m.paths.start ≡ tree_paths_at t) × (m.steps.start ≡ tree_steps_at t) × (x.path < paths t)
  binding_followed w b x h e =
      let p = ap (λ (y : BindingRead). y.path) e in
      (w.followable, w.paths_start, w.steps_start, omega (arith, w.binding_path_holds b h))

  module _ (ready : ReadyToWalk t m v n) where
    pub ready_ruled : Ruled t m
    ready_ruled = record { mapped = ready.mapped; rules = ready.sound.is_ruled }

    pub followable : Followable t v n
    followable = record {
      paths_lie = paths_lie ready.mapped;
      steps_lie = steps_lie ready.mapped;
      path_steps = λ p h. (ready.sound.is_ruled.path_steps p h).inside;
      opened = ready.opened;
      shaped = ready.panel.is_shaped;
    }

    pub bindable : Bindable t m v n
    bindable = record {
      followable = followable;
      bindings_lie = bindings_lie ready.mapped;
      bindings_start_holds = sym (bindings_start ready.mapped);
      paths_start = sym (paths_start ready.mapped);
      steps_start = sym (steps_start ready.mapped);
      binding_path_holds = ready.sound.is_ruled.binding_path_holds;
    }

    pub ready_path : (p : ℕ) → p < m.paths.count → Followable t v n × (m.paths.start ≡ tree_paths_at t) × (m.steps.start ≡ tree_steps_at t) × (p < paths t)
    ready_path p h = (followable, sym (paths_start ready.mapped), sym (steps_start ready.mapped), omega (arith, h, paths_count ready.mapped))
