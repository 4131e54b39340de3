-- Refusal 10 from what the code reads and asks: what is left to ask of a pattern answers whether it fits, and what it asks is there.
use Rattle.std.proofs.Math.Path.{◌≡◌, refl, ap, sym}
use Rattle.std.proofs.Common.{ap₂, ◌∙◌, ⊎_elim}
use Rattle.std.proofs.Math.Logic.{inl, inr}
use Rattle.std.specs.Prelude.{Bool, not, List, eqb, leb}
use Rattle.std.proofs.Math.Bool.{true, false}
use Prim.Native.Nat.{ℕ, zero, suc, ◌+◌, ◌-◌, ◌≤◌, ◌<◌}
use native.Mathlib.Omega.{arith}
use borrow.Author.Tests.{eqb-true, leb-true, not-true, not-false}
use Rattle.base_words.specs.Words.{both}
use Rattle.base_words.specs.WordsLaws.{both_true}
use Rattle.spec_rules.specs.Limits.{children_most, entries_most}
use Rattle.spec_rules.specs.Kinds.{list_type, pair_type, tuple_type, data_type, variable_pattern}
use Rattle.spec_rules.specs.SheetFile.{types, entries, patterns, children, type_kind, type_first, type_count, constructor_first, constructor_count, entry, pattern_kind, pattern_a, pattern_first, pattern_count, child, root}
use Rattle.spec_rules.specs.Patterns.{PatternKind, Discard, Variable, Assign, Integer, ByteString, ListOfAll, ListWithRest, Constructor, Pair, Tuple, Unknown, pattern_kind_of, Pat, Pats, many, decorated, one_constructor, constructor_of, along, of_constructor, of_kind, pattern, clause_pattern, takes_arguments, opens_into, fits, fit_all}
use Rattle.spec_rules.specs.SheetRefusals.{has_children, misfit}
use Rattle.spec_rules.specs.SplittingLaws.{both_end}
use Rattle.spec_accepted.specs.KindsLaws.{pattern_byte}
use Rattle.spec_accepted.specs.SheetFacts.{Owns, owned_pattern, owned_entry}
use Rattle.spec_accepted.specs.PatternsLaws.{along_none, along_some, many_along, pattern_of_kind}
use Rattle.format_sheet.specs.declared.SheetMap.{SheetMap}
use Rattle.format_sheet.specs.declared.fitting.Question.{Question}
use Rattle.format_sheet.specs.declared.fitting.Question.TheVariants.{Settled, Inside, Each}
use Rattle.format_sheet.specs.Sections.{map_of}
use Rattle.format_sheet.specs.SectionsLaws.{mapped}
use Rattle.format_sheet.specs.Fitting.{ReadySheet, Room, asks_for, asked, answered}

-- ---- what is left to ask answers whether the pattern fits
answered_for : (s : List ℕ) (t : ℕ) (b : Bool) (j n e step : ℕ) → answered s t (asks_for b j n e step) ≡ both b (fit_all (along (pattern s) s j n e step) s)
unfolding answered
answered_for s t true j n e step = refl
answered_for s t false j n e step = refl

module _ (s : List ℕ) (m : SheetMap) (ready : ReadySheet s m) (p t : ℕ) (h : p < patterns s) where
  opens_as : (kind : PatternKind) → pattern_kind_of (pattern_kind s p) ≡ kind → pattern s p t ≡ of_kind (pattern s) s p t kind
  opens_as = pattern_of_kind s ready.is_shaped ready.is_counted p t h

  -- a variable or discard fits any type
  plain_fits : pattern_kind s p ≤ variable_pattern → fits (pattern s p t) s ≡ true
  unfolding fits of_kind pattern_kind_of
  plain_fits l = go (pattern_kind s p) refl l
    where
      go : (k : ℕ) → pattern_kind s p ≡ k → k ≤ 1 → fits (pattern s p t) s ≡ true
      go zero e l = rw (opens_as Discard (rw e))
      go (suc zero) e l = rw (opens_as Variable (rw e))
      go (suc (suc k)) e l = absurd (omega arith)

module _ (s : List ℕ) (m : SheetMap) (ready : ReadySheet s m) (p t : ℕ) (h : p < patterns s) where
  -- the tail of a list with tail
  tail_fits : pattern_kind_of (pattern_kind s p) ≡ ListWithRest → fits (pattern s (child s (pattern_first s p + (pattern_count s p - 1))) t) s ≡ true
  unfolding has_children
  tail_fits e =
      let k = pattern_byte (pattern_kind s p) ListWithRest e (omega arith) in
      let two = ready.is_shaped.tail_after_some p h k in
      let owned : Owns s p (pattern_first s p + (pattern_count s p - 1)) = record { parent = ap has_children e; from = omega arith; to = omega arith } in
      plain_fits s m ready (child s (pattern_first s p + (pattern_count s p - 1))) t (owned_pattern ready.is_shaped p _ h owned) (ready.is_shaped.tail_plain p h k)

  by_constructor : (one : Bool) (qs : Pats) → many qs ≡ pattern_count s p
      → fits (of_constructor (record { number = p; type = t }) (pattern_a s p) (decorated s t) qs one) s ≡ both (takes_arguments s t (pattern_a s p) (pattern_count s p)) (fit_all qs s)
  unfolding fits of_constructor opens_into
  by_constructor true qs e = rw e
  by_constructor false qs e = rw e

  by_kind : (kind : PatternKind) → pattern_kind_of (pattern_kind s p) ≡ kind → fits (of_kind (pattern s) s p t kind) s ≡ answered s t (asked s p t kind)
  unfolding fits of_kind opens_into asked answered
  by_kind Discard e = refl
  by_kind Variable e = refl
  by_kind Assign e = refl
  by_kind Integer e = refl
  by_kind ByteString e = refl
  by_kind ListOfAll e = sym (answered_for s t (eqb (type_kind s t) list_type) (pattern_first s p) (pattern_count s p) (type_first s t) 0)
  by_kind ListWithRest e =
      rw (tail_fits e, both_end (fit_all (along (pattern s) s (pattern_first s p) (pattern_count s p - 1) (type_first s t) 0) s))
      (sym (answered_for s t (eqb (type_kind s t) list_type) (pattern_first s p) (pattern_count s p - 1) (type_first s t) 0))
  by_kind Constructor e =
      by_constructor (one_constructor s t) (along (pattern s) s (pattern_first s p) (pattern_count s p) (constructor_first s (constructor_of s t (pattern_a s p))) 1)
      (many_along (pattern s) s (pattern_first s p) (pattern_count s p) (constructor_first s (constructor_of s t (pattern_a s p))) 1)
      ∙ sym (answered_for s t (takes_arguments s t (pattern_a s p) (pattern_count s p)) (pattern_first s p) (pattern_count s p) (constructor_first s (constructor_of s t (pattern_a s p))) 1)
  by_kind Pair e =
      rw (many_along (pattern s) s (pattern_first s p) (pattern_count s p) (type_first s t) 1)
      (sym (answered_for s t (both (eqb (type_kind s t) pair_type) (eqb (type_count s t) (pattern_count s p))) (pattern_first s p) (pattern_count s p) (type_first s t) 1))
  by_kind Tuple e =
      rw (many_along (pattern s) s (pattern_first s p) (pattern_count s p) (type_first s t) 1)
      (sym (answered_for s t (both (eqb (type_kind s t) tuple_type) (eqb (type_count s t) (pattern_count s p))) (pattern_first s p) (pattern_count s p) (type_first s t) 1))
  by_kind Unknown e = refl

  pub fits_answered : fits (pattern s p t) s ≡ answered s t (asked s p t (pattern_kind_of (pattern_kind s p)))
  fits_answered = ap (λ (q : Pat). fits q s) (opens_as s m ready p t h (pattern_kind_of (pattern_kind s p)) refl) ∙ by_kind (pattern_kind_of (pattern_kind s p)) refl

-- ---- what is asked is there
for_each : (b : Bool) (x y z w j n e step : ℕ) → asks_for b x y z w ≡ Each j n e step → (b ≡ true) × (x ≡ j) × (y ≡ n) × (z ≡ e) × (w ≡ step)
for_each true x y z w j n e step f = (refl, cc, cc, cc, cc)
for_each false x y z w j n e step f = (cc, cc, cc, cc, cc)

never_inside : (b : Bool) (x y z w q : ℕ) → asks_for b x y z w ≡ Inside q → ⊥
never_inside true x y z w q f = let o : ◌≡◌ {A = ℕ} 0 1 = cc in omega arith
never_inside false x y z w q f = let o : ◌≡◌ {A = ℕ} 0 1 = cc in omega arith

module _ (s : List ℕ) (m : SheetMap) (ready : ReadySheet s m) (p t : ℕ) (h : p < patterns s) (k : t < types s) where
  -- a list's elements are all of the one type that its type has an entry for
  element_entry : eqb (type_kind s t) list_type ≡ true → type_first s t < entries s
  element_entry b =
      let two = eqb-true (type_kind s t) list_type b in
      let one = ready.is_typed.list_one t k two in
      omega (arith, ready.is_typed.type_entries t k (omega arith))

  -- a constructor's fields have their entries
  field_entries : (n : ℕ) → takes_arguments s t (pattern_a s p) n ≡ true → constructor_first s (constructor_of s t (pattern_a s p)) + n ≤ entries s
  unfolding takes_arguments constructor_of
  field_entries n b =
      let b1 = both_true (eqb (type_kind s t) data_type) _ b in
      let b2 = both_true (leb (pattern_a s p + 1) (type_count s t)) (eqb (constructor_count s (constructor_of s t (pattern_a s p))) n) b1.1 in
      let five = eqb-true (type_kind s t) data_type b1.0 in
      let below = leb-true (pattern_a s p + 1) (type_count s t) b2.0 in
      let as_many = eqb-true (constructor_count s (constructor_of s t (pattern_a s p))) n b2.1 in
      let inside = ready.is_typed.type_constructors t k five in
      omega (arith, (ready.is_typed.constructor_entries (type_first s t + pattern_a s p) (omega arith)).inside)

  -- a pair's or a tuple's parts have their entries
  part_entries : (kind n : ℕ) → kind ≤ tuple_type → both (eqb (type_kind s t) kind) (eqb (type_count s t) n) ≡ true → type_first s t + n ≤ entries s
  part_entries kind n l b =
      let b1 = both_true (eqb (type_kind s t) kind) (eqb (type_count s t) n) b in
      let e = eqb-true (type_kind s t) kind b1.0 in
      let f = eqb-true (type_count s t) n b1.1 in
      omega (arith, ready.is_typed.type_entries t k (omega arith))

  room : (kind : PatternKind) → pattern_kind_of (pattern_kind s p) ≡ kind → (j n e step : ℕ) → asked s p t kind ≡ Each j n e step → Room s p j n e step
  unfolding asked has_children
  room Discard x j n e step f = let o : ◌≡◌ {A = ℕ} 0 1 = cc in absurd (omega arith)
  room Variable x j n e step f = let o : ◌≡◌ {A = ℕ} 0 1 = cc in absurd (omega arith)
  room Assign x j n e step f = let o : ◌≡◌ {A = ℕ} 0 1 = cc in absurd (omega arith)
  room Integer x j n e step f = let o : ◌≡◌ {A = ℕ} 0 1 = cc in absurd (omega arith)
  room ByteString x j n e step f = let o : ◌≡◌ {A = ℕ} 0 1 = cc in absurd (omega arith)
  room ListOfAll x j n e step f =
      let w = for_each (eqb (type_kind s t) list_type) (pattern_first s p) (pattern_count s p) (type_first s t) 0 j n e step f in
      record { known = h; has = ap has_children x; from = omega (arith, w.1); to = omega (arith, w.1, w.2); enough = inl (sym w.4, omega (arith, w.3, element_entry w.0)) }
  room ListWithRest x j n e step f =
      let w = for_each (eqb (type_kind s t) list_type) (pattern_first s p) (pattern_count s p - 1) (type_first s t) 0 j n e step f in
      record { known = h; has = ap has_children x; from = omega (arith, w.1); to = omega (arith, w.1, w.2); enough = inl (sym w.4, omega (arith, w.3, element_entry w.0)) }
  room Constructor x j n e step f =
      let w = for_each (takes_arguments s t (pattern_a s p) (pattern_count s p)) (pattern_first s p) (pattern_count s p) (constructor_first s (constructor_of s t (pattern_a s p))) 1 j n e step f in
      record { known = h; has = ap has_children x; from = omega (arith, w.1); to = omega (arith, w.1, w.2); enough = inr (sym w.4, omega (arith, w.2, w.3, field_entries (pattern_count s p) w.0)) }
  room Pair x j n e step f =
      let w = for_each (both (eqb (type_kind s t) pair_type) (eqb (type_count s t) (pattern_count s p))) (pattern_first s p) (pattern_count s p) (type_first s t) 1 j n e step f in
      record { known = h; has = ap has_children x; from = omega (arith, w.1); to = omega (arith, w.1, w.2); enough = inr (sym w.4, omega (arith, w.2, w.3, part_entries pair_type (pattern_count s p) (omega arith) w.0)) }
  room Tuple x j n e step f =
      let w = for_each (both (eqb (type_kind s t) tuple_type) (eqb (type_count s t) (pattern_count s p))) (pattern_first s p) (pattern_count s p) (type_first s t) 1 j n e step f in
      record { known = h; has = ap has_children x; from = omega (arith, w.1); to = omega (arith, w.1, w.2); enough = inr (sym w.4, omega (arith, w.2, w.3, part_entries tuple_type (pattern_count s p) (omega arith) w.0)) }
  room Unknown x j n e step f = let o : ◌≡◌ {A = ℕ} 0 1 = cc in absurd (omega arith)

  inside : (kind : PatternKind) → pattern_kind_of (pattern_kind s p) ≡ kind → (q : ℕ) → asked s p t kind ≡ Inside q → (p < q) × (q < patterns s)
  unfolding asked has_children
  inside Discard x q f = let o : ◌≡◌ {A = ℕ} 0 1 = cc in absurd (omega arith)
  inside Variable x q f = let o : ◌≡◌ {A = ℕ} 0 1 = cc in absurd (omega arith)
  inside Assign x q f =
      let one = ready.is_shaped.assign_one p h (pattern_byte (pattern_kind s p) Assign x (omega arith)) in
      let owned : Owns s p (pattern_first s p) = record { parent = ap has_children x; from = omega arith; to = omega arith } in
      let e : child s (pattern_first s p) ≡ q = cc in
      (omega (arith, ready.is_shaped.child_above p (pattern_first s p) h owned), omega (arith, owned_pattern ready.is_shaped p (pattern_first s p) h owned))
  inside Integer x q f = let o : ◌≡◌ {A = ℕ} 0 1 = cc in absurd (omega arith)
  inside ByteString x q f = let o : ◌≡◌ {A = ℕ} 0 1 = cc in absurd (omega arith)
  inside ListOfAll x q f = absurd (never_inside (eqb (type_kind s t) list_type) (pattern_first s p) (pattern_count s p) (type_first s t) 0 q f)
  inside ListWithRest x q f = absurd (never_inside (eqb (type_kind s t) list_type) (pattern_first s p) (pattern_count s p - 1) (type_first s t) 0 q f)
  inside Constructor x q f = absurd (never_inside (takes_arguments s t (pattern_a s p) (pattern_count s p)) (pattern_first s p) (pattern_count s p) (constructor_first s (constructor_of s t (pattern_a s p))) 1 q f)
  inside Pair x q f = absurd (never_inside (both (eqb (type_kind s t) pair_type) (eqb (type_count s t) (pattern_count s p))) (pattern_first s p) (pattern_count s p) (type_first s t) 1 q f)
  inside Tuple x q f = absurd (never_inside (both (eqb (type_kind s t) tuple_type) (eqb (type_count s t) (pattern_count s p))) (pattern_first s p) (pattern_count s p) (type_first s t) 1 q f)
  inside Unknown x q f = let o : ◌≡◌ {A = ℕ} 0 1 = cc in absurd (omega arith)

  -- ---- the ways through fitting a pattern, by what is left to ask
  module _ (left : Question) (x : left ≡ asked s p t (pattern_kind_of (pattern_kind s p))) where
    pub settled_is : {fit : Bool} → left ≡ Settled fit → fit ≡ fits (pattern s p t) s
    unfolding answered
    settled_is y = sym (fits_answered s m ready p t h ∙ ap (answered s t) (sym x ∙ y))

    pub inside_there : {q : ℕ} → left ≡ Inside q → (p < q) × (q < patterns s)
    inside_there {q} y = inside (pattern_kind_of (pattern_kind s p)) refl q (sym x ∙ y)

    pub inside_is : {q : ℕ} {fit : Bool} → left ≡ Inside q → fit ≡ fits (pattern s q t) s → fit ≡ fits (pattern s p t) s
    unfolding answered
    inside_is y z = z ∙ sym (fits_answered s m ready p t h ∙ ap (answered s t) (sym x ∙ y))

    pub each_room : {j n e step : ℕ} → left ≡ Each j n e step → Room s p j n e step
    each_room {j} {n} {e} {step} y = room (pattern_kind_of (pattern_kind s p)) refl j n e step (sym x ∙ y)

    pub each_is : {j n e step : ℕ} {fit : Bool} → left ≡ Each j n e step → fit ≡ fit_all (along (pattern s) s j n e step) s → fit ≡ fits (pattern s p t) s
    unfolding answered
    each_is y z = z ∙ sym (fits_answered s m ready p t h ∙ ap (answered s t) (sym x ∙ y))

-- ---- the ways through fitting children
-- what is there where a child is left
pub record Here (s : List ℕ) (parent j n e step : ℕ) : Type 0 where
  pub entry_there : j < children s
  pub type_there : e < entries s
  pub above : parent < child s j
  pub child_known_holds : child s j < patterns s
  pub type_known : entry s e < types s
  pub few : n ≤ children_most
  pub few_children : j < children_most
  pub few_entries : e + step ≤ entries_most
  pub next : Room s parent (j + 1) (n - 1) (e + step) step

pub here : (s : List ℕ) (m : SheetMap) → ReadySheet s m → (parent j n e step : ℕ) → Room s parent j n e step → (n ≡ 0 → ⊥) → Here s parent j n e step
here s m ready parent j n e step r some =
    let owned : Owns s parent j = record { parent = r.has; from = r.from; to = omega (arith, r.to) } in
    let there : j < children s = owned_entry ready.is_shaped parent j r.known owned in
    let type : e < entries s = ⊎_elim (λ w. w.1) (λ w. omega arith) r.enough in
    let run = ready.is_shaped.children_run parent r.known r.has in
    record {
      entry_there = there;
      type_there = type;
      above = ready.is_shaped.child_above parent j r.known owned;
      child_known_holds = owned_pattern ready.is_shaped parent j r.known owned;
      type_known = ready.is_typed.entry_type e type;
      few = omega (arith, ready.is_counted.children_most_holds, run.inside, r.to);
      few_children = omega (arith, ready.is_counted.children_most_holds, there);
      few_entries = ⊎_elim (λ w. omega (arith, ready.is_counted.entries_most_holds)) (λ w. omega (arith, ready.is_counted.entries_most_holds)) r.enough;
      next = record {
        known = r.known;
        has = r.has;
        from = omega (arith, r.from);
        to = omega (arith, r.to);
        enough = ⊎_elim (λ w. inl (w.0, omega arith)) (λ w. inr (w.0, omega arith)) r.enough;
      };
    }

module _ (s : List ℕ) (j n e step : ℕ) where
  pub all_none : n ≡ 0 → true ≡ fit_all (along (pattern s) s j n e step) s
  unfolding fit_all
  all_none z = sym (ap (λ (k : ℕ). fit_all (along (pattern s) s j k e step) s) z ∙ rw (along_none (pattern s) s j e step))

  module _ (some : n ≡ 0 → ⊥) (q u : ℕ) (x : q ≡ child s j) (y : u ≡ entry s e) {fit : Bool} (z : fit ≡ fits (pattern s q u) s) where
    all_some : fit_all (along (pattern s) s j n e step) s ≡ both fit (fit_all (along (pattern s) s (j + 1) (n - 1) (e + step) step) s)
    unfolding fit_all
    all_some = rw (along_some (pattern s) s j n e step some, ← x, ← y, ← z)

    pub all_stop : not fit ≡ true → false ≡ fit_all (along (pattern s) s j n e step) s
    all_stop o = let f : fit ≡ false = not-true fit o in sym (all_some ∙ rw f)

    pub all_go_on : {rest : Bool} → not fit ≡ false → rest ≡ fit_all (along (pattern s) s (j + 1) (n - 1) (e + step) step) s → rest ≡ fit_all (along (pattern s) s j n e step) s
    all_go_on o w = let f : fit ≡ true = not-false fit o in w ∙ sym (all_some ∙ rw f)

-- how many children there can be
pub room_few : (s : List ℕ) (m : SheetMap) → ReadySheet s m → (parent j n e step : ℕ) → Room s parent j n e step → n ≤ children_most
room_few s m ready parent j n e step r =
    let run = ready.is_shaped.children_run parent r.known r.has in
    omega (arith, ready.is_counted.children_most_holds, run.inside, r.to)

-- ---- a clause's pattern
pub misfit_is : (s : List ℕ) (m : SheetMap) → m ≡ map_of s → (c p : ℕ) → p ≡ root s c → {fit : Bool} → fit ≡ fits (pattern s p m.subject) s → not fit ≡ misfit s c
unfolding misfit clause_pattern
misfit_is s m e c p x z = ap not (z ∙ ap₂ (λ (a b : ℕ). fits (pattern s a b) s) x (mapped s m e).of_subject)
