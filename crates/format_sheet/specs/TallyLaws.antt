-- The three tallies of refusal 8: the roots, the entries of the child list, and the lists that an entry is in.
-- Each is the one law of MeetingLaws at what its turns meet.
use Rattle.std.specs.Prelude.{◌≡◌, refl, Bool, true, false, List, ℕ, zero, suc, ◌+◌, ◌-◌, ◌≤◌, ◌<◌, leb, ltb, length}
use Rattle.std.proofs.Math.Path.{ap, sym}
use Rattle.std.proofs.Common.{◌∙◌, true≢false, arith}
use borrow.Author.Tests.{eqb-false, ne_eqb}
use Rattle.std.proofs.Math.Dec.{eqb}
use Rattle.std.proofs.Math.ListN.{get_or}
use Rattle.base_words.specs.Words.{both, pick}
use Rattle.spec_rules.specs.Searching.{every, times}
use Rattle.spec_rules.specs.SearchingLaws.{every_false, times_some, times_most}
use Rattle.spec_rules.specs.SheetFile.{patterns, children, clauses, pattern_kind, pattern_first, pattern_count, child, root}
use Rattle.spec_rules.specs.Patterns.{pattern_kind_of}
use Rattle.spec_rules.specs.SheetRefusals.{has_children, is_root, is_entry, stands_once, lists}
use Rattle.spec_accepted.specs.SheetFacts.{Counted}
use Rattle.format_sheet.specs.declared.SheetMap.{SheetMap}
use Rattle.format_sheet.specs.declared.records.Run.{Run}
use Rattle.format_sheet.specs.Sections.{map_of}
use Rattle.format_sheet.specs.SectionsLaws.{mapped}
use Rattle.format_sheet.specs.Shape.{children_first, children_count, children_of, ChildrenKnown, RootsKnown, RunsInside, listed_once}
use Rattle.format_sheet.specs.ShapeLaws.{every_same}
use Rattle.format_sheet.specs.Meeting.{none_met, met_once, among, Meets, NoneMet, RootsMet, AllMet, Tally}
use Rattle.format_sheet.specs.MeetingLaws.{among_in, among_past, among_one, tally_begins, tally_goes_on, tally_ends, tally_most}

-- ---- the roots
abbrev pub RootTally : List ℕ → ℕ → List ℕ → Type 0
RootTally s c l = Tally (is_root s) (λ p. 0) (clauses s) c l

module _ (s : List ℕ) where
  module _ (c r : ℕ) {l : List ℕ} (h : c < clauses s) (e : r ≡ root s c) (t : RootTally s c l) where
    pub root_room_to_meet : Counted s → RootsKnown s → (r < length l) × (get_or l r 0 < 255)
    root_room_to_meet few known =
        (omega (arith, e, known.root_known c h, few.patterns_most_holds, t.long), omega (arith, tally_most (is_root s) (λ p. 0) (clauses s) c r t, few.clauses_most_holds))

    pub roots_go_on : {l' : List ℕ} → Meets r 1 l l' → RootTally s (c + 1) l'
    unfolding is_root
    roots_go_on f = tally_goes_on (is_root s) (λ p. 0) (clauses s) c r 1 h t f (λ k. among_one r k ∙ ap (λ (x : ℕ). pick (eqb x k) 1 0) e)

  pub roots_done : (c : ℕ) {l : List ℕ} → clauses s ≤ c → RootTally s c l → RootsMet s l
  roots_done c h t = record { long = t.long; roots_met = λ p. tally_ends (is_root s) (λ q. 0) (clauses s) c h t p ∙ omega arith }

-- ---- the entries of the child list, after the roots
abbrev pub EntryTally : List ℕ → ℕ → List ℕ → Type 0
EntryTally s j l = Tally (is_entry s) (λ p. times (is_root s p) 0 (clauses s)) (children s) j l

module _ (s : List ℕ) where
  module _ (j q : ℕ) {l : List ℕ} (h : j < children s) (e : q ≡ child s j) (t : EntryTally s j l) where
    pub entry_room_to_meet : Counted s → ChildrenKnown s → (q < length l) × (get_or l q 0 < 255)
    entry_room_to_meet few known =
        (omega (arith, e, known.child_known_holds j h, few.patterns_most_holds, t.long), omega (arith, tally_most (is_entry s) (λ p. times (is_root s p) 0 (clauses s)) (children s) j q t, times_most (is_root s q) 0 (clauses s), few.clauses_most_holds, few.children_most_holds))

    pub entries_go_on : {l' : List ℕ} → Meets q 1 l l' → EntryTally s (j + 1) l'
    unfolding is_entry
    entries_go_on f = tally_goes_on (is_entry s) (λ p. times (is_root s p) 0 (clauses s)) (children s) j q 1 h t f (λ k. among_one q k ∙ ap (λ (x : ℕ). pick (eqb x k) 1 0) e)

  pub entries_done : (j : ℕ) {l : List ℕ} → children s ≤ j → EntryTally s j l → AllMet s l
  entries_done j h t = record { long = t.long; all_met = tally_ends (is_entry s) (λ p. times (is_root s p) 0 (clauses s)) (children s) j h t }

  pub stand_once : (m : SheetMap) {l : List ℕ} → m ≡ map_of s → AllMet s l → met_once l m.patterns.count ≡ every (stands_once s) 0 (patterns s)
  unfolding met_once stands_once
  stand_once m {l} e met =
      ap (every (λ k. eqb (get_or l k 0) 1) 0) (mapped s m e).of_patterns
      ∙ every_same (λ k. eqb (get_or l k 0) 1) (stands_once s) 0 (patterns s) (λ k low high. ap (λ (x : ℕ). eqb x 1) (met.all_met k))

-- ---- the lists that an entry is in
abbrev pub ListTally : List ℕ → ℕ → List ℕ → Type 0
ListTally s p l = Tally (lists s) (λ j. 0) (patterns s) p l

lists_among : (s : List ℕ) (p k : ℕ) → among (children_first s p) (children_count s p) k ≡ pick (lists s k p) 1 0
unfolding lists children_first children_count among
lists_among s p k = go (has_children (pattern_kind_of (pattern_kind s p)))
  where
    go : (b : Bool) → ◌≡◌ {A = ℕ} (among (pick b (pattern_first s p) 0) (pick b (pattern_count s p) 0) k) (pick (both b (both (leb (pattern_first s p) k) (ltb k (pattern_first s p + pattern_count s p)))) 1 0)
    go true = refl
    go false = among_past 0 0 k (omega arith)

-- what does not hold of every number fails at one
fails_at : (f : ℕ → Bool) (i n : ℕ) → every f i n ≡ false → (k : ℕ) × (i ≤ k) × (k < i + n) × (f k ≡ false)
unfolding every
fails_at f i zero h = absurd (true≢false h)
fails_at f i (suc n) h = go (f i) refl h (fails_at f (i + 1) n)
  where
    go : (b : Bool) → f i ≡ b → both b (every f (i + 1) n) ≡ false → (every f (i + 1) n ≡ false → (k : ℕ) × (i + 1 ≤ k) × (k < i + 1 + n) × (f k ≡ false))
        → (k : ℕ) × (i ≤ k) × (k < i + suc n) × (f k ≡ false)
    go true e x ih = let w = ih x in (w.0, omega (arith, w.1), omega (arith, w.2), w.3)
    go false e x ih = (i, omega arith, omega arith, e)

module _ (s : List ℕ) where
  pub lists_begin : {l : List ℕ} → NoneMet l → ListTally s 0 l
  lists_begin none = tally_begins (lists s) (λ j. 0) (patterns s) none.long none.none_met_holds

  module _ (p : ℕ) (r : Run) (h : p < patterns s) (e : r ≡ children_of s p) where
    first_is : r.first ≡ children_first s p
    first_is = ap (λ (x : Run). x.first) e

    count_is : r.count ≡ children_count s p
    count_is = ap (λ (x : Run). x.count) e

    pub lists_go_on : {l l' : List ℕ} → ListTally s p l → Meets r.first r.count l l' → ListTally s (p + 1) l'
    lists_go_on t f =
        tally_goes_on (lists s) (λ j. 0) (patterns s) p r.first r.count h t f
        (λ k. ap (λ (x : Run). among x.first x.count k) e ∙ lists_among s p k)

    in_list : (k : ℕ) → r.first ≤ k → k < r.first + r.count → lists s k p ≡ true
    in_list k low high = go (lists s k p) refl
      where
        one : among (children_first s p) (children_count s p) k ≡ 1
        one = among_in (children_first s p) (children_count s p) k (omega (arith, first_is)) (omega (arith, first_is, count_is))

        go : (b : Bool) → lists s k p ≡ b → lists s k p ≡ true
        go true x = x
        go false x = let z : ◌≡◌ {A = ℕ} 1 (pick (lists s k p) 1 0) = sym one ∙ lists_among s p k in let y : ◌≡◌ {A = ℕ} 1 0 = rw x at z in absurd (omega arith)

    -- an entry of the run that was met before is in two lists
    pub listed_twice : {l : List ℕ} → RunsInside s → ListTally s p l → none_met l r.first r.count ≡ false → false ≡ every (listed_once s) 0 (children s)
    unfolding none_met listed_once
    listed_twice {l} inside t again =
        let w = fails_at (λ k. eqb (get_or l k 0) 0) r.first r.count again in
        let some : get_or l w.0 0 ≡ 0 → ⊥ = eqb-false (get_or l w.0 0) 0 w.3 in
        let more = times_some (lists s w.0) p (patterns s - p) p (omega arith) (omega arith) (in_list w.0 w.1 w.2) in
        sym (every_false (listed_once s) 0 (children s) w.0 (omega arith) (omega (arith, w.2, first_is, count_is, inside.run_inside p h))
        (ne_eqb (times (lists s w.0) 0 (patterns s)) 1 (λ (q : times (lists s w.0) 0 (patterns s) ≡ 1). some (omega (arith, t.tally w.0, more)))))

  pub lists_done : (m : SheetMap) (p : ℕ) {l : List ℕ} → m ≡ map_of s → patterns s ≤ p → ListTally s p l → met_once l m.children.count ≡ every (listed_once s) 0 (children s)
  unfolding met_once listed_once
  lists_done m p {l} e h t =
      ap (every (λ k. eqb (get_or l k 0) 1) 0) (mapped s m e).of_children
      ∙ every_same (λ k. eqb (get_or l k 0) 1) (listed_once s) 0 (children s) (λ k low high. let x : get_or l k 0 ≡ times (lists s k) 0 (patterns s) = omega (arith, tally_ends (lists s) (λ j. 0) (patterns s) p h t k) in ap (λ (y : ℕ). eqb y 1) x)
