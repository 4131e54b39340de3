-- The pass over a panel's records and parts answers what the rules of its shape say: `shape_passes_lem`.
-- Where the rules hold nothing breaks, and where nothing broke they hold: the lists' lengths add up to the number of parts.
use Rattle.std.specs.Prelude.{◌≡◌, Bool, List, eqb, leb, ltb, get_or}
use Rattle.std.proofs.Math.Path.{refl, sym, ap}
use Rattle.std.proofs.Common.{◌∙◌, inl, true≢false, eqb-true, eq-eqb, ne_eqb, lt-ltb}
use Rattle.std.proofs.Math.Logic.{⊎_elim}
use Rattle.std.proofs.Math.Bool.{true, false}
use Prim.Native.Nat.{ℕ, zero, suc, ◌+◌, ◌-◌, ◌≤◌, ◌<◌}
use native.Mathlib.Omega.{arith}
use Rattle.std.proofs.Math.ListN.{length-set, length-replicate}
use Rattle.std.proofs.Math.Seq.{get_or-set_same, get_or-set_other}
use Rattle.base_words.specs.Words.{both, pick, zeros}
use Rattle.base_words.specs.WordsLaws.{both_true, both_make}
use Rattle.spec_rules.specs.Limits.{records_most, panel_depth_most}
use Rattle.spec_rules.specs.Searching.{times}
use Rattle.spec_rules.specs.SearchingLaws.{times_some, times_found}
use Rattle.spec_rules.specs.PanelFile.{records, parts, record_first, record_count, part, is_higher, is_part, holds, record_within, panel_shape_fits}
use Rattle.spec_accepted.specs.PanelFacts.{Holds, holds_listed, listed_holds, record_within_part, PanelShaped, panel_shaped, panel_shape_depth, held_entry, held_record, one_part, record_is_part}
use Rattle.format_parts.specs.Sums.{sum, sum_same, sum_none, sum_exchange, sum_run}
use Rattle.format_panel.specs.CountingLaws.{same_or_not, sum_grows, sum_all_one, sum_each_one, times_sum, times_alone}
use Rattle.format_panel.specs.Shape.{Seen, fields_fit, enters_first, enter_part, enter_parts, record_met, enter_record, enter_records, at_root, shape_passes}
use Rattle.format_panel.specs.ShapeLaws.{listed, parts_on, records_on, higher_make, list_inside, within_make, shape_fields, shape_make}
use Rattle.format_panel.specs.ShapePass.{entries, Passed, Met, Good, Sound, depth_of, part_sound, owner_met, to_first, record_sound, records_sound}

module _ (v : List ℕ) (few : records v ≤ records_most) where
  -- ---- where the shape fits, nothing breaks
  module _ (sh : PanelShaped v) (deep : record_within panel_depth_most v 0 ≡ true) (fields : (r : ℕ) → r < records v → fields_fit v r ≡ true) where
    -- an entry's part was not met before
    not_met : (r j : ℕ) → r < records v → Holds v r j → Met v r j (part v j) → ⊥
    not_met r j l held m = ⊎_elim (λ a. omega (arith, same_owner)) (λ b. omega (arith, b.1, same_entry)) m.passed.before
      where
        owner_below : m.owner < records v
        owner_below = ⊎_elim (λ a. omega arith) (λ b. omega (arith, b.0)) m.passed.before

        same_entry : m.entry ≡ j
        same_entry = one_part sh m.entry j (held_entry sh m.owner m.entry owner_below m.passed.held) (held_entry sh r j l held) m.is

        same_owner : m.owner ≡ r
        same_owner = sh.one_holder m.owner r j owner_below l (rw same_entry at m.passed.held) held

    part_allowed : (s : Seen) (r j c : ℕ) → Sound v r j c s → r < records v → Holds v r j → 1 ≤ depth_of s r → enters_first v s.depths r j ≡ true
    unfolding enters_first record_within
    part_allowed s r j c sd l held some =
        both_make (is_higher v r j) _ (higher_make v r j up.0 up.1)
        (both_make (eqb (depth_of s (part v j)) 0) _ (eq-eqb _ _ new) (lt-ltb _ _ shallow))
      where
        up : (r < part v j) × (part v j < records v)
        up = (sh.part_above r j l held, held_record sh r j l held)

        new : depth_of s (part v j) ≡ 0
        new =
            ⊎_elim (λ e. e)
            (λ d. absurd (⊎_elim (λ e. omega (arith, up.0)) (not_met r j l held) (sd.good.came (part v j) (omega arith))))
            (same_or_not (depth_of s (part v j)) 0)

        too_deep : depth_of s r ≡ panel_depth_most → ⊥
        too_deep e = true≢false (sym (record_within_part v 0 r j (rw e at (sd.good.reach deep r some)) held))

        shallow : depth_of s r < panel_depth_most
        shallow = ⊎_elim (λ e. absurd (too_deep e)) (λ d. omega (arith, sd.good.most r)) (same_or_not (depth_of s r) panel_depth_most)

    enter_allowed : (s : Seen) (r j c : ℕ) → Sound v r j c s → r < records v → Holds v r j → 1 ≤ depth_of s r → (enter_part v s r j).sound ≡ true
    unfolding enter_part
    enter_allowed s r j c sd l held some = rw (part_allowed s r j c sd l held some) sd.sound

    parts_allowed : (n : ℕ) (s : Seen) (r j c : ℕ) → Sound v r j c s → r < records v → ((k : ℕ) → j ≤ k → k < j + n → Holds v r k) → 1 ≤ depth_of s r
        → (enter_parts v s r j n).sound ≡ true
    unfolding enter_parts
    parts_allowed zero s r j c sd l held some = sd.sound
    parts_allowed (suc n) s r j c sd l held some =
        let mine = held j (omega arith) (omega arith) in
        let e = enter_allowed s r j c sd l mine some in
        let next = part_sound v few s r j c sd mine some e in
        rw (parts_on v s r j n e)
        (parts_allowed n (enter_part v s r j) r (j + 1) (c + 1) next l (λ k low high. held k (omega arith) (omega arith))
        (owner_met v few (enter_part v s r j) r j (c + 1) next mine))

    -- a record of the panel was met before it is at hand: it is the root, or a part of a lower record
    record_allowed : (s : Seen) (r c : ℕ) → Sound v r 0 c s → r < records v → 1 ≤ depth_of s r
    record_allowed s r c sd l = ⊎_elim (λ e. let d : depth_of s r ≡ depth_of s 0 = ap (depth_of s) e in omega (arith, sd.good.root)) (λ d. higher_one (omega arith)) (same_or_not r 0)
      where
        higher_one : 1 ≤ r → 1 ≤ depth_of s r
        higher_one low =
            let e = record_is_part sh r low l in
            let o = sh.its_holder e.0 e.1 in
            let up = sh.part_above o.0 e.0 o.1 o.2 in
            let m = sd.good.marked o.0 e.0 (record { held = o.2; before = inl (omega (arith, e.2)) }) in
            let d : depth_of s (part v e.0) ≡ depth_of s r = ap (depth_of s) e.2 in
            omega (arith, m.deeper)

    record_goes : (s : Seen) (r c : ℕ) → Sound v r 0 c s → r < records v → (enter_record v s r).sound ≡ true
    unfolding enter_record record_met
    record_goes s r c sd l = go (listed v r) refl
      where
        some : 1 ≤ depth_of s r
        some = record_allowed s r c sd l

        met_it : record_met v s.depths r ≡ true
        met_it = both_make (ltb 0 (depth_of s r)) _ (lt-ltb _ _ some) (fields r l)

        go : (b : Bool) → listed v r ≡ b → (enter_record v s r).sound ≡ true
        go true e =
            let begun : Sound v r (record_first v r) c s = record { sound = sd.sound; long = sd.long; good = to_first v few r c (depth_of s) sd.good } in
            rw (met_it, e) (parts_allowed (record_count v r) s r (record_first v r) c begun l (λ k low high. record { holder = e; from = low; to = high }) some)
        go false e = rw (met_it, e) sd.sound

    records_allowed : (n : ℕ) (s : Seen) (r : ℕ) → Sound v r 0 (sum (entries v) 0 r) s → r + n ≤ records v → (enter_records v s r n).sound ≡ true
    unfolding enter_records
    records_allowed zero s r sd l = sd.sound
    records_allowed (suc n) s r sd l =
        let e = record_goes s r (sum (entries v) 0 r) sd (omega arith) in
        rw (records_on v s r n e) (records_allowed n (enter_record v s r) (r + 1) (record_sound v few s r sd e) (omega arith))

  -- ---- at the end every entry has been passed
  entries_held : (r : ℕ) → fields_fit v r ≡ true → entries v r ≡ sum (λ j. pick (holds v j r) 1 0) 0 (parts v)
  unfolding holds
  entries_held r f = go (listed v r) refl
    where
      go : (b : Bool) → listed v r ≡ b
          → pick b (record_count v r) 0 ≡ sum (λ j. pick (both b (both (leb (record_first v r) j) (ltb j (record_first v r + record_count v r)))) 1 0) 0 (parts v)
      go true e =
          let run = sum_run (λ j. 1) (record_first v r) (record_count v r) (parts v) (list_inside v r f e) in
          sym (run ∙ sum_all_one (λ j. 1) (record_first v r) (record_count v r) (λ k low high. refl))
      go false e = sym (sum_none (λ j. 0) 0 (parts v) (λ k low high. refl))

  -- the lists' lengths add up to how often each entry is in a list
  by_entry : ((r : ℕ) → r < records v → fields_fit v r ≡ true) → sum (entries v) 0 (records v) ≡ sum (λ j. times (holds v j) 0 (records v)) 0 (parts v)
  by_entry fields =
      sum_same (entries v) (λ r. sum (λ j. pick (holds v j r) 1 0) 0 (parts v)) 0 (records v) (λ r low l. entries_held r (fields r (omega arith)))
      ∙ sum_exchange (λ r j. pick (holds v j r) 1 0) 0 (records v) 0 (parts v)
      ∙ sum_same (λ j. sum (λ r. pick (holds v j r) 1 0) 0 (records v)) (λ j. times (holds v j) 0 (records v)) 0 (parts v) (λ j low l. sym (times_sum (holds v j) (records v)))

  -- the root is no part, and every other record is one
  one_less : (s : Seen) → Sound v (records v) 0 (sum (entries v) 0 (records v)) s → sum (entries v) 0 (records v) + 1 ≡ records v
  one_less s sd =
      sym sd.good.many
      ∙ sum_all_one (λ p. pick (ltb 0 (depth_of s p)) 1 0) 0 (records v) (λ p low l. ap (λ (b : Bool). pick b 1 0) (lt-ltb 0 (depth_of s p) (sd.good.done p (omega arith)).0))

  module _ (s : Seen) (sd : Sound v (records v) 0 (sum (entries v) 0 (records v)) s) (equal : parts v + 1 ≡ records v) where
    end_passed : (j r : ℕ) → r < records v → Holds v r j → Passed v (records v) 0 r j
    end_passed j r l h = record { held = h; before = inl l }

    end_fields : (r : ℕ) → r < records v → fields_fit v r ≡ true
    end_fields r l = (sd.good.done r l).1

    end_higher : (r j : ℕ) → r < records v → Holds v r j → (r < part v j) × (part v j < records v)
    end_higher r j l h = let d = sd.good.marked r j (end_passed j r l h) in (d.higher, d.inside)

    -- an entry is in one list at most, so in one, since the lists' lengths add up to the number of entries
    end_owned : (j : ℕ) → j < parts v → times (holds v j) 0 (records v) ≡ 1
    end_owned j l =
        sum_each_one (λ i. times (holds v i) 0 (records v)) 0 (parts v)
        (λ i low high. times_alone (holds v i) 0 (records v)
        (λ r₁ r₂ a b c d x y. (sd.good.alone r₁ i r₂ i (end_passed i r₁ (omega arith) (holds_listed v r₁ i x)) (end_passed i r₂ (omega arith) (holds_listed v r₂ i y)) refl).0))
        (sym (by_entry end_fields) ∙ omega (arith, one_less s sd)) j (omega arith) (omega arith)

    owner : (j : ℕ) → j < parts v → (r : ℕ) × (r < records v) × Holds v r j
    owner j l =
        let one = end_owned j l in
        let o = times_found (holds v j) 0 (records v) (omega arith) in
        (o.0, omega (arith, o.2), holds_listed v o.0 j o.3)

    end_inside : (j : ℕ) → j < parts v → part v j < records v
    end_inside j l = let o = owner j l in (end_higher o.0 j o.1 o.2).1

    end_once : (r : ℕ) → 1 ≤ r → r < records v → times (is_part v r) 0 (parts v) ≡ 1
    unfolding is_part
    end_once r low l = let a = some in let b = alone in omega arith
      where
        met_it : Met v (records v) 0 r
        met_it = ⊎_elim (λ e. absurd (omega arith)) (λ m. m) (sd.good.came r (sd.good.done r l).0)

        owner_below : met_it.owner < records v
        owner_below = ⊎_elim (λ a. a) (λ b. absurd (omega (arith, b.1))) met_it.passed.before

        below : met_it.entry < parts v
        below =
            omega (arith, met_it.passed.held.to, list_inside v met_it.owner (end_fields met_it.owner owner_below) met_it.passed.held.holder)

        some : 1 ≤ times (is_part v r) 0 (parts v)
        some = times_some (is_part v r) 0 (parts v) met_it.entry (omega arith) (omega (arith, below)) (eq-eqb _ _ met_it.is)

        alone : times (is_part v r) 0 (parts v) ≤ 1
        alone =
            times_alone (is_part v r) 0 (parts v)
            (λ j₁ j₂ a b c d x y.
            let o₁ = owner j₁ (omega arith) in
            let o₂ = owner j₂ (omega arith) in
            (sd.good.alone o₁.0 j₁ o₂.0 j₂ (end_passed j₁ o₁.0 o₁.1 o₁.2) (end_passed j₂ o₂.0 o₂.1 o₂.2)
            (eqb-true (part v j₁) r x ∙ sym (eqb-true (part v j₂) r y))).1)

    -- from a record down to the deepest below it there are as many levels as panel_depth_most leaves
    end_reach : (k r : ℕ) → r < records v → records v ≤ r + k → record_within (panel_depth_most + 1 - depth_of s r) v r ≡ true
    end_reach zero r l h = absurd (omega arith)
    end_reach (suc k) r l h =
        let most = sd.good.most r in
        let e : panel_depth_most + 1 - depth_of s r ≡ suc (panel_depth_most - depth_of s r) = omega arith in
        rw e
        (within_make v (panel_depth_most - depth_of s r) r
        (λ j held.
        let d = sd.good.marked r j (end_passed j r l held) in
        let f : panel_depth_most - depth_of s r ≡ panel_depth_most + 1 - depth_of s (part v j) = omega (arith, d.deeper) in
        rw f (end_reach k (part v j) d.inside (omega (arith, d.higher)))))

    end_fits : 1 ≤ records v → panel_shape_fits v ≡ true
    end_fits least =
        let e : panel_depth_most + 1 - depth_of s 0 ≡ panel_depth_most = omega (arith, sd.good.root) in
        shape_make v end_fields end_higher end_once (λ j l. (end_inside j l, end_owned j l)) (rw e at (end_reach (records v) 0 (omega arith) (omega arith)))

-- ---- the whole pass
get_or_zeros : (n k : ℕ) → get_or (zeros n) k 0 ≡ 0
get_or_zeros zero k = refl
get_or_zeros (suc n) zero = refl
get_or_zeros (suc n) (suc k) = get_or_zeros n k

module _ (v : List ℕ) (least : 1 ≤ records v) (few : records v ≤ records_most) where
  root_depth : depth_of at_root 0 ≡ 1
  unfolding at_root
  root_depth = get_or-set_same (zeros records_most) 0 1 0 (simp length-replicate (omega arith))

  other_depth : (p : ℕ) → (p ≡ 0 → ⊥) → depth_of at_root p ≡ 0
  unfolding at_root
  other_depth p d = get_or-set_other (zeros records_most) 0 p 1 0 d ∙ get_or_zeros records_most p

  only_root : (p : ℕ) → 1 ≤ depth_of at_root p → p ≡ 0
  only_root p h = ⊎_elim (λ e. e) (λ d. absurd (omega (arith, other_depth p d))) (same_or_not p 0)

  none_passed : (r j : ℕ) → Passed v 0 0 r j → ⊥
  none_passed r j p = ⊎_elim (λ a. omega arith) (λ b. omega (arith, b.1)) p.before

  start : Good v 0 0 0 (depth_of at_root)
  start = record {
    root = root_depth;
    most = λ p. ⊎_elim (λ e. let d : depth_of at_root p ≡ depth_of at_root 0 = ap (depth_of at_root) e in omega (arith, root_depth)) (λ d. omega (arith, other_depth p d)) (same_or_not p 0);
    came = λ p h. inl (only_root p h);
    marked = λ r j p. absurd (none_passed r j p);
    alone = λ r₁ j₁ r₂ j₂ p. absurd (none_passed r₁ j₁ p);
    done = λ r l. absurd (omega arith);
    reach = λ w p h. let e = only_root p h in rw (e, root_depth) w;
    many = sum_grows (λ p. 0) (λ p. pick (ltb 0 (depth_of at_root p)) 1 0) 0 (records v) 0 (omega arith) (omega arith) (rw (root_depth) refl) (λ p d. rw (other_depth p d) refl)
        ∙ ap (λ (x : ℕ). x + 1) (sum_none (λ p. 0) 0 (records v) (λ k low high. refl));
  }

  begun : Sound v 0 0 (sum (entries v) 0 0) at_root
  unfolding sum at_root
  begun = record { sound = refl; long = length-set (zeros records_most) 0 1 ∙ length-replicate {A = ℕ} records_most 0; good = start }

  abbrev end : Seen
  end = enter_records v at_root 0 (records v)

  ended : end.sound ≡ true → Sound v (records v) 0 (sum (entries v) 0 (records v)) end
  ended h = let e : 0 + records v ≡ records v = omega arith in rw e at (records_sound v few (records v) at_root 0 begun h)

  -- where the shape fits, the pass goes through, and there is one part fewer than there are records
  goes_through : panel_shape_fits v ≡ true → end.sound ≡ true
  goes_through h = records_allowed v few (panel_shaped v h) (panel_shape_depth v h) (shape_fields v h) (records v) at_root 0 begun (omega arith)

  held_once : (sh : PanelShaped v) (j : ℕ) → j < parts v → times (holds v j) 0 (records v) ≡ 1
  held_once sh j l =
      let o = sh.its_holder j l in
      let some = times_some (holds v j) 0 (records v) o.0 (omega arith) (omega (arith, o.1)) (listed_holds v o.0 j o.2) in
      let one = times_alone (holds v j) 0 (records v) (λ q r a b c d x y. sh.one_holder q r j (omega arith) (omega arith) (holds_listed v q j x) (holds_listed v r j y)) in
      omega arith

  counted : panel_shape_fits v ≡ true → parts v + 1 ≡ records v
  counted h =
      let all = sum_all_one (λ j. times (holds v j) 0 (records v)) 0 (parts v) (λ j low l. held_once (panel_shaped v h) j (omega arith)) in
      omega (arith, by_entry v few (shape_fields v h), one_less v few end (ended (goes_through h)))

  pub shape_passes_lem : shape_passes v ≡ panel_shape_fits v
  unfolding shape_passes
  shape_passes_lem = go (panel_shape_fits v) refl
    where
      passing : shape_passes v ≡ true → panel_shape_fits v ≡ true
      passing h =
          let a = both_true (eqb (parts v + 1) (records v)) _ h in
          end_fits v few end (ended a.1) (eqb-true _ _ a.0) least

      refusing : (b : Bool) → shape_passes v ≡ b → panel_shape_fits v ≡ false → b ≡ false
      refusing true e f = absurd (true≢false (sym (passing e) ∙ f))
      refusing false e f = refl

      go : (b : Bool) → panel_shape_fits v ≡ b → shape_passes v ≡ b
      go true e = both_make (eqb (parts v + 1) (records v)) _ (eq-eqb _ _ (counted e)) (goes_through e)
      go false e = refusing (shape_passes v) refl e

  -- what the code answers: false where the count is wrong, else whether the pass stays sound
  pub count_wrong : (parts v + 1 ≡ records v → ⊥) → false ≡ panel_shape_fits v
  unfolding shape_passes
  count_wrong h = rw (ne_eqb _ _ h) at shape_passes_lem

  pub count_right : parts v + 1 ≡ records v → (s : Seen) → s ≡ enter_records v at_root 0 (records v) → s.sound ≡ panel_shape_fits v
  unfolding shape_passes
  count_right h s e = ap (λ (x : Seen). x.sound) e ∙ rw (eq-eqb _ _ h) at shape_passes_lem
