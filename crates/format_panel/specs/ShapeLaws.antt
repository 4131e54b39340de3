-- The pass of refusal 23 one step at a time; and the tests of 23 from facts of each record and each part, in the other direction
-- than the crate spec_accepted gives them. Rests on the laws of `every`.
use Rattle.std.specs.Prelude.{◌≡◌, Bool, List, ℕ, suc, ◌+◌, ◌-◌, ◌≤◌, ◌<◌, eqb, ltb}
use Rattle.std.proofs.Math.Path.{refl}
use Rattle.std.proofs.Math.Bool.{true, false}
use Rattle.std.proofs.Common.{arith}
use borrow.Author.Tests.{ltb-true, eq-eqb, lt-ltb}
use Rattle.base_words.specs.Words.{pick}
use Rattle.base_words.specs.WordsLaws.{both_true, both_make}
use Rattle.spec_rules.specs.Limits.{panel_depth_most}
use Rattle.spec_rules.specs.Kinds.{constructor_record}
use Rattle.spec_rules.specs.Searching.{every, times}
use Rattle.spec_rules.specs.SearchingLaws.{every_true, every_make}
use Rattle.spec_rules.specs.PanelFile.{records, parts, record_kind, record_zero, record_first, record_count, part, record_kind_of, has_parts, record_fields_fit, is_higher, parts_higher, record_keeps_rules, is_part, is_one_part, holds, part_keeps_rules, record_within, panel_shape_fits}
use Rattle.spec_accepted.specs.PanelFacts.{Holds, holder_kind, fields_kind, fields_run}
use Rattle.format_panel.specs.Shape.{Seen, fields_fit, enter_part, enter_parts, enter_record, enter_records}

-- record r has a list of parts
abbrev pub listed : List ℕ → ℕ → Bool
listed v r = has_parts (record_kind_of (record_kind v r))

-- ---- the pass goes on where nothing broke, and else stops
module _ (v : List ℕ) (s : Seen) where
  pub parts_on : (r j n : ℕ) → (enter_part v s r j).sound ≡ true → enter_parts v s r j (suc n) ≡ enter_parts v (enter_part v s r j) r (j + 1) n
  unfolding enter_parts
  parts_on r j n e = rw (enter_parts, e)

  pub parts_stop : (r j n : ℕ) → (enter_part v s r j).sound ≡ false → enter_parts v s r j (suc n) ≡ enter_part v s r j
  unfolding enter_parts
  parts_stop r j n e = rw (enter_parts, e)

  pub records_on : (r n : ℕ) → (enter_record v s r).sound ≡ true → enter_records v s r (suc n) ≡ enter_records v (enter_record v s r) (r + 1) n
  unfolding enter_records
  records_on r n e = rw (enter_records, e)

  pub records_stop : (r n : ℕ) → (enter_record v s r).sound ≡ false → enter_records v s r (suc n) ≡ enter_record v s r
  unfolding enter_records
  records_stop r n e = rw (enter_records, e)

-- ---- the tests of 23
module _ (v : List ℕ) where
  pub higher_true : (r j : ℕ) → is_higher v r j ≡ true → (r < part v j) × (part v j < records v)
  unfolding is_higher
  higher_true r j h = let a = both_true (ltb r (part v j)) (ltb (part v j) (records v)) h in (ltb-true _ _ a.0, ltb-true _ _ a.1)

  pub higher_make : (r j : ℕ) → r < part v j → part v j < records v → is_higher v r j ≡ true
  unfolding is_higher
  higher_make r j low high = rw (lt-ltb _ _ low, lt-ltb _ _ high)

  -- the list of a record whose fields fit lies among the parts
  pub list_inside : (r : ℕ) → fields_fit v r ≡ true → listed v r ≡ true → record_first v r + record_count v r ≤ parts v
  unfolding fields_fit
  list_inside r f h =
      (fields_run v r (both_true (eqb (record_zero v r) 0) (record_fields_fit v r (record_kind_of (record_kind v r))) f).1 (holder_kind v r h).0).inside

  pub fit_kind : (r : ℕ) → fields_fit v r ≡ true → record_kind v r ≤ constructor_record
  unfolding fields_fit
  fit_kind r f = fields_kind v r (both_true (eqb (record_zero v r) 0) (record_fields_fit v r (record_kind_of (record_kind v r))) f).1

  -- each part of a record within `deep` levels, the record within one more
  pub within_make : (deep r : ℕ) → ((j : ℕ) → Holds v r j → record_within deep v (part v j) ≡ true) → record_within (suc deep) v r ≡ true
  unfolding record_within
  within_make deep r h = go (listed v r) refl
    where
      go : (b : Bool) → listed v r ≡ b
          → (elim b [ true ↦ every (λ i. record_within deep v (part v i)) (record_first v r) (record_count v r) | false ↦ true ]) ≡ true
      go true e =
          every_make (λ i. record_within deep v (part v i)) (record_first v r) (record_count v r)
          (λ j low high. h j (record { holder = e; from = low; to = high }))
      go false e = refl

  keeps_make : (r : ℕ) → fields_fit v r ≡ true → parts_higher v r (record_kind_of (record_kind v r)) ≡ true → record_keeps_rules v r ≡ true
  unfolding record_keeps_rules fields_fit
  keeps_make r f p =
      let a = both_true (eqb (record_zero v r) 0) _ f in
      both_make (eqb (record_zero v r) 0) _ a.0 (both_make (record_fields_fit v r (record_kind_of (record_kind v r))) _ a.1 p)

  parts_higher_make : (r : ℕ) → ((j : ℕ) → Holds v r j → (r < part v j) × (part v j < records v)) → parts_higher v r (record_kind_of (record_kind v r)) ≡ true
  unfolding parts_higher
  parts_higher_make r h = go (listed v r) refl
    where
      go : (b : Bool) → listed v r ≡ b → pick b (every (is_higher v r) (record_first v r) (record_count v r)) true ≡ true
      go true e =
          every_make (is_higher v r) (record_first v r) (record_count v r)
          (λ j low high. let w = h j (record { holder = e; from = low; to = high }) in higher_make r j w.0 w.1)
      go false e = refl

  -- the fields of every record fit where the shape does
  pub shape_fields : panel_shape_fits v ≡ true → (r : ℕ) → r < records v → fields_fit v r ≡ true
  unfolding panel_shape_fits record_keeps_rules fields_fit
  shape_fields h r l =
      let keeps = every_true (record_keeps_rules v) 0 (records v) (both_true (every (record_keeps_rules v) 0 (records v)) _ h).0 r (omega arith) (omega arith) in
      let a = both_true (eqb (record_zero v r) 0) _ keeps in
      both_make (eqb (record_zero v r) 0) _ a.0 (both_true (record_fields_fit v r (record_kind_of (record_kind v r))) _ a.1).0

  pub shape_make : ((r : ℕ) → r < records v → fields_fit v r ≡ true)
      → ((r j : ℕ) → r < records v → Holds v r j → (r < part v j) × (part v j < records v))
      → ((r : ℕ) → 1 ≤ r → r < records v → times (is_part v r) 0 (parts v) ≡ 1)
      → ((j : ℕ) → j < parts v → (part v j < records v) × (times (holds v j) 0 (records v) ≡ 1))
      → record_within panel_depth_most v 0 ≡ true
      → panel_shape_fits v ≡ true
  unfolding panel_shape_fits is_one_part part_keeps_rules
  shape_make fields higher once owned within =
      both_make (every (record_keeps_rules v) 0 (records v)) _
      (every_make (record_keeps_rules v) 0 (records v)
      (λ r low high. keeps_make r (fields r (omega arith)) (parts_higher_make r (λ j h. higher r j (omega arith) h))))
      (both_make (every (is_one_part v) 1 (records v - 1)) _
      (every_make (is_one_part v) 1 (records v - 1) (λ r low high. eq-eqb _ _ (once r low (omega arith))))
      (both_make (every (part_keeps_rules v) 0 (parts v)) _
      (every_make (part_keeps_rules v) 0 (parts v)
      (λ j low high.
      let o = owned j (omega arith) in
      both_make (ltb (part v j) (records v)) _ (lt-ltb _ _ o.0) (eq-eqb _ _ o.1)))
      within))
