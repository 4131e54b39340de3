-- What a panel has that passed the tests of refusals 21 to 24, a record of facts for each stage; and the laws by which a record is
-- fitted to a type one level at a time. A part's number is larger than its holder's, so that the number of records is deep enough.
use Rattle.std.specs.Prelude.{◌≡◌, Bool, List, eqb, ltb, length}
use Rattle.std.proofs.Math.Path.{refl, ap}
use Rattle.std.proofs.Common.{sym, ap₂, ◌∙◌, true≢false, eq-or-lt_of_le, add-one}
use Rattle.std.proofs.Math.Logic.{⊎_elim}
use Rattle.std.proofs.Math.Bool.{true, false}
use Prim.Native.Nat.{ℕ, zero, suc, ◌+◌, ◌-◌, ◌*◌, ◌≤◌, ◌<◌}
use native.Mathlib.Omega.{arith}
use borrow.Author.Tests.{leb-true, leb-false, ltb-true, eqb-true, lt-ltb, le-leb, eq-eqb}
use Rattle.std.proofs.Math.Dec.{leb}
use Rattle.base_words.specs.Words.{both}
use Rattle.base_words.specs.WordsLaws.{both_true}
use Rattle.spec_rules.specs.Limits.{record_size, part_size, panel_trailer, panel_most, records_most, panel_depth_most, text_most}
use Rattle.spec_rules.specs.Kinds.{list_type, pair_type, tuple_type, integer_record, bytes_record, list_record, pair_record, constructor_record}
use Rattle.spec_rules.specs.RefusalNumbers.{panel_length_refusal, panel_layout_refusal, panel_shape_refusal, panel_text_refusal}
use Rattle.spec_rules.specs.Searching.{every, times}
use Rattle.spec_rules.specs.SearchingLaws.{every_true, times_found, times_one}
use Rattle.spec_rules.specs.SheetFile.{type_kind, type_count, entry, run_in}
use Rattle.spec_rules.specs.Patterns.{takes_arguments}
use Rattle.spec_rules.specs.Texts.{canonical, short_text}
use Rattle.spec_rules.specs.SheetRefusals.{accepted}
use Rattle.spec_rules.specs.SheetRefusalsLaws.{require_accepted}
use Rattle.spec_rules.specs.PanelFile.{panel_length, records_at, parts_at, panel_pool_at, panel_pool_end, panel_sizes, panel_places, records, parts, panel_pool_size, record_kind, record_zero, record_a, record_first, record_count, part, record_text, RecordKind, Integer_record, Bytes_record, List_record, Pair_record, Tuple_record, Constructor_record, Unknown_record, record_kind_of, panel_length_fits, panel_layout_fits, has_parts, record_fields_fit, is_higher, parts_higher, record_keeps_rules, is_part, is_one_part, holds, part_keeps_rules, record_within, panel_shape_fits, record_text_of_kind, record_text_fits, panel_texts_fit, panel_verdict}
use Rattle.spec_rules.specs.Fitting.{parts_fit, record_fits, has_type_to}
use Rattle.spec_accepted.specs.KindsLaws.{record_number, record_number_lem, record_byte, record_unknown}
use Rattle.spec_accepted.specs.RunsLaws.{Run, run_in_lem, section_rises, section_fills, pool_fills, trailer_fills, every_below}

-- ---- 21 and 22: the sections stand back to back, each of whole records, and the trailer ends the file
pub record PanelLaid (v : List ℕ) : Type 0 where
  pub length_least : panel_trailer ≤ length v
  pub length_most : length v ≤ panel_most
  pub length_told : panel_length v ≡ length v
  pub records_start : records_at v ≡ 0
  pub records_end : records_at v + record_size * records v ≡ parts_at v
  pub parts_end : parts_at v + part_size * parts v ≡ panel_pool_at v
  pub pool_end_holds : panel_pool_at v + panel_pool_size v ≡ panel_pool_end v
  pub trailer_end : panel_pool_end v + panel_trailer ≡ length v
  pub some_record : 1 ≤ records v
  pub records_most_holds : records v ≤ records_most

pub panel_laid : (v : List ℕ) → panel_length_fits v ≡ true → panel_layout_fits v ≡ true → PanelLaid v
unfolding panel_length_fits panel_layout_fits records parts panel_pool_size panel_pool_end
panel_laid v long out =
    let l1 = both_true _ _ long in
    let l2 = both_true _ _ l1.1 in
    let s1 = both_true _ _ out in
    let s2 = both_true _ _ s1.1 in
    let s3 = both_true _ _ s2.1 in
    let fills = section_fills panel_sizes (panel_places v) s2.0 in
    let least : panel_trailer ≤ length v = leb-true _ _ l1.0 in
    record {
      length_least = least;
      length_most = leb-true _ _ l2.0;
      length_told = eqb-true _ _ l2.1;
      records_start = eqb-true _ _ s1.0;
      records_end = fills 0 (omega arith);
      parts_end = fills 1 (omega arith);
      pool_end_holds = pool_fills (panel_pool_at v) (panel_pool_end v) (section_rises panel_sizes (panel_places v) s2.0 2 (omega arith));
      trailer_end = trailer_fills panel_trailer (length v) least;
      some_record = leb-true _ _ s3.0;
      records_most_holds = leb-true _ _ s3.1;
    }

-- a text's bytes lie before the trailer
module _ {v : List ℕ} (l : PanelLaid v) where
  pub panel_text_inside : (first count : ℕ) → first + count ≤ panel_pool_size v → panel_pool_at v + first + count + panel_trailer ≤ length v
  panel_text_inside first count h = omega arith

-- ---- 23: records and child entries
-- r has its first and count in the child list
abbrev pub Holder : List ℕ → ℕ → Type 0
Holder v r = has_parts (record_kind_of (record_kind v r)) ≡ true

-- entry j is in r's list
pub record Holds (v : List ℕ) (r j : ℕ) : Type 0 where
  pub holder : Holder v r
  pub from : record_first v r ≤ j
  pub to : j < record_first v r + record_count v r

pub record PanelShaped (v : List ℕ) : Type 0 where
  pub zero_byte : (r : ℕ) → r < records v → record_zero v r ≡ 0
  pub record_kind_holds : (r : ℕ) → r < records v → record_kind v r ≤ constructor_record
  pub a_unused : (r : ℕ) → r < records v → (record_kind v r ≡ constructor_record → ⊥) → record_a v r ≡ 0
  pub pair_two : (r : ℕ) → r < records v → record_kind v r ≡ pair_record → record_count v r ≡ 2
  pub text_run : (r : ℕ) → r < records v → record_kind v r ≤ bytes_record → Run (record_first v r) (record_count v r) (panel_pool_size v)
  pub parts_run : (r : ℕ) → r < records v → list_record ≤ record_kind v r → Run (record_first v r) (record_count v r) (parts v)
  pub part_above : (r j : ℕ) → r < records v → Holds v r j → r < part v j
  pub part_record : (j : ℕ) → j < parts v → part v j < records v
  pub its_holder : (j : ℕ) → j < parts v → (r : ℕ) × (r < records v) × Holds v r j
  pub one_holder : (q r j : ℕ) → q < records v → r < records v → Holds v q j → Holds v r j → q ≡ r
  pub is_part_once : (r : ℕ) → 1 ≤ r → r < records v → times (is_part v r) 0 (parts v) ≡ 1

-- which kinds have parts: list to constructor
numbers_with_parts : (kind : RecordKind) → list_record ≤ record_number kind → record_number kind ≤ constructor_record → has_parts kind ≡ true
unfolding has_parts
numbers_with_parts Integer_record low high = absurd (omega arith)
numbers_with_parts Bytes_record low high = absurd (omega arith)
numbers_with_parts List_record low high = refl
numbers_with_parts Pair_record low high = refl
numbers_with_parts Tuple_record low high = refl
numbers_with_parts Constructor_record low high = refl
numbers_with_parts Unknown_record low high = absurd (omega arith)

parts_number : (kind : RecordKind) → has_parts kind ≡ true → (list_record ≤ record_number kind) × (record_number kind ≤ constructor_record)
unfolding has_parts
parts_number Integer_record h = absurd (true≢false (sym h))
parts_number Bytes_record h = absurd (true≢false (sym h))
parts_number List_record h = (omega arith, omega arith)
parts_number Pair_record h = (omega arith, omega arith)
parts_number Tuple_record h = (omega arith, omega arith)
parts_number Constructor_record h = (omega arith, omega arith)
parts_number Unknown_record h = absurd (true≢false (sym h))

pub kind_holder : (v : List ℕ) (r : ℕ) → list_record ≤ record_kind v r → record_kind v r ≤ constructor_record → Holder v r
kind_holder v r low high =
    let e = record_number_lem (record_kind v r) in
    numbers_with_parts (record_kind_of (record_kind v r)) (omega arith) (omega arith)

pub holder_kind : (v : List ℕ) (r : ℕ) → Holder v r → (list_record ≤ record_kind v r) × (record_kind v r ≤ constructor_record)
holder_kind v r has =
    let e = record_number_lem (record_kind v r) in
    let n = parts_number (record_kind_of (record_kind v r)) has in
    (omega arith, omega arith)

-- what the fields of one record say, kind by kind
fields_a : (v : List ℕ) (r : ℕ) (kind : RecordKind) → record_fields_fit v r kind ≡ true → (kind ≡ Constructor_record → ⊥) → record_a v r ≡ 0
unfolding record_fields_fit
fields_a v r Integer_record fit c = eqb-true _ _ (both_true _ _ fit).0
fields_a v r Bytes_record fit c = eqb-true _ _ (both_true _ _ fit).0
fields_a v r List_record fit c = eqb-true _ _ (both_true _ _ fit).0
fields_a v r Pair_record fit c = eqb-true _ _ (both_true _ _ fit).0
fields_a v r Tuple_record fit c = eqb-true _ _ (both_true _ _ fit).0
fields_a v r Constructor_record fit c = absurd (c refl)
fields_a v r Unknown_record fit c = absurd (true≢false (sym fit))

fields_parts : (v : List ℕ) (r : ℕ) (kind : RecordKind) → record_fields_fit v r kind ≡ true → has_parts kind ≡ true → Run (record_first v r) (record_count v r) (parts v)
unfolding record_fields_fit has_parts
fields_parts v r Integer_record fit has = absurd (true≢false (sym has))
fields_parts v r Bytes_record fit has = absurd (true≢false (sym has))
fields_parts v r List_record fit has = run_in_lem _ _ _ (both_true (eqb (record_a v r) 0) _ fit).1
fields_parts v r Pair_record fit has = run_in_lem _ _ _ (both_true (eqb (record_count v r) 2) _ (both_true (eqb (record_a v r) 0) _ fit).1).1
fields_parts v r Tuple_record fit has = run_in_lem _ _ _ (both_true (eqb (record_a v r) 0) _ fit).1
fields_parts v r Constructor_record fit has = run_in_lem _ _ _ fit
fields_parts v r Unknown_record fit has = absurd (true≢false (sym fit))

-- one record that keeps the rules
module _ (v : List ℕ) (r : ℕ) (fit : record_fields_fit v r (record_kind_of (record_kind v r)) ≡ true) where
  of_kind : (kind : RecordKind) → record_kind_of (record_kind v r) ≡ kind → record_fields_fit v r kind ≡ true
  of_kind kind e = rw e at fit

  pub fields_kind : record_kind v r ≤ constructor_record
  unfolding record_fields_fit
  fields_kind = go (leb (record_kind v r) constructor_record) refl
    where
      go : (b : Bool) → leb (record_kind v r) constructor_record ≡ b → record_kind v r ≤ constructor_record
      go true e = leb-true _ _ e
      go false e = absurd (true≢false (sym (of_kind Unknown_record (record_unknown _ (leb-false _ _ e)))))

  pub fields_a_unused : (record_kind v r ≡ constructor_record → ⊥) → record_a v r ≡ 0
  fields_a_unused c = fields_a v r (record_kind_of (record_kind v r)) fit (λ e. c (record_byte _ Constructor_record e (omega arith)))

  pub fields_pair : record_kind v r ≡ pair_record → record_count v r ≡ 2
  unfolding record_fields_fit record_kind_of
  fields_pair e =
      let f = both_true (eqb (record_a v r) 0) _ (of_kind Pair_record (rw e)) in
      eqb-true _ _ (both_true (eqb (record_count v r) 2) (run_in (record_first v r) (record_count v r) (parts v)) f.1).0

  pub fields_text : record_kind v r ≤ bytes_record → Run (record_first v r) (record_count v r) (panel_pool_size v)
  unfolding record_fields_fit record_kind_of
  fields_text h =
      ⊎_elim (λ e. run_in_lem _ _ _ (both_true (eqb (record_a v r) 0) _ (of_kind Bytes_record (rw e))).1)
      (λ l. let e : record_kind v r ≡ integer_record = omega arith in run_in_lem _ _ _ (both_true (eqb (record_a v r) 0) _ (of_kind Integer_record (rw e))).1)
      (eq-or-lt_of_le h)

  pub fields_run : list_record ≤ record_kind v r → Run (record_first v r) (record_count v r) (parts v)
  fields_run low = fields_parts v r (record_kind_of (record_kind v r)) fit (kind_holder v r low fields_kind)

pub holds_listed : (v : List ℕ) (r j : ℕ) → holds v j r ≡ true → Holds v r j
unfolding holds
holds_listed v r j h =
    let f = both_true (has_parts (record_kind_of (record_kind v r))) (both (leb (record_first v r) j) (ltb j (record_first v r + record_count v r))) h in
    let g = both_true (leb (record_first v r) j) (ltb j (record_first v r + record_count v r)) f.1 in
    record { holder = f.0; from = leb-true _ _ g.0; to = ltb-true _ _ g.1 }

pub listed_holds : (v : List ℕ) (r j : ℕ) → Holds v r j → holds v j r ≡ true
unfolding holds
listed_holds v r j o = rw (o.holder, le-leb (record_first v r) j o.from, lt-ltb j (record_first v r + record_count v r) o.to)

above_held : (v : List ℕ) (r j : ℕ) → parts_higher v r (record_kind_of (record_kind v r)) ≡ true → Holds v r j → r < part v j
unfolding parts_higher is_higher
above_held v r j h o =
    let all = every_true (is_higher v r) (record_first v r) (record_count v r) (rw o.holder at h) j o.from o.to in
    ltb-true r (part v j) (both_true (ltb r (part v j)) (ltb (part v j) (records v)) all).0

run_entry : (v : List ℕ) (r j : ℕ) → record_fields_fit v r (record_kind_of (record_kind v r)) ≡ true → Holds v r j → j < parts v
run_entry v r j fit o = omega (arith, fields_run v r fit (holder_kind v r o.holder).0, o.to)

-- an entry that one record lists
module _ (v : List ℕ) (j : ℕ) (once : times (holds v j) 0 (records v) ≡ 1) where
  holder_found : (r : ℕ) × (r < records v) × Holds v r j
  holder_found = let w = times_found (holds v j) 0 (records v) (omega arith) in (w.0, omega (arith, w.2), holds_listed v w.0 j w.3)

  holder_one : (q r : ℕ) → q < records v → r < records v → Holds v q j → Holds v r j → q ≡ r
  holder_one q r hq hr oq or =
      times_one (holds v j) 0 (records v) q r (omega arith) (omega arith) (omega arith) (listed_holds v q j oq) (omega arith) (omega arith) (listed_holds v r j or)

-- the tests of one record and of one child entry, each by itself
record RecordRules (v : List ℕ) (r : ℕ) : Type 0 where
  zero_byte : record_zero v r ≡ 0
  fit : record_fields_fit v r (record_kind_of (record_kind v r)) ≡ true
  above : parts_higher v r (record_kind_of (record_kind v r)) ≡ true

record_rules : (v : List ℕ) (r : ℕ) → record_keeps_rules v r ≡ true → RecordRules v r
unfolding record_keeps_rules
record_rules v r keeps =
    let k1 = both_true _ _ keeps in
    let k2 = both_true _ _ k1.1 in
    record { zero_byte = eqb-true _ _ k1.0; fit = k2.0; above = k2.1 }

record PartRules (v : List ℕ) (j : ℕ) : Type 0 where
  known : part v j < records v
  once : times (holds v j) 0 (records v) ≡ 1

part_rules : (v : List ℕ) (j : ℕ) → part_keeps_rules v j ≡ true → PartRules v j
unfolding part_keeps_rules
part_rules v j keeps = let k = both_true _ _ keeps in record { known = ltb-true _ _ k.0; once = eqb-true _ _ k.1 }

-- from the rules of records and child entries; the depth is asked after these
pub panel_shaped_by_rules : (v : List ℕ) → every (record_keeps_rules v) 0 (records v) ≡ true → every (is_one_part v) 1 (records v - 1) ≡ true
    → every (part_keeps_rules v) 0 (parts v) ≡ true → PanelShaped v
unfolding is_one_part
panel_shaped_by_rules v keep_records each_once keep_parts = record {
  zero_byte = λ r h. (kept r h).zero_byte;
  record_kind_holds = λ r h. fields_kind v r (kept r h).fit;
  a_unused = λ r h. fields_a_unused v r (kept r h).fit;
  pair_two = λ r h. fields_pair v r (kept r h).fit;
  text_run = λ r h. fields_text v r (kept r h).fit;
  parts_run = λ r h. fields_run v r (kept r h).fit;
  part_above = λ r j h. above_held v r j (kept r h).above;
  part_record = λ j h. (listed j h).known;
  its_holder = λ j h. holder_found v j (listed j h).once;
  one_holder = λ q r j hq hr o. holder_one v j (listed j (run_entry v q j (kept q hq).fit o)).once q r hq hr o;
  is_part_once = λ r low h. eqb-true _ _ (every_true (is_one_part v) 1 (records v - 1) each_once r low (omega arith));
}
  where
    kept : (r : ℕ) → r < records v → RecordRules v r
    kept r h = record_rules v r (every_below (record_keeps_rules v) (records v) keep_records r h)

    listed : (j : ℕ) → j < parts v → PartRules v j
    listed j h = part_rules v j (every_below (part_keeps_rules v) (parts v) keep_parts j h)

pub panel_shaped : (v : List ℕ) → panel_shape_fits v ≡ true → PanelShaped v
unfolding panel_shape_fits
panel_shaped v keeps =
    let k1 = both_true _ _ keeps in
    let k2 = both_true _ _ k1.1 in
    let k3 = both_true _ _ k2.1 in
    panel_shaped_by_rules v k1.0 k2.0 k3.0

pub panel_shape_depth : (v : List ℕ) → panel_shape_fits v ≡ true → record_within panel_depth_most v 0 ≡ true
unfolding panel_shape_fits
panel_shape_depth v keeps =
    let k1 = both_true (every (record_keeps_rules v) 0 (records v)) _ keeps in
    let k2 = both_true (every (is_one_part v) 1 (records v - 1)) _ k1.1 in
    (both_true (every (part_keeps_rules v) 0 (parts v)) _ k2.1).1

module _ {v : List ℕ} (sh : PanelShaped v) where
  -- what stands in a record's list
  pub held_entry : (r j : ℕ) → r < records v → Holds v r j → j < parts v
  held_entry r j h o = omega (arith, sh.parts_run r h (holder_kind v r o.holder).0, o.to)

  pub held_record : (r j : ℕ) → r < records v → Holds v r j → part v j < records v
  held_record r j h o = sh.part_record j (held_entry r j h o)

  -- where a record stands
  pub part_not_root : (j : ℕ) → j < parts v → 1 ≤ part v j
  part_not_root j h = let w = sh.its_holder j h in omega (arith, sh.part_above w.0 j w.1 w.2)

  pub one_part : (i j : ℕ) → i < parts v → j < parts v → part v i ≡ part v j → i ≡ j
  unfolding is_part
  one_part i j hi hj e =
      let once = sh.is_part_once (part v j) (part_not_root j hj) (sh.part_record j hj) in
      times_one (is_part v (part v j)) 0 (parts v) i j (omega arith)
      (omega arith) (omega arith) (eq-eqb _ _ e) (omega arith) (omega arith) (eq-eqb (part v j) (part v j) refl)

  pub record_is_part : (r : ℕ) → 1 ≤ r → r < records v → (j : ℕ) × (j < parts v) × (part v j ≡ r)
  unfolding is_part
  record_is_part r low h =
      let w = times_found (is_part v r) 0 (parts v) (omega (arith, sh.is_part_once r low h)) in
      (w.0, omega (arith, w.2), eqb-true _ _ w.3)

-- a part is one level deeper
pub record_within_part : (v : List ℕ) (deep r j : ℕ) → record_within (suc deep) v r ≡ true → Holds v r j → record_within deep v (part v j) ≡ true
unfolding record_within
record_within_part v deep r j h o =
    every_true (λ i. record_within deep v (part v i)) (record_first v r) (record_count v r) (rw (o.holder, record_within) at h) j o.from o.to

-- ---- 21 to 24: an accepted panel
pub record PanelAccepted (v : List ℕ) : Type 0 where
  pub is_laid : PanelLaid v
  pub is_shaped : PanelShaped v
  pub root_depth : record_within panel_depth_most v 0 ≡ true
  pub integer_canonical : (r : ℕ) → r < records v → record_kind v r ≡ integer_record → canonical (record_text v r) ≡ true
  pub text_short : (r : ℕ) → r < records v → record_kind v r ≤ bytes_record → record_count v r ≤ text_most

module _ (v : List ℕ) (r : ℕ) (good : record_text_fits v r ≡ true) where
  good_of_kind : (kind : RecordKind) → record_kind_of (record_kind v r) ≡ kind → record_text_of_kind v r kind ≡ true
  unfolding record_text_fits
  good_of_kind kind e = rw e at good

  good_integer : record_kind v r ≡ integer_record → (short_text (record_count v r) ≡ true) × (canonical (record_text v r) ≡ true)
  unfolding record_text_of_kind record_kind_of
  good_integer e = both_true _ _ (good_of_kind Integer_record (rw e))

  good_short : record_kind v r ≤ bytes_record → record_count v r ≤ text_most
  unfolding record_text_of_kind record_kind_of short_text
  good_short h =
      ⊎_elim (λ e. leb-true _ _ (good_of_kind Bytes_record (rw e))) (λ l. leb-true _ _ (good_integer (omega arith)).0) (eq-or-lt_of_le h)

pub accepted_panel : (v : List ℕ) → panel_verdict v ≡ accepted → PanelAccepted v
unfolding panel_verdict panel_texts_fit
accepted_panel v h =
    let v21 = require_accepted (panel_length_fits v) panel_length_refusal _ h in
    let v22 = require_accepted (panel_layout_fits v) panel_layout_refusal _ v21.1 in
    let v23 = require_accepted (panel_shape_fits v) panel_shape_refusal _ v22.1 in
    let v24 = require_accepted (panel_texts_fit v) panel_text_refusal accepted v23.1 in
    let texts = every_below (record_text_fits v) (records v) v24.0 in
    record {
      is_laid = panel_laid v v21.0 v22.0;
      is_shaped = panel_shaped v v23.0;
      root_depth = panel_shape_depth v v23.0;
      integer_canonical = λ r l e. (good_integer v r (texts r l) e).1;
      text_short = λ r l. good_short v r (texts r l);
    }

-- ---- parts along the child list
module _ (f : ℕ → ℕ → Bool) (s v : List ℕ) where
  pub parts_fit_more : (j n e step : ℕ) → parts_fit f s v j (n + 1) e step ≡ both (f (part v j) (entry s e)) (parts_fit f s v (j + 1) n (e + step) step)
  unfolding parts_fit
  parts_fit_more j n e step = rw (add-one n)

  pub parts_fit_some : (j n e step : ℕ) → (n ≡ 0 → ⊥)
      → parts_fit f s v j n e step ≡ both (f (part v j) (entry s e)) (parts_fit f s v (j + 1) (n - 1) (e + step) step)
  parts_fit_some j n e step h =
      let q : n ≡ n - 1 + 1 = omega arith in
      ap (λ (k : ℕ). parts_fit f s v j k e step) q ∙ parts_fit_more j (n - 1) e step

-- fitted by two functions that agree at each part
pub parts_fit_same : (f g : ℕ → ℕ → Bool) (s v : List ℕ) (j n e step : ℕ) → ((i u : ℕ) → j ≤ i → i < j + n → f (part v i) u ≡ g (part v i) u)
    → parts_fit f s v j n e step ≡ parts_fit g s v j n e step
unfolding parts_fit
parts_fit_same f g s v j zero e step h = refl
parts_fit_same f g s v j (suc n) e step h =
    ap₂ both (h j (entry s e) (omega arith) (omega arith)) (parts_fit_same f g s v (j + 1) n (e + step) step (λ i u low high. h i u (omega arith) (omega arith)))

-- ---- a record is fitted one level at a time
module _ (s v : List ℕ) (r t : ℕ) (f g : ℕ → ℕ → Bool) (agree : (j u : ℕ) → Holds v r j → f (part v j) u ≡ g (part v j) u) where
  parts_held : Holder v r → (e step : ℕ) → parts_fit f s v (record_first v r) (record_count v r) e step ≡ parts_fit g s v (record_first v r) (record_count v r) e step
  parts_held has e step =
      parts_fit_same f g s v (record_first v r) (record_count v r) e step (λ i u low high. agree i u (record { holder = has; from = low; to = high }))

  pub record_fits_same : (kind : RecordKind) → record_kind_of (record_kind v r) ≡ kind → record_fits f s v r t kind ≡ record_fits g s v r t kind
  unfolding record_fits has_parts
  record_fits_same Integer_record e = refl
  record_fits_same Bytes_record e = refl
  record_fits_same List_record e = ap (both (eqb (type_kind s t) list_type)) (parts_held (ap has_parts e) _ _)
  record_fits_same Pair_record e = ap (λ (b : Bool). both (eqb (type_kind s t) pair_type) (both (eqb (type_count s t) (record_count v r)) b)) (parts_held (ap has_parts e) _ _)
  record_fits_same Tuple_record e = ap (λ (b : Bool). both (eqb (type_kind s t) tuple_type) (both (eqb (type_count s t) (record_count v r)) b)) (parts_held (ap has_parts e) _ _)
  record_fits_same Constructor_record e = ap (both (takes_arguments s t (record_a v r) (record_count v r))) (parts_held (ap has_parts e) _ _)
  record_fits_same Unknown_record e = refl

module _ (s v : List ℕ) (sh : PanelShaped v) where
  -- depths that reach past the last record are the same
  pub has_type_to_enough : (k l r t : ℕ) → r < records v → records v ≤ k + r → records v ≤ l + r → has_type_to k s v r t ≡ has_type_to l s v r t
  unfolding has_type_to
  has_type_to_enough zero l r t h a b = absurd (omega arith)
  has_type_to_enough (suc k) zero r t h a b = absurd (omega arith)
  has_type_to_enough (suc k) (suc l) r t h a b =
      record_fits_same s v r t (has_type_to k s v) (has_type_to l s v)
      (λ j u o.
      let above = sh.part_above r j h o in
      has_type_to_enough k l (part v j) u (held_record sh r j h o) (omega arith) (omega arith))
      (record_kind_of (record_kind v r)) refl

  module _ (few : PanelLaid v) (r t : ℕ) (h : r < records v) where
    pub has_type_deep : (deep : ℕ) → records v ≤ deep + r → has_type_to deep s v r t ≡ has_type_to records_most s v r t
    has_type_deep deep a = has_type_to_enough deep records_most r t h a (omega (arith, few.records_most_holds))

    pub has_type_open : has_type_to records_most s v r t ≡ record_fits (has_type_to records_most s v) s v r t (record_kind_of (record_kind v r))
    unfolding has_type_to
    has_type_open =
        record_fits_same s v r t (has_type_to (records_most - 1) s v) (has_type_to records_most s v)
        (λ j u o.
        let above = sh.part_above r j h o in
        has_type_to_enough (records_most - 1) records_most (part v j) u (held_record sh r j h o) (omega (arith, few.records_most_holds)) (omega (arith, few.records_most_holds)))
        (record_kind_of (record_kind v r)) refl
