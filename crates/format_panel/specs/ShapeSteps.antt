-- The steps of the pass over a panel's records and parts from what the code has read: one law for each way out of a function.
-- Rests on Shape, and on the tables of kinds.
use Rattle.std.specs.Prelude.{◌≡◌, ◌⊎◌, Bool, true, false, List, eqb, ltb, get_or, set}
use Rattle.std.proofs.Common.{sym, ap, ap₂, ◌∙◌, inl, inr}
use Rattle.std.proofs.Math.Logic.{⊎_elim}
use Prim.Native.Nat.{ℕ, suc, ◌+◌, ◌-◌, ◌*◌, ◌≤◌, ◌<◌}
use native.Mathlib.Omega.{arith}
use borrow.Author.Tests.{eq-eqb, ne_eqb, lt-ltb, le-ltb}
use Rattle.base_words.specs.Words.{word_at, both, pick}
use Rattle.base_words.specs.WordsLaws.{both_true, both_assoc}
use Rattle.spec_rules.specs.Limits.{part_size, panel_depth_most}
use Rattle.spec_rules.specs.Kinds.{bytes_record, list_record, pair_record, tuple_record, constructor_record}
use Rattle.spec_rules.specs.SheetFile.{run_in}
use Rattle.spec_rules.specs.PanelFile.{records, parts, panel_pool_size, record_kind, record_zero, part, RecordKind, Integer_record, Bytes_record, List_record, Pair_record, Tuple_record, Constructor_record, Unknown_record, record_kind_of, has_parts, record_fields_fit, is_higher}
use Rattle.spec_accepted.specs.KindsLaws.{record_unknown}
use Rattle.spec_accepted.specs.PanelFacts.{kind_holder}
use Rattle.format_panel.specs.declared.PanelMap.{PanelMap}
use Rattle.format_panel.specs.declared.records.Record.{Record}
use Rattle.format_panel.specs.Opened.{Opened, record_of}
use Rattle.format_panel.specs.CountingLaws.{same_or_not}
use Rattle.format_panel.specs.Shape.{Seen, seen, met, fields_fit, broken, enters_first, enter_part, enter_parts, record_met, enter_record, enter_records}
use Rattle.format_panel.specs.ShapeLaws.{listed, parts_on, parts_stop, records_on, records_stop, list_inside, fit_kind}

-- ---- the fields of a record, by its kind byte
pub past_kinds : (k : ℕ) → list_record ≤ k → ((k ≡ list_record) ⊎ (k ≡ tuple_record) → ⊥) → (k ≡ pair_record → ⊥) → (k ≡ constructor_record → ⊥) → constructor_record < k
past_kinds k low h three five =
    let two : k ≡ list_record → ⊥ = λ e. h (inl e) in
    let four : k ≡ tuple_record → ⊥ = λ e. h (inr e) in
    omega arith

-- x is record r as it was read, in a panel of so many parts and so many bytes of text
module _ (v : List ℕ) (r : ℕ) (x : Record) (read : x ≡ record_of v r) where
  pub zero_used : (x.zero ≡ 0 → ⊥) → fields_fit v r ≡ false
  unfolding fields_fit
  zero_used h = rw (ne_eqb _ _ (rw read at h))

  module _ (zero : x.zero ≡ 0) where
    of_kind : (kind : RecordKind) → record_kind_of (record_kind v r) ≡ kind → fields_fit v r ≡ record_fields_fit v r kind
    unfolding fields_fit
    of_kind kind k = rw (eq-eqb (record_zero v r) 0 (rw read at zero), k)

    -- an integer or a byte string
    pub text_fields : (pool : ℕ) → pool ≡ panel_pool_size v → x.kind < list_record → fields_fit v r ≡ both (eqb x.a 0) (run_in x.first x.count pool)
    unfolding record_kind_of record_fields_fit
    text_fields pool size h =
        let low : record_kind v r < list_record = rw read at h in
        rw (read, size)
        (⊎_elim (λ e. of_kind Integer_record (rw e)) (λ d. let e : record_kind v r ≡ bytes_record = omega arith in of_kind Bytes_record (rw e))
        (same_or_not (record_kind v r) 0))

    module _ (held : ℕ) (are : held ≡ parts v) where
      -- a list or a tuple
      pub list_fields : (x.kind ≡ list_record) ⊎ (x.kind ≡ tuple_record) → fields_fit v r ≡ both (eqb x.a 0) (run_in x.first x.count held)
      unfolding record_kind_of record_fields_fit
      list_fields h = rw (read, are) (⊎_elim (λ e. of_kind List_record (rw e)) (λ e. of_kind Tuple_record (rw e)) (rw read at h))

      pub pair_fields : x.kind ≡ pair_record → fields_fit v r ≡ both (eqb x.a 0) (both (eqb x.count 2) (run_in x.first x.count held))
      unfolding record_kind_of record_fields_fit
      pair_fields h = let e : record_kind v r ≡ pair_record = rw read at h in rw (read, are) (of_kind Pair_record (rw e))

      pub constructor_fields : x.kind ≡ constructor_record → fields_fit v r ≡ run_in x.first x.count held
      unfolding record_kind_of record_fields_fit
      constructor_fields h = let e : record_kind v r ≡ constructor_record = rw read at h in rw (read, are) (of_kind Constructor_record (rw e))

    pub no_kind : constructor_record < x.kind → fields_fit v r ≡ false
    unfolding record_fields_fit
    no_kind h = of_kind Unknown_record (record_unknown (record_kind v r) (rw read at h))

-- ---- an entry
module _ (v : List ℕ) (m : PanelMap) (o : Opened v m) where
  pub part_read : (j p : ℕ) → p ≡ word_at v (m.parts.start + part_size * j) → p ≡ part v j
  unfolding part
  part_read j p e = e ∙ rw o.parts_from

-- entry j is record p, of so many records
pub entry : (v : List ℕ) (s : Seen) (r j p count : ℕ) → p ≡ part v j → count ≡ records v
    → enter_part v s r j
    ≡ pick (both (ltb r p) (both (ltb p count) (both (eqb (get_or s.depths p 0) 0) (ltb (get_or s.depths r 0) panel_depth_most))))
    (seen (set s.depths p (get_or s.depths r 0 + 1)) s.sound)
    (broken s)
unfolding enters_first enter_part is_higher
entry v s r j p count is are =
    rw (is, are, enter_part)
    (ap (λ (b : Bool). pick b (seen (set s.depths (part v j) (get_or s.depths r 0 + 1)) s.sound) (broken s))
    (both_assoc (ltb r (part v j)) (ltb (part v j) (records v)) (both (eqb (get_or s.depths (part v j) 0) 0) (ltb (get_or s.depths r 0) panel_depth_most))))

-- ---- a record
module _ (v : List ℕ) (s : Seen) (r : ℕ) where
  pub met_fit : {b : Bool} → 0 < get_or s.depths r 0 → b ≡ fields_fit v r → b ≡ record_met v s.depths r
  unfolding record_met
  met_fit some e = rw (lt-ltb 0 (get_or s.depths r 0) some) e

  pub met_not : get_or s.depths r 0 ≤ 0 → ltb 0 (get_or s.depths r 0) ≡ record_met v s.depths r
  unfolding record_met
  met_not none = rw (le-ltb 0 (get_or s.depths r 0) none)

  pub record_broke : record_met v s.depths r ≡ false → broken s ≡ enter_record v s r
  unfolding enter_record
  record_broke h = rw (enter_record, h)

  text_unlisted : record_kind v r < list_record → listed v r ≡ false
  unfolding has_parts record_kind_of
  text_unlisted h =
      ⊎_elim (λ e. rw e) (λ n. let e : record_kind v r ≡ bytes_record = omega arith in rw e) (same_or_not (record_kind v r) 0)

  -- x is record r as it was read
  module _ (x : Record) (read : x ≡ record_of v r) (is : record_met v s.depths r ≡ true) where
    fit : fields_fit v r ≡ true
    unfolding record_met
    fit = (both_true (ltb 0 (get_or s.depths r 0)) (fields_fit v r) is).1

    kind_read : x.kind ≡ record_kind v r
    kind_read = ap (λ (y : Record). y.kind) read

    pub record_text : x.kind < list_record → s ≡ enter_record v s r
    unfolding enter_record
    record_text h = rw (enter_record, is, text_unlisted (omega (arith, kind_read)))

    holds_parts : list_record ≤ x.kind → listed v r ≡ true
    holds_parts h = kind_holder v r (omega (arith, kind_read)) (fit_kind v r fit)

    pub parts_inside : list_record ≤ x.kind → x.first + x.count ≤ parts v
    parts_inside h = rw read (list_inside v r fit (holds_parts h))

    pub record_parts : (y : Seen) → list_record ≤ x.kind → y ≡ enter_parts v s r x.first x.count → y ≡ enter_record v s r
    unfolding enter_record
    record_parts y h e = rw (enter_record, is, holds_parts h) (rw read at e)

-- ---- loops: what is left from here, as long as nothing broke, is the whole
module _ (v : List ℕ) (s : Seen) (r j n k : ℕ) where
  parts_left : k < n → enter_parts v s r (j + k) (n - k) ≡ enter_parts v s r (j + k) (suc (n - (k + 1)))
  parts_left h = let e : n - k ≡ suc (n - (k + 1)) = omega arith in rw e

  pub parts_end : n ≤ k → enter_parts v s r (j + k) (n - k) ≡ s
  unfolding enter_parts
  parts_end h = let e : n - k ≡ 0 = omega arith in rw e

  -- one entry was entered, with the answer b
  module _ (l : List ℕ) (b : Bool) (h : k < n) (e : seen l b ≡ enter_part v s r (j + k)) where
    pub parts_go : b ≡ true → enter_parts v (met l) r (j + (k + 1)) (n - (k + 1)) ≡ enter_parts v s r (j + k) (n - k)
    parts_go sound =
        let f : j + (k + 1) ≡ j + k + 1 = omega arith in
        ap₂ (λ (y : Seen) (i : ℕ). enter_parts v y r i (n - (k + 1))) (ap (seen l) (sym sound) ∙ e) f
        ∙ sym (parts_left h ∙ parts_on v s r (j + k) (n - (k + 1)) (ap (λ (y : Seen). y.sound) (sym e) ∙ sound))

    pub parts_broke : b ≡ false → seen l false ≡ enter_parts v s r (j + k) (n - k)
    parts_broke sound =
        ap (seen l) (sym sound) ∙ e ∙ sym (parts_left h ∙ parts_stop v s r (j + k) (n - (k + 1)) (ap (λ (y : Seen). y.sound) (sym e) ∙ sound))

module _ (v : List ℕ) (s : Seen) (r n : ℕ) where
  records_left : r < n → enter_records v s r (n - r) ≡ enter_records v s r (suc (n - (r + 1)))
  records_left h = let e : n - r ≡ suc (n - (r + 1)) = omega arith in rw e

  pub records_end : n ≤ r → enter_records v s r (n - r) ≡ s
  unfolding enter_records
  records_end h = let e : n - r ≡ 0 = omega arith in rw e

  -- one record was entered, with the answer b
  module _ (l : List ℕ) (b : Bool) (h : r < n) (e : seen l b ≡ enter_record v s r) where
    pub records_go : b ≡ true → enter_records v (met l) (r + 1) (n - (r + 1)) ≡ enter_records v s r (n - r)
    records_go sound =
        ap (λ (y : Seen). enter_records v y (r + 1) (n - (r + 1))) (ap (seen l) (sym sound) ∙ e)
        ∙ sym (records_left h ∙ records_on v s r (n - (r + 1)) (ap (λ (y : Seen). y.sound) (sym e) ∙ sound))

    pub records_broke : b ≡ false → seen l false ≡ enter_records v s r (n - r)
    records_broke sound =
        ap (seen l) (sym sound) ∙ e ∙ sym (records_left h ∙ records_stop v s r (n - (r + 1)) (ap (λ (y : Seen). y.sound) (sym e) ∙ sound))
