-- Fitting one level at a time: the definition of 25 by what is left below a record, one law for each way out of a function.
-- Rests on Fit, and on what the crate spec_accepted has of fitting a record.
use Rattle.std.proofs.Math.Path.{◌≡◌, refl, sym, ap}
use Rattle.std.proofs.Common.{◌∙◌, inl, inr, ⊎_elim, arith, eqb-true, leb-true, eq-eqb, le-leb}
use Rattle.std.specs.Prelude.{Bool, true, false, List, ℕ, ◌+◌, ◌-◌, ◌≤◌, ◌<◌, eqb, leb}
use Rattle.base_words.specs.Words.{both, pick}
use Rattle.base_words.specs.WordsLaws.{both_true, both_assoc}
use Rattle.spec_rules.specs.Limits.{records_most}
use Rattle.spec_rules.specs.Kinds.{list_type, pair_type, tuple_type, data_type}
use Rattle.spec_rules.specs.SheetFile.{subject, types, entries, entry, type_kind, type_first, type_count, constructor_first, constructor_count}
use Rattle.spec_rules.specs.Patterns.{constructor_of, takes_arguments}
use Rattle.spec_rules.specs.PanelFile.{records, parts, record_kind, record_a, record_first, record_count, part, RecordKind, Integer_record, Bytes_record, List_record, Pair_record, Tuple_record, Constructor_record, Unknown_record, record_kind_of, has_parts}
use Rattle.spec_rules.specs.Fitting.{parts_fit, record_fits, has_type_to, panel_fits}
use Rattle.spec_accepted.specs.PanelFacts.{Holds, Holder, held_entry, held_record, has_type_open, parts_fit_some}
use Rattle.format_sheet.specs.declared.SheetMap.{SheetMap}
use Rattle.format_sheet.specs.declared.records.TypeRecord.{TypeRecord}
use Rattle.format_sheet.specs.declared.records.Run.{Run as Fields}
use Rattle.format_sheet.specs.Records.{type_of}
use Rattle.format_sheet.specs.Records.{constructor_of as constructor_at}
use Rattle.format_panel.specs.declared.PanelMap.{PanelMap}
use Rattle.format_panel.specs.declared.records.Record.{Record}
use Rattle.fit.specs.declared.fitting.Below.{Below}
use Rattle.fit.specs.declared.fitting.Below.TheVariants.{Alone, Parts}
use Rattle.format_panel.specs.Opened.{record_of}
use Rattle.fit.specs.Fit.{fields_below, below_of_kind, below, fits_below, ReadyToFit, Typing, EachTyped, Run}

-- ---- a record fits exactly if what is left below it does
picked : (f : ℕ → ℕ → Bool) (s v : List ℕ) (j n e step : ℕ) (b : Bool)
    → both b (parts_fit f s v j n e step) ≡ fits_below f s v (pick b (Parts j n e step) (Alone false))
unfolding fits_below
picked f s v j n e step true = refl
picked f s v j n e step false = refl

below_of_kind_lem : (f : ℕ → ℕ → Bool) (s v : List ℕ) (r t : ℕ) (kind : RecordKind)
    → record_fits f s v r t kind ≡ fits_below f s v (below_of_kind s (record_of v r) (type_of s t) kind)
unfolding record_fits fits_below below_of_kind takes_arguments constructor_of
below_of_kind_lem f s v r t Integer_record = refl
below_of_kind_lem f s v r t Bytes_record = refl
below_of_kind_lem f s v r t List_record = picked f s v (record_first v r) (record_count v r) (type_first s t) 0 (eqb (type_kind s t) list_type)
below_of_kind_lem f s v r t Pair_record =
    sym (both_assoc (eqb (type_kind s t) pair_type) (eqb (type_count s t) (record_count v r)) _)
    ∙ picked f s v (record_first v r) (record_count v r) (type_first s t) 1 (both (eqb (type_kind s t) pair_type) (eqb (type_count s t) (record_count v r)))
below_of_kind_lem f s v r t Tuple_record =
    sym (both_assoc (eqb (type_kind s t) tuple_type) (eqb (type_count s t) (record_count v r)) _)
    ∙ picked f s v (record_first v r) (record_count v r) (type_first s t) 1 (both (eqb (type_kind s t) tuple_type) (eqb (type_count s t) (record_count v r)))
below_of_kind_lem f s v r t Constructor_record =
    picked f s v (record_first v r) (record_count v r) (constructor_first s (type_first s t + record_a v r)) 1
    (both (eqb (type_kind s t) data_type) (both (leb (record_a v r + 1) (type_count s t)) (eqb (constructor_count s (type_first s t + record_a v r)) (record_count v r))))
below_of_kind_lem f s v r t Unknown_record = refl

module _ (s : List ℕ) (sm : SheetMap) (v : List ℕ) (vm : PanelMap) (ready : ReadyToFit s sm v vm) where
  module _ (r t : ℕ) (known : r < records v) where
    pub fits_below_lem : has_type_to records_most s v r t ≡ fits_below (has_type_to records_most s v) s v (below s v r t)
    unfolding below
    fits_below_lem =
        has_type_open s v ready.is_shaped ready.is_open.laid r t known
        ∙ below_of_kind_lem (has_type_to records_most s v) s v r t (record_kind_of (record_kind v r))

    pub fits_alone : (b : Bool) → below s v r t ≡ Alone b → b ≡ has_type_to records_most s v r t
    unfolding fits_below
    fits_alone b e = sym (fits_below_lem ∙ ap (fits_below (has_type_to records_most s v) s v) e)

    pub fits_parts : (b : Bool) (j n e step : ℕ) → below s v r t ≡ Parts j n e step → b ≡ parts_fit (has_type_to records_most s v) s v j n e step
        → b ≡ has_type_to records_most s v r t
    unfolding fits_below
    fits_parts b j n e step x y = y ∙ sym (fits_below_lem ∙ ap (fits_below (has_type_to records_most s v) s v) x)

-- ---- what is left, from the record and the type as they were read
pub below_read : (s v : List ℕ) (r t : ℕ) (x : Record) (y : TypeRecord) → x ≡ record_of v r → y ≡ type_of s t
    → (kind : RecordKind) (b : Below) → record_kind_of x.kind ≡ kind → b ≡ below_of_kind s x y kind → b ≡ below s v r t
unfolding below
below_read s v r t x y ex ey kind b k e = e ∙ rw (← k, ex, ey)

-- ---- the parts that are left are in the record's list, and each has its type entry
module _ (s : List ℕ) (sm : SheetMap) (v : List ℕ) (vm : PanelMap) (ready : ReadyToFit s sm v vm) where
  pub typing : (t : ℕ) (y : TypeRecord) → t < types s → y ≡ type_of s t → Typing s sm y
  typing t y l e = record {
    sheet_laid = ready.sheet_laid;
    sheet_map = ready.sheet_map;
    own = rw e (ready.is_typed.type_constructors t l);
  }

  module _ (r t : ℕ) (known : r < records v) (l : t < types s) (j n e step : ℕ) where
    -- a run of as many type entries as the record has parts, or one entry for all
    run : (f g : ℕ) → Holder v r → EachTyped s f (record_count v r) g
        → Parts (record_first v r) (record_count v r) f g ≡ Parts j n e step → Run s v r j n e step
    run f g has types x =
        let first : record_first v r ≡ j = cc in
        let count : record_count v r ≡ n = cc in
        let entry : f ≡ e = cc in
        let steps : g ≡ step = cc in
        record {
          known = known;
          listed = λ k low high. record { holder = has; from = omega arith; to = omega arith };
          typed = ⊎_elim (λ w. inl (sym steps ∙ w.0, omega (arith, w.1))) (λ w. inr (sym steps ∙ w.0, omega (arith, w.1))) types;
        }

    -- nothing is left where the kinds or the counts differ
    picks : (b : Bool) (f g : ℕ) → Holder v r → (b ≡ true → EachTyped s f (record_count v r) g)
        → pick b (Parts (record_first v r) (record_count v r) f g) (Alone false) ≡ Parts j n e step → Run s v r j n e step
    picks true f g has types x = run f g has (types refl) x
    picks false f g has types x = let z : ◌≡◌ {A = ℕ} 0 1 = cc in absurd (omega arith)

    list_entry : eqb (type_kind s t) list_type ≡ true → EachTyped s (type_first s t) (record_count v r) 0
    list_entry h =
        let k = eqb-true (type_kind s t) list_type h in
        let ty = ready.is_typed in
        inl (refl, omega (arith, ty.list_one t l k, ty.type_entries t l (omega arith)))

    part_entries : (k : ℕ) → k ≤ tuple_type → both (eqb (type_kind s t) k) (eqb (type_count s t) (record_count v r)) ≡ true
        → EachTyped s (type_first s t) (record_count v r) 1
    part_entries k small h =
        let a = both_true (eqb (type_kind s t) k) _ h in
        let same = eqb-true (type_kind s t) k a.0 in
        let count = eqb-true (type_count s t) (record_count v r) a.1 in
        inr (refl, omega (arith, ready.is_typed.type_entries t l (omega arith)))

    field_entries : both (eqb (type_kind s t) data_type) (both (leb (record_a v r + 1) (type_count s t)) (eqb (constructor_count s (type_first s t + record_a v r)) (record_count v r))) ≡ true
        → EachTyped s (constructor_first s (type_first s t + record_a v r)) (record_count v r) 1
    field_entries h =
        let a = both_true (eqb (type_kind s t) data_type) _ h in
        let b = both_true (leb (record_a v r + 1) (type_count s t)) _ a.1 in
        let data' = eqb-true (type_kind s t) data_type a.0 in
        let small = leb-true (record_a v r + 1) (type_count s t) b.0 in
        let count = eqb-true (constructor_count s (type_first s t + record_a v r)) (record_count v r) b.1 in
        let inside = ready.is_typed.type_constructors t l data' in
        let fields = ready.is_typed.constructor_entries (type_first s t + record_a v r) (omega arith) in
        inr (refl, omega (arith, fields.inside))

    pub run_below : below s v r t ≡ Parts j n e step → Run s v r j n e step
    unfolding below below_of_kind has_parts
    run_below h = go (record_kind_of (record_kind v r)) refl h
      where
        go : (kind : RecordKind) → record_kind_of (record_kind v r) ≡ kind → below_of_kind s (record_of v r) (type_of s t) kind ≡ Parts j n e step → Run s v r j n e step
        go Integer_record k x = let z : ◌≡◌ {A = ℕ} 0 1 = cc in absurd (omega arith)
        go Bytes_record k x = let z : ◌≡◌ {A = ℕ} 0 1 = cc in absurd (omega arith)
        go List_record k x = picks (eqb (type_kind s t) list_type) (type_first s t) 0 (ap has_parts k) list_entry x
        go Pair_record k x = picks (both (eqb (type_kind s t) pair_type) (eqb (type_count s t) (record_count v r))) (type_first s t) 1 (ap has_parts k) (part_entries pair_type (omega arith)) x
        go Tuple_record k x = picks (both (eqb (type_kind s t) tuple_type) (eqb (type_count s t) (record_count v r))) (type_first s t) 1 (ap has_parts k) (part_entries tuple_type (omega arith)) x
        go Constructor_record k x =
            picks (both (eqb (type_kind s t) data_type) (both (leb (record_a v r + 1) (type_count s t)) (eqb (constructor_count s (type_first s t + record_a v r)) (record_count v r))))
            (constructor_first s (type_first s t + record_a v r)) 1 (ap has_parts k) field_entries x
        go Unknown_record k x = let z : ◌≡◌ {A = ℕ} 0 1 = cc in absurd (omega arith)

  -- ---- where a part is left
  module _ (owner j n e step : ℕ) (run : Run s v owner j n e step) where
    pub run_next : (n ≡ 0 → ⊥) → Run s v owner (j + 1) (n - 1) (e + step) step
    run_next some = record {
      known = run.known;
      listed = λ k low high. run.listed k (omega arith) (omega arith);
      typed = ⊎_elim (λ w. inl (w.0, omega (arith, w.0, w.1))) (λ w. inr (w.0, omega (arith, w.0, w.1))) run.typed;
    }

    -- what is known of the next part and its type
    module _ (some : n ≡ 0 → ⊥) where
      next_held : Holds v owner j
      next_held = run.listed j (omega arith) (omega arith)

      pub next_entry : j < parts v
      next_entry = held_entry ready.is_shaped owner j run.known next_held

      pub next_above : owner < part v j
      next_above = ready.is_shaped.part_above owner j run.known next_held

      pub next_record : part v j < records v
      next_record = held_record ready.is_shaped owner j run.known next_held

      pub next_type_entry : e < entries s
      next_type_entry = ⊎_elim (λ w. w.1) (λ w. omega (arith, w.1)) run.typed

      pub next_step : e + step ≤ entries s
      next_step = ⊎_elim (λ w. omega (arith, w.0, w.1)) (λ w. omega (arith, w.0, w.1)) run.typed

      pub next_type : entry s e < types s
      next_type = ready.is_typed.entry_type e next_type_entry

  pub parts_done : (j n e step : ℕ) → n ≡ 0 → true ≡ parts_fit (has_type_to records_most s v) s v j n e step
  unfolding parts_fit
  parts_done j n e step z = rw z

  module _ (j n e step q u : ℕ) (some : n ≡ 0 → ⊥) (part_is : q ≡ part v j) (type_is : u ≡ entry s e) (b : Bool)
      (fits : b ≡ has_type_to records_most s v q u) where
    first_fits : parts_fit (has_type_to records_most s v) s v j n e step ≡ both b (parts_fit (has_type_to records_most s v) s v (j + 1) (n - 1) (e + step) step)
    first_fits = parts_fit_some (has_type_to records_most s v) s v j n e step some ∙ rw (← part_is, ← type_is, ← fits)

    pub part_misfits : b ≡ false → false ≡ parts_fit (has_type_to records_most s v) s v j n e step
    part_misfits h = sym (first_fits ∙ rw h)

    pub part_fits : (rest : Bool) → b ≡ true → rest ≡ parts_fit (has_type_to records_most s v) s v (j + 1) (n - 1) (e + step) step
        → rest ≡ parts_fit (has_type_to records_most s v) s v j n e step
    part_fits rest h e' = e' ∙ sym (first_fits ∙ rw h)

-- ---- after k of the parts
module _ (s : List ℕ) (sm : SheetMap) (v : List ℕ) (vm : PanelMap) (ready : ReadyToFit s sm v vm) (first count step : ℕ) where
  abbrev fits_from : ℕ → ℕ → Bool
  fits_from k e = parts_fit (has_type_to records_most s v) s v (first + k) (count - k) e step

  pub parts_start : (owner e : ℕ) → Run s v owner first count e step
      → Run s v owner (first + 0) (count - 0) e step × (fits_from 0 e ≡ parts_fit (has_type_to records_most s v) s v first count e step)
  parts_start owner e run = let a : first + 0 ≡ first = omega arith in let b : count - 0 ≡ count = omega arith in rw (a, b) (run, refl)

  module _ (owner e k : ℕ) (left : k < count) (run : Run s v owner (first + k) (count - k) e step) where
    some_left : count - k ≡ 0 → ⊥
    some_left z = omega arith

    -- what is known of the part at hand
    pub part_entry : first + k < parts v
    part_entry = next_entry s sm v vm ready owner (first + k) (count - k) e step run some_left

    pub part_type_entry : e < entries s
    part_type_entry = next_type_entry s sm v vm ready owner (first + k) (count - k) e step run some_left

    pub part_above : owner < part v (first + k)
    part_above = next_above s sm v vm ready owner (first + k) (count - k) e step run some_left

    pub part_record : part v (first + k) < records v
    part_record = next_record s sm v vm ready owner (first + k) (count - k) e step run some_left

    pub part_type : entry s e < types s
    part_type = next_type s sm v vm ready owner (first + k) (count - k) e step run some_left

    pub part_step : e + step ≤ entries s
    part_step = next_step s sm v vm ready owner (first + k) (count - k) e step run some_left

    module _ (q u : ℕ) (part_is : q ≡ part v (first + k)) (type_is : u ≡ entry s e) (b : Bool) (fits : b ≡ has_type_to records_most s v q u) where
      pub parts_stop : b ≡ false → false ≡ fits_from k e
      parts_stop h = part_misfits s sm v vm ready (first + k) (count - k) e step q u some_left part_is type_is b fits h

      pub parts_on : b ≡ true → Run s v owner (first + (k + 1)) (count - (k + 1)) (e + step) step × (fits_from (k + 1) (e + step) ≡ fits_from k e)
      parts_on h =
          let a : first + (k + 1) ≡ first + k + 1 = omega arith in
          let c : count - (k + 1) ≡ count - k - 1 = omega arith in
          rw (a, c) (
            run_next s sm v vm ready owner (first + k) (count - k) e step run some_left,
            part_fits s sm v vm ready (first + k) (count - k) e step q u some_left part_is type_is b fits _ h refl,
          )

  pub parts_end : (e k : ℕ) → count ≤ k → true ≡ fits_from k e
  parts_end e k h = parts_done s sm v vm ready (first + k) (count - k) e step (omega arith)

-- ---- a constructor that has as many parts as fields
pub fields_left : (s : List ℕ) (x : Record) (y : TypeRecord) (c : Fields) → y.kind ≡ data_type → x.a < y.count → c ≡ constructor_at s (y.first + x.a)
    → c.count ≡ x.count → Parts x.first x.count c.first 1 ≡ fields_below s x y
fields_left s x y c kind small read count =
    rw (eq-eqb _ _ kind, le-leb (x.a + 1) y.count (omega arith), eq-eqb _ _ (ap (λ (z : Fields). z.count) (sym read) ∙ count), read)

-- ---- the root and the subject's type
pub subject_read : (s : List ℕ) (sm : SheetMap) (v : List ℕ) (vm : PanelMap) → ReadyToFit s sm v vm → sm.subject ≡ subject s
subject_read s sm v vm ready = ap (λ (m : SheetMap). m.subject) ready.sheet_map

pub root_fits : (s : List ℕ) (sm : SheetMap) (v : List ℕ) (vm : PanelMap) → ReadyToFit s sm v vm → (b : Bool) → b ≡ has_type_to records_most s v 0 sm.subject → b ≡ panel_fits s v
unfolding panel_fits
root_fits s sm v vm ready b e = e ∙ ap (has_type_to records_most s v 0) (subject_read s sm v vm ready)
