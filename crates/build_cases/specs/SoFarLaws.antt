-- The laws of the cases met so far: they are read back from their records, so that the search finds a test exactly where it is met;
-- and one more case, or none, is what rule 4's meeting makes of them. Rests on the laws of fields, of stores and of standing records.
use Rattle.std.specs.Prelude.{◌≡◌, refl, Bool, true, false, ℕ, suc, ◌+◌, ◌-◌, ◌*◌, ◌≤◌, ◌<◌, eqb, ltb, length}
use Rattle.std.proofs.Common.{sym, ap, ap₂, ◌∙◌, arith, eqb-true, lt-ltb, le-ltb, length-append, take_all}
use mathlib.Core.List.{List, [], ◌∷◌, ◌++◌, append-nil, append_assoc}
use Rattle.std.proofs.lemmas.Bool.{eqb-false}
use Rattle.base_words.specs.Words.{either, pick}
use Rattle.base_words.specs.Stored.{stored}
use Rattle.base_words.specs.StoredLaws.{length_stored, stored_append, stored_again}
use Rattle.spec_rules.specs.Limits.{case_size}
use Rattle.spec_rules.specs.Splitting.{Test, Met, same_test, is_met, meet}
use Rattle.spec_rules.specs.SplittingLaws.{All}
use Rattle.spec_rules.specs.TreeFile.{case_bytes}
use Rattle.spec_accepted.specs.SheetFacts.{Laid}
use Rattle.spec_file.specs.Writable.{test_kind}
use Rattle.spec_file.specs.RecordsLaws.{test_number, test_length, case_fields, case_bytes_fields}
use Rattle.spec_file.specs.LengthLaws.{length_case_bytes}
use Rattle.spec_file.specs.StandingLaws.{Stands, stands_left, stands_right}
use Rattle.build_arena.specs.Arena.{cases_start, cases_most, arena_end, case_kind, case_number, case_length}
use Rattle.format_records.specs.declared.reading.Test as tests
use Rattle.format_records.specs.Records.{kind_of, number_of, length_of, case_record}
use Rattle.format_records.specs.RecordsLaws.{CaseIs, case_is}
use Rattle.build_arena.specs.WritingLaws.{stands_stored}
use Rattle.build_cases.specs.Passes.{up_to, case_records}
use Rattle.build_cases.specs.PassesLaws.{meet_full}
use Rattle.build_cases.specs.Fields.{test_in, start_in, met_in, Fit, has_test, first_where, Readable}
use Rattle.build_cases.specs.FieldsLaws.{kind_back, number_back, length_back}
use Rattle.build_cases.specs.SoFar.{InSheet, SoFar, Begun, meet_one, Meets}

-- ---- records of cases
pub length_case_records : (ms : List Met) → length (case_records ms) ≡ case_size * length ms
unfolding case_records
length_case_records [] = refl
length_case_records (m ∷ ms) =
    omega (arith, length-append (case_bytes m.test m.start 0) (case_records ms), length_case_bytes m.test m.start 0, length_case_records ms)

pub case_records_append : (ms ns : List Met) → case_records (ms ++ ns) ≡ case_records ms ++ case_records ns
unfolding case_records
case_records_append [] ns = refl
case_records_append (m ∷ ms) ns = rw (case_records_append ms ns) (sym (append_assoc (case_bytes m.test m.start 0) (case_records ms) (case_records ns)))

pub all_append : (s : List ℕ) (ms ns : List Met) → All (InSheet s) ms → All (InSheet s) ns → All (InSheet s) (ms ++ ns)
all_append s [] ns a b = b
all_append s (m ∷ ms) ns a b = (a.0, all_append s ms ns a.1 b)

-- a case by its fields is in the sheet, and its record has these fields
module _ (s : List ℕ) (laid : Laid s) (kind number len : ℕ) (fit : Fit s kind number len) where
  kinds : test_kind (test_in s kind number len) ≡ kind
  kinds = kind_back s number len kind fit.known

  numbers : test_number (start_in kind number) (test_in s kind number len) ≡ number
  numbers = number_back s number len kind fit.known

  lengths : test_length (test_in s kind number len) ≡ len
  lengths = length_back s number len laid kind fit

  in_sheet : InSheet s (met_in s kind number len)
  unfolding met_in
  in_sheet = record { fit = rw (kinds, numbers, lengths) fit; meant = rw (kinds, numbers, lengths) }

  record_fields : case_records (met_in s kind number len ∷ []) ≡ case_fields kind number len 0
  unfolding case_records met_in
  record_fields = append-nil (case_bytes (test_in s kind number len) (start_in kind number) 0) ∙ case_bytes_fields (test_in s kind number len) (start_in kind number) 0 ∙ rw (kinds, numbers, lengths)

-- ---- read back
abbrev Recorded : List ℕ → ℕ → List Met → Type 0
Recorded w i [] = Unit {0}
Recorded w i (m ∷ ms) = CaseIs w (cases_start + case_size * i) m.test m.start 0 × Recorded w (i + 1) ms

recorded : (w : List ℕ) (i : ℕ) (ms : List Met) → Stands w (cases_start + case_size * i) (case_records ms) → Recorded w i ms
unfolding case_records
recorded w i [] st = tt
recorded w i (m ∷ ms) st = (
  case_is w (cases_start + case_size * i) m.test m.start 0 (stands_left (case_bytes m.test m.start 0) (case_records ms) st),
  recorded w (i + 1) ms
      (stands_right (case_bytes m.test m.start 0) (case_records ms) (cases_start + case_size * (i + 1)) (omega (arith, length_case_bytes m.test m.start 0)) st),
)

-- a case's fields are those of its record
case_fit : (s w : List ℕ) (i : ℕ) (m : Met) → InSheet s m → CaseIs w (cases_start + case_size * i) m.test m.start 0 → Fit s (case_kind w i) (case_number w i) (case_length w i)
case_fit s w i m a c = rw (c.kind_is, c.number_is, c.length_is) a.fit

case_meant : (s w : List ℕ) (i : ℕ) (m : Met) → InSheet s m → CaseIs w (cases_start + case_size * i) m.test m.start 0 → test_in s (case_kind w i) (case_number w i) (case_length w i) ≡ m.test
case_meant s w i m a c = rw (c.kind_is, c.number_is, c.length_is) a.meant

records_fit : (s w : List ℕ) (i : ℕ) (ms : List Met) → All (InSheet s) ms → Recorded w i ms → (j : ℕ) → i ≤ j → j < i + length ms → Fit s (case_kind w j) (case_number w j) (case_length w j)
records_fit s w i [] a r j low high = absurd (omega arith)
records_fit s w i (m ∷ ms) a r j low high = go (eqb i j) refl (records_fit s w (i + 1) ms a.1 r.1 j)
  where
    go : (b : Bool) → eqb i j ≡ b → (i + 1 ≤ j → j < i + 1 + length ms → Fit s (case_kind w j) (case_number w j) (case_length w j)) → Fit s (case_kind w j) (case_number w j) (case_length w j)
    go true e ih = rw (← eqb-true i j e) (case_fit s w i m a.0 r.0)
    go false e ih = let n = eqb-false i j e in ih (past n) (omega arith)
      where
        past : (i ≡ j → ⊥) → i + 1 ≤ j
        past n = omega arith

-- the search finds a test exactly where it is met
found_met : (s w : List ℕ) (kind number len i : ℕ) (ms : List Met) → All (InSheet s) ms → Recorded w i ms
    → is_met (test_in s kind number len) ms ≡ ltb (first_where (has_test s w kind number len) i (length ms)) (i + length ms)
unfolding is_met first_where has_test
found_met s w kind number len i [] a r = sym (le-ltb i (i + 0) (omega arith))
found_met s w kind number len i (m ∷ ms) a r = go (same_test (test_in s kind number len) m.test) refl (found_met s w kind number len (i + 1) ms a.1 r.1)
  where
    same : has_test s w kind number len i ≡ same_test (test_in s kind number len) m.test
    same = ap (same_test (test_in s kind number len)) (case_meant s w i m a.0 r.0)

    rest : ℕ
    rest = first_where (has_test s w kind number len) (i + 1) (length ms)

    go : (b : Bool) → same_test (test_in s kind number len) m.test ≡ b → is_met (test_in s kind number len) ms ≡ ltb rest (i + 1 + length ms)
        → either (same_test (test_in s kind number len) m.test) (is_met (test_in s kind number len) ms) ≡ ltb (pick (has_test s w kind number len i) i rest) (i + suc (length ms))
    go true e ih = rw (same ∙ e, e) (sym (lt-ltb i (i + suc (length ms)) (omega arith)))
    go false e ih = let f : i + suc (length ms) ≡ i + 1 + length ms = omega arith in rw (same ∙ e, e, f) ih

-- ---- the cases met so far
module _ {s w₀ : List ℕ} {from : ℕ} {ms : List Met} {to : ℕ} {w : List ℕ} (x : SoFar s w₀ from ms to w) where
  same_length : length w ≡ length w₀
  same_length = ap length x.written ∙ length_stored w₀ (cases_start + case_size * from) (case_records ms)

  stands : Stands w (cases_start + case_size * from) (case_records ms)
  stands =
      rw x.written
      (stands_stored w₀ (cases_start + case_size * from) (case_records ms) (omega (arith, length_case_records ms, x.number, x.most, x.room)))

  -- written once more they are the same
  pub so_far_again : SoFar s w from ms to w
  so_far_again =
      record {
        number = x.number;
        most = x.most;
        room = omega (arith, same_length, x.room);
        each = x.each;
        written =
            x.written
            ∙ sym (ap (λ (v : List ℕ). stored v (cases_start + case_size * from) (case_records ms)) x.written
            ∙ stored_again w₀ (cases_start + case_size * from) (case_records ms) (case_records ms) refl);
      }

  pub so_far_begun : Begun s w from to
  so_far_begun = record { mets = ms; so_far = so_far_again }

  pub so_far_met : (kind number len : ℕ) → is_met (test_in s kind number len) ms ≡ ltb (first_where (has_test s w kind number len) from (to - from)) to
  so_far_met kind number len =
      let e : to - from ≡ length ms = omega (arith, x.number) in
      found_met s w kind number len from ms x.each (recorded w from ms stands)
      ∙ ap₂ (λ (n m : ℕ). ltb (first_where (has_test s w kind number len) from n) m) (sym e) (sym x.number)

  -- there is room for them
  so_far_fits : up_to from ms ≡ ms
  so_far_fits = take_all (cases_most - from) ms (omega (arith, x.number, x.most))

module _ {s w : List ℕ} {from to : ℕ} (b : Begun s w from to) where
  pub begun_rises : from ≤ to
  begun_rises = omega (arith, b.so_far.number)

  pub begun_most : to ≤ cases_most
  begun_most = b.so_far.most

  pub begun_room : arena_end ≤ length w
  begun_room = b.so_far.room

  pub begun_readable : Readable s w from to
  begun_readable =
      record {
        fields =
            λ i low high.
            records_fit s w from b.mets b.so_far.each (recorded w from b.mets (stands b.so_far)) i low (omega (arith, b.so_far.number));
      }

-- ---- what calls make of them
pub meets_begun : {s w : List ℕ} {from to : ℕ} {f : List Met → List Met} {next : ℕ} {w' : List ℕ} → Begun s w from to → Meets s w from to f next w' → Begun s w' from next
meets_begun {w} b m = so_far_begun (m.after w b.mets b.so_far)

pub meets_length : {s w : List ℕ} {from to : ℕ} {f : List Met → List Met} {next : ℕ} {w' : List ℕ} → Begun s w from to → Meets s w from to f next w' → length w' ≡ length w
meets_length {w} b m = same_length (m.after w b.mets b.so_far)

-- none is met
pub meets_none : {s w : List ℕ} {from to : ℕ} (f : List Met → List Met) → ((ms : List Met) → f ms ≡ ms) → Meets s w from to (λ ms. up_to from (f ms)) to w
meets_none {s} {w} {from} {to} f e =
    record {
      after =
          λ w₀ ms x.
          let y : up_to from (f ms) ≡ ms = ap (up_to from) (e ms) ∙ so_far_fits x in
          rw y x;
    }

pub meets_as : {s w : List ℕ} {from to : ℕ} (f g : List Met → List Met) {next : ℕ} {w' : List ℕ} → ((ms : List Met) → f ms ≡ g ms) → Meets s w from to f next w' → Meets s w from to g next w'
meets_as f g e m = record { after = λ w₀ ms x. rw (← e ms) (m.after w₀ ms x) }

pub meets_then : {s w : List ℕ} {from to : ℕ} (f g : List Met → List Met) {mid : ℕ} {w₁ : List ℕ} {next : ℕ} {w' : List ℕ}
    → Meets s w from to f mid w₁ → Meets s w₁ from mid g next w' → Meets s w from to (λ ms. g (f ms)) next w'
meets_then f g a b = record { after = λ w₀ ms x. b.after w₀ (f ms) (a.after w₀ ms x) }

-- ---- one test met
met_already : (start : ℕ) (t : Test) (ms : List Met) → is_met t ms ≡ true → meet start ms (t ∷ []) ≡ ms
unfolding meet
met_already start t ms e = rw (e, meet)

met_new : (start : ℕ) (t : Test) (ms : List Met) → is_met t ms ≡ false → meet start ms (t ∷ []) ≡ ms ++ record { test = t; start = start } ∷ []
unfolding meet
met_new start t ms e = rw (e, meet)

module _ {s w : List ℕ} {from to : ℕ} (test : tests.Test) where
  pub meets_full : to ≡ cases_most → Meets s w from to (meet_one s from test) to w
  meets_full e =
      record {
        after =
            λ w₀ ms x.
            rw (meet_full (cases_most - from) (start_in (kind_of test) (number_of test)) ms (test_in s (kind_of test) (number_of test) (length_of test) ∷ []) (omega (arith, x.number))) x;
      }

  module _ (at : ℕ) (is : at ≡ first_where (has_test s w (kind_of test) (number_of test) (length_of test)) from (to - from)) where
    pub meets_found : at < to → Meets s w from to (meet_one s from test) to w
    meets_found h =
        record {
          after =
              λ w₀ ms x.
              let y = so_far_met x (kind_of test) (number_of test) (length_of test) ∙ ap (λ (i : ℕ). ltb i to) (sym is) ∙ lt-ltb at to h in
              let z : meet_one s from test ms ≡ ms =
              ap (up_to from) (met_already (start_in (kind_of test) (number_of test)) (test_in s (kind_of test) (number_of test) (length_of test)) ms y) ∙ so_far_fits x in
              rw z x;
        }

    pub meets_new : Laid s → Fit s (kind_of test) (number_of test) (length_of test) → (at < to → ⊥) → to < cases_most → (w' : List ℕ)
        → w' ≡ stored w (cases_start + case_size * to) (case_record (record { test = test; child = 0 })) → Meets s w from to (meet_one s from test) (to + 1) w'
    unfolding met_in case_record
    meets_new laid fit h most w' e = record { after = grown }
      where
        new : Met
        new = met_in s (kind_of test) (number_of test) (length_of test)

        grown : (w₀ : List ℕ) (ms : List Met) → SoFar s w₀ from ms to w → SoFar s w₀ from (meet_one s from test ms) (to + 1) w'
        grown w₀ ms x =
            let y = so_far_met x (kind_of test) (number_of test) (length_of test) ∙ ap (λ (i : ℕ). ltb i to) (sym is) ∙ le-ltb at to (omega arith) in
            let longer : length (ms ++ new ∷ []) ≡ length ms + 1 = length-append ms (new ∷ []) in
            let z : meet_one s from test ms ≡ ms ++ new ∷ [] =
            ap (up_to from) (met_new (start_in (kind_of test) (number_of test)) (test_in s (kind_of test) (number_of test) (length_of test)) ms y)
            ∙ take_all (cases_most - from) (ms ++ new ∷ []) (omega (arith, x.number)) in
            rw z
            (record {
              number = omega (arith, x.number);
              most = omega arith;
              room = x.room;
              each = all_append s ms (new ∷ []) x.each (in_sheet s laid (kind_of test) (number_of test) (length_of test) fit, tt);
              written =
                  e
                  ∙ ap₂ (λ (v r : List ℕ). stored v (cases_start + case_size * to) r) x.written (sym (record_fields s laid (kind_of test) (number_of test) (length_of test) fit))
                  ∙ stored_append w₀ (cases_start + case_size * from) (cases_start + case_size * to) (case_records ms) (case_records (new ∷ [])) (omega (arith, length_case_records ms, x.number))
                  ∙ ap (stored w₀ (cases_start + case_size * from)) (sym (case_records_append ms (new ∷ [])));
            })
