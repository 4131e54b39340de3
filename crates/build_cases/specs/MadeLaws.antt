-- The laws of both passes together: the records of the second stand behind those of the first, and they are all there unless the
-- number of cases reaches what there is room for. Rests on the laws of the passes and of stores.
use Rattle.std.specs.Prelude.{◌≡◌, Option, Bool, true, false, List, [], ℕ, ◌+◌, ◌-◌, ◌*◌, ◌≤◌, ◌<◌, min, ltb, length}
use Rattle.std.proofs.Common.{sym, ap, ◌∙◌, arith, length-take, take_all}
use Rattle.base_words.specs.Stored.{stored}
use Rattle.base_words.specs.StoredLaws.{length_stored, stored_nil, stored_append, get_or_stored_below, get_or_stored_above}
use Rattle.spec_rules.specs.Limits.{patterns_most, nodes_most, bindings_most, case_size}
use Rattle.spec_rules.specs.SheetFile.{clauses}
use Rattle.spec_rules.specs.Splitting.{Met, cases_of}
use Rattle.spec_rules.specs.SplittingLaws.{All}
use Rattle.spec_match.specs.Depth.{only}
use Rattle.build_arena.specs.Arena.{cases_start, cases_most, bindings_start, arena_end}
use Rattle.build_arena.specs.WritingLaws.{Kept, kept_trans, kept_weaken}
use Rattle.format_sheet.specs.declared.SheetMap.{SheetMap}
use Rattle.build_matrix.specs.declared.PerRow.{PerRow}
use Rattle.build_matrix.specs.Live.{live_in}
use Rattle.build_matrix.specs.HeldRows.{held_tests}
use Rattle.build_matrix.specs.Lists.{numbers_in, HoldsRows}
use Rattle.build_matrix.specs.Matrices.{TestIn}
use Rattle.build_matrix.specs.MatricesLaws.{tests_in}
use Rattle.build_matrix.specs.Reading.{held_in}
use Rattle.build_matrix.specs.Ready.{ReadyTable, TestKnown}
use Rattle.build_matrix.specs.PuttingLaws.{all_map}
use Rattle.build_matrix.specs.InNumbersLaws.{tests_read}
use Rattle.build_cases.specs.declared.tests.Longest.{Longest}
use Rattle.build_cases.specs.declared.CasesMet.{CasesMet}
use Rattle.build_cases.specs.Passes.{up_to, case_records}
use Rattle.build_cases.specs.PassesLaws.{pass_cases, sorts_length, has_list_longest}
use Rattle.build_cases.specs.SoFar.{SoFar, Begun, Meets}
use Rattle.build_cases.specs.SoFarLaws.{length_case_records, case_records_append, all_append}
use Rattle.build_cases.specs.Rows.{sort_of, meet_tests, longest_of}
use Rattle.build_cases.specs.Made.{column_of, exact_cases, tail_cases, CasesMade, CasesPast, MeetsTo}

-- a pass begins with no case
so_far_none : (s w : List ℕ) (first : ℕ) → arena_end ≤ length w → first ≤ cases_most → SoFar s w first [] first w
unfolding case_records
so_far_none s w first room most = record { number = omega arith; most = most; room = room; each = tt; written = sym (stored_nil w (cases_start + case_size * first)) }

pub pass_begins : (s w : List ℕ) (first : ℕ) → arena_end ≤ length w → first ≤ cases_most → Begun s w first first
pass_begins s w first room most = record { mets = []; so_far = so_far_none s w first room most }

-- what a pass leaves as it was
so_far_kept : {s w₀ : List ℕ} {from : ℕ} {ms : List Met} {to : ℕ} {w : List ℕ} → SoFar s w₀ from ms to w → Kept nodes_most from bindings_most w₀ w
so_far_kept {w₀} {from} {ms} x =
    rw x.written
    (record {
      same_length = length_stored w₀ (cases_start + case_size * from) (case_records ms);
      nodes = λ i l. get_or_stored_below w₀ (cases_start + case_size * from) (case_records ms) i 0 (omega arith);
      cases = λ i l. get_or_stored_below w₀ (cases_start + case_size * from) (case_records ms) (cases_start + i) 0 (omega arith);
      bindings = λ i l. get_or_stored_above w₀ (cases_start + case_size * from) (case_records ms) (bindings_start + i) 0 (omega (arith, length_case_records ms, x.number, x.most));
    })

-- what a pass meets in all
pass_meets : (s : List ℕ) (from : ℕ) (tail : Bool) (l : Longest) (ps : List ℕ) → l ≡ longest_of s ps → meet_tests s from tail l ps [] ≡ up_to from (only (sort_of tail) (cases_of (column_of s ps)))
pass_meets s from tail l ps e =
    ap (λ (k : Longest). meet_tests s from tail k ps []) e ∙ ap (up_to from) (pass_cases (sort_of tail) (column_of s ps))

module _ {s w w₁ : List ℕ} {first mid : ℕ} (ps : List ℕ) (l : Longest) (is : l ≡ longest_of s ps) (room : arena_end ≤ length w) (most : first ≤ cases_most)
    (a : Meets s w first first (meet_tests s first false l ps) mid w₁) where
  first_pass : SoFar s w first (up_to first (exact_cases (column_of s ps))) mid w₁
  first_pass = rw (pass_meets s first false l ps is) at (a.after w [] (so_far_none s w first room most))

  pub second_begins : Begun s w₁ mid mid
  second_begins = pass_begins s w₁ mid (omega (arith, (so_far_kept first_pass).same_length, room)) first_pass.most

  module _ {end : ℕ} {w' : List ℕ} (b : Meets s w₁ mid mid (meet_tests s mid true l ps) end w') where
    second_pass : SoFar s w₁ mid (up_to mid (tail_cases (column_of s ps))) end w'
    second_pass =
        rw (pass_meets s mid true l ps is) at
        (b.after w₁ [] (so_far_none s w₁ mid (omega (arith, (so_far_kept first_pass).same_length, room)) first_pass.most))

    mid_number : mid ≡ first + min (cases_most - first) (length (exact_cases (column_of s ps)))
    mid_number = first_pass.number ∙ ap (λ (n : ℕ). first + n) (length-take (cases_most - first) (exact_cases (column_of s ps)))

    end_number : end ≡ mid + min (cases_most - mid) (length (tail_cases (column_of s ps)))
    end_number = second_pass.number ∙ ap (λ (n : ℕ). mid + n) (length-take (cases_most - mid) (tail_cases (column_of s ps)))

    pub passes_past : end ≡ cases_most → CasesPast (column_of s ps) first w w'
    passes_past e =
        record {
          more = omega (arith, mid_number, end_number, sorts_length (cases_of (column_of s ps)), most);
          kept = kept_trans (so_far_kept first_pass) (kept_weaken (omega arith) (omega (arith, first_pass.number)) (omega arith) (so_far_kept second_pass));
        }

    pub passes_made : (end ≡ cases_most → ⊥) → (list : Bool) → list ≡ ltb 0 (l.tailless + l.tails) → CasesMade s (column_of s ps) first w w' (record { mid = mid; end = end; list = list })
    passes_made n list f =
        let m = mid_number in
        let k = end_number in
        let small : end < cases_most = omega (arith, second_pass.most) in
        let es : up_to first (exact_cases (column_of s ps)) ≡ exact_cases (column_of s ps) = take_all (cases_most - first) (exact_cases (column_of s ps)) (omega arith) in
        let ts : up_to mid (tail_cases (column_of s ps)) ≡ tail_cases (column_of s ps) = take_all (cases_most - mid) (tail_cases (column_of s ps)) (omega arith) in
        let x : SoFar s w first (exact_cases (column_of s ps)) mid w₁ = rw es at first_pass in
        let y : SoFar s w₁ mid (tail_cases (column_of s ps)) end w' = rw ts at second_pass in
        record {
          mid_is = x.number;
          end_is = y.number;
          list_is = f ∙ ap (λ (k : Longest). ltb 0 (k.tailless + k.tails)) is ∙ sym (has_list_longest (column_of s ps));
          small = small;
          each = all_append s (exact_cases (column_of s ps)) (tail_cases (column_of s ps)) x.each y.each;
          written =
              y.written
              ∙ ap (λ (v : List ℕ). stored v (cases_start + case_size * mid) (case_records (tail_cases (column_of s ps)))) x.written
              ∙ stored_append w (cases_start + case_size * first) (cases_start + case_size * mid) (case_records (exact_cases (column_of s ps))) (case_records (tail_cases (column_of s ps)))
              (omega (arith, length_case_records (exact_cases (column_of s ps)), x.number))
              ∙ ap (stored w (cases_start + case_size * first)) (sym (case_records_append (exact_cases (column_of s ps)) (tail_cases (column_of s ps))));
        }

-- ---- the column of a class, of rows that are clauses
module _ {s : List ℕ} {m : SheetMap} {t : List ℕ} (ready : ReadyTable s m t) (rows : List ℕ) (low : All (λ c. c < clauses s) rows) (opened : List ℕ)
    (class : ℕ) (known : class < patterns_most) (tests : PerRow) (are : HoldsRows tests (held_tests (held_in t opened class) rows)) where
  column_tests : numbers_in tests ≡ held_tests (live_in s opened class) rows
  column_tests = are.are ∙ tests_read ready rows low class known opened

  pub column_known : All (TestKnown s) (numbers_in tests)
  column_known =
      rw column_tests
      (all_map (TestIn s class) (TestKnown s) (λ p h. record { known = h.known; test = h.test }) (held_tests (live_in s opened class) rows)
      (tests_in s opened class rows))

  pub column_meets : (first : ℕ) (w w' : List ℕ) (r : Option CasesMet) → MeetsTo s (column_of s (numbers_in tests)) first w w' r
      → MeetsTo s (column_of s (held_tests (live_in s opened class) rows)) first w w' r
  column_meets first w w' r a = rw (← column_tests) a
