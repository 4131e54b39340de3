-- A case's test by the fields of its record: a kind, a number and a length, a text by where it is in the sheet's pool; and the search
-- for an equal test among the cases of the arena. Rests on the arena's records; FieldsLaws has what each comparison of fields tells.
use Rattle.std.specs.Prelude.{◌≡◌, Bool, true, false, List, ℕ, zero, suc, ◌+◌, ◌≤◌, ◌<◌, eqb}
use Rattle.base_words.specs.Words.{both, either, pick}
use Rattle.spec_rules.specs.Kinds.{constr_case, int_case, bytes_case, list_case, list_with_tail_case}
use Rattle.spec_rules.specs.SheetFile.{pool_size, pool_text}
use Rattle.spec_rules.specs.Splitting.{Test, Constr, Int, Bytes, ListOf, ListWithTail, Met, same_test}
use Rattle.build_arena.specs.Arena.{case_kind, case_number, case_length}
use Rattle.format_records.specs.declared.reading.Test as tests
use Rattle.format_records.specs.Records.{kind_of, number_of, length_of}
use Rattle.build_cases.specs.declared.search.Fields.{Fields}

abbrev pub fields_of : tests.Test → Fields
fields_of test = record { kind = kind_of test; number = number_of test; len = length_of test }

abbrev pub is_text : ℕ → Bool
is_text kind = either (eqb kind int_case) (eqb kind bytes_case)

-- the test that these fields stand for, and where its text starts
unfoldable pub test_in : List ℕ → ℕ → ℕ → ℕ → Test
unfolding pool_text
test_in s kind number len =
    pick (eqb kind constr_case) (Constr number)
    (pick (eqb kind int_case) (Int (pool_text s number len))
    (pick (eqb kind bytes_case) (Bytes (pool_text s number len))
    (pick (eqb kind list_case) (ListOf number)
    (ListWithTail number))))

unfoldable pub start_in : ℕ → ℕ → ℕ
start_in kind number = pick (is_text kind) number 0

unfoldable pub met_in : List ℕ → ℕ → ℕ → ℕ → Met
met_in s kind number len = record { test = test_in s kind number len; start = start_in kind number }

-- fields of a case: a text lies in the pool, and what is no text has no length
pub record Fit (s : List ℕ) (kind number len : ℕ) : Type 0 where
  pub known : kind ≤ list_with_tail_case
  pub inside : is_text kind ≡ true → number + len ≤ pool_size s
  pub plain : is_text kind ≡ false → len ≡ 0

-- ---- the search
-- case i may have the test: it has its kind and length, and what is no text its number
unfoldable pub is_alike : List ℕ → ℕ → ℕ → ℕ → ℕ → Bool
is_alike w i kind number len = both (eqb (case_kind w i) kind) (both (eqb (case_length w i) len) (either (is_text kind) (eqb (case_number w i) number)))

unfoldable pub has_test : List ℕ → List ℕ → ℕ → ℕ → ℕ → ℕ → Bool
unfolding same_test test_in
has_test s w kind number len i = same_test (test_in s kind number len) (test_in s (case_kind w i) (case_number w i) (case_length w i))

-- the first from i on, of n, of which f holds; or where they end
unfoldable pub first_where : (ℕ → Bool) → ℕ → ℕ → ℕ
first_where f i zero = i
first_where f i (suc n) = pick (f i) i (first_where f (i + 1) n)

-- the cases from `from` up to `to` have fields of cases
pub record Readable (s w : List ℕ) (from to : ℕ) : Type 0 where
  pub fields : (i : ℕ) → from ≤ i → i < to → Fit s (case_kind w i) (case_number w i) (case_length w i)
