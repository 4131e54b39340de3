-- What a row's test meets, as the code reads it: the one case of a test without a tail, the rising cases of one with, and the longest
-- lengths of a column. RowsLaws has that these are rule 4's.
use Rattle.std.specs.Prelude.{Bool, true, false, List, [], ◌∷◌, map, ℕ, suc, ◌<◌, eqb, Some, None}
use Rattle.base_words.specs.Words.{pick}
use Rattle.spec_rules.specs.Kinds.{integer_pattern, byte_string_pattern, list_pattern, list_with_tail_pattern, int_case, bytes_case}
use Rattle.spec_rules.specs.Splitting.{Test, ListOf, ListWithTail, Met, rising, tailless_length, tailed_length, larger, longest, meet}
use Rattle.spec_match.specs.Depth.{is_tail, is_exact}
use Rattle.format_sheet.specs.declared.records.PatternRecord.{PatternRecord}
use Rattle.format_records.specs.declared.reading.Test as tests
use Rattle.build_table.specs.Standing.{pattern_of}
use Rattle.build_matrix.specs.Columns.{Held}
use Rattle.build_cases.specs.declared.tests.Longest.{Longest}
use Rattle.build_cases.specs.Passes.{meet_row, meet_rows, up_to}

-- the test of a pattern without a tail
abbrev pub exact_test : PatternRecord → tests.Test
exact_test r =
    pick (eqb r.kind integer_pattern) (tests.Test.Text int_case r.first r.count)
    (pick (eqb r.kind byte_string_pattern) (tests.Test.Text bytes_case r.first r.count)
    (pick (eqb r.kind list_pattern) (tests.Test.List r.count)
    (tests.Test.Constr r.a)))

-- fields that two bytes hold
pub record Small (r : PatternRecord) : Type 0 where
  pub a_small : r.a < 65536
  pub first_small : r.first < 65536
  pub count_small : r.count < 65536

-- ---- of two sorts, with a tail or without
abbrev pub sort_of : Bool → Test → Bool
sort_of true t = is_tail t
sort_of false t = is_exact t

-- a case for n elements, as rule 4 has it and as the code does
abbrev pub list_test : Bool → ℕ → Test
list_test true n = ListWithTail n
list_test false n = ListOf n

abbrev pub arena_list_test : Bool → ℕ → tests.Test
arena_list_test true n = tests.Test.Tailed n
arena_list_test false n = tests.Test.List n

-- n rising cases from k elements on
abbrev pub rise_to : ℕ → Bool → ℕ → ℕ → List Met → List Met
rise_to from tail k n ms = up_to from (meet 0 ms (rising (list_test tail) k n))

-- what the row of pattern p meets, and the rows of the patterns ps
abbrev pub meet_test : List ℕ → ℕ → Bool → Longest → ℕ → List Met → List Met
meet_test s from tail l p ms = up_to from (meet_row (sort_of tail) l.tailless l.tails ms (pattern_of s p))

abbrev pub meet_tests : List ℕ → ℕ → Bool → Longest → List ℕ → List Met → List Met
meet_tests s from tail l ps ms = up_to from (meet_rows (sort_of tail) l.tailless l.tails ms (map (pattern_of s) ps))

-- ---- the longest lengths, each one more than it is, or 0
abbrev pub longest_of : List ℕ → List ℕ → Longest
longest_of s ps = record { tailless = longest tailless_length (map (pattern_of s) ps); tails = longest tailed_length (map (pattern_of s) ps) }

-- one pattern more
abbrev pub longer : PatternRecord → Longest → Longest
longer r l = record {
  tailless = pick (eqb r.kind list_pattern) (larger (suc r.count) l.tailless) l.tailless;
  tails = pick (eqb r.kind list_with_tail_pattern) (larger r.count l.tails) l.tails;
}

-- ---- the tests of a column, by number
abbrev pub held_test : Held → List ℕ
held_test (Some p) = p ∷ []
held_test None = []

-- a number that a byte holds
abbrev pub TestSmall : Held → Type 0
TestSmall (Some p) = p < 256
TestSmall None = Unit {0}
