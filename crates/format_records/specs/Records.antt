-- The fields of a tree's record at a place, and the record as the code has it; and the bytes that a case and a step are written as.
-- The fields of a tree file (01, "The tree file") and those of the arena are these, each at the place of its record.
use Rattle.std.specs.Prelude.{ℕ, ◌+◌, ◌*◌, List, ◌∷◌, ◌++◌, length, get_or}
use Rattle.base_words.specs.Words.{word_at, word_bytes}
use Rattle.spec_rules.specs.Kinds.{constr_case, int_case, bytes_case, list_case, list_with_tail_case}
use Rattle.spec_rules.specs.Splitting as splitting
use Rattle.spec_rules.specs.TreeReader.{CaseKind, Constr_case, Int_case, Bytes_case, List_case, List_with_tail_case, Unknown_case, case_kind_of}
use Rattle.spec_file.specs.RecordsLaws.{case_fields}
use Rattle.format_records.specs.declared.reading.Test.{Test}
use Rattle.format_records.specs.declared.reading.Case.{Case}
use Rattle.format_records.specs.declared.reading.Binding.{Binding}
use Rattle.format_records.specs.declared.reading.Path.{Path}
use Rattle.format_records.specs.declared.reading.Step.{Step}

-- ---- fields
abbrev pub kind_in : List ℕ → ℕ → ℕ
kind_in b at = get_or b at 0

abbrev pub zero_in : List ℕ → ℕ → ℕ
zero_in b at = get_or b (at + 1) 0

-- the five words of a node are numbered from 0
abbrev pub node_word_in : List ℕ → ℕ → ℕ → ℕ
node_word_in b at i = word_at b (at + 2 + 2 * i)

abbrev pub case_number_in : List ℕ → ℕ → ℕ
case_number_in b at = word_at b (at + 2)

abbrev pub case_length_in : List ℕ → ℕ → ℕ
case_length_in b at = word_at b (at + 4)

abbrev pub case_child_in : List ℕ → ℕ → ℕ
case_child_in b at = word_at b (at + 6)

-- ---- records as the code has them
-- the test of a case from its kind, number and length
unfoldable pub test_from : CaseKind → ℕ → ℕ → Test
test_from Constr_case number count = Test.Constr number
test_from Int_case number count = Test.Text int_case number count
test_from Bytes_case number count = Test.Text bytes_case number count
test_from List_case number count = Test.List number
test_from List_with_tail_case number count = Test.Tailed number
test_from Unknown_case number count = Test.Tailed number

unfoldable pub test_in : List ℕ → ℕ → Test
unfolding test_from case_kind_of
test_in b at = test_from (case_kind_of (kind_in b at)) (case_number_in b at) (case_length_in b at)

abbrev pub case_in : List ℕ → ℕ → Case
case_in b at = record { test = test_in b at; child = case_child_in b at }

abbrev pub binding_in : List ℕ → ℕ → Binding
binding_in b at = record { name = word_at b at; path = word_at b (at + 2) }

abbrev pub path_in : List ℕ → ℕ → Path
path_in b at = record { first = word_at b at; count = word_at b (at + 2) }

abbrev pub step_in : List ℕ → ℕ → Step
step_in b at = record { kind = kind_in b at; flag = zero_in b at; index = word_at b (at + 2); of = word_at b (at + 4) }

-- ---- bytes
-- a case's kind, number and length
abbrev pub kind_of : Test → ℕ
kind_of (Test.Constr number) = constr_case
kind_of (Test.Text kind start count) = kind
kind_of (Test.List count) = list_case
kind_of (Test.Tailed count) = list_with_tail_case

abbrev pub number_of : Test → ℕ
number_of (Test.Constr number) = number
number_of (Test.Text kind start count) = start
number_of (Test.List count) = count
number_of (Test.Tailed count) = count

abbrev pub length_of : Test → ℕ
length_of (Test.Constr number) = 0
length_of (Test.Text kind start count) = count
length_of (Test.List count) = 0
length_of (Test.Tailed count) = 0

unfoldable pub case_record : Case → List ℕ
case_record x = case_fields (kind_of x.test) (number_of x.test) (length_of x.test) x.child

-- "Steps, 6 bytes: kind ..; flag; index; type of the part stepped from"
abbrev pub step_record : ℕ → ℕ → ℕ → ℕ → List ℕ
step_record kind flag index type = kind ∷ flag ∷ (word_bytes index ++ word_bytes type)

-- the rules' test u, whose text starts at `start`, as the code has it
unfoldable pub test_for : ℕ → splitting.Test → Test
test_for start (splitting.Constr a) = Test.Constr a
test_for start (splitting.Int v) = Test.Text int_case start (length v)
test_for start (splitting.Bytes v) = Test.Text bytes_case start (length v)
test_for start (splitting.ListOf n) = Test.List n
test_for start (splitting.ListWithTail n) = Test.Tailed n
