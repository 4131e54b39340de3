-- What a switch asks for, as the code has it; runs of cases of one kind; and the case that is chosen of a run.
-- Rests on the rules' tests.
use Rattle.std.specs.Prelude.{◌≡◌, Bool, true, false, List, ℕ, suc, ◌+◌, ◌≤◌, ◌<◌, eqb}
use Rattle.std.proofs.Math.Option.{Option}
use Rattle.base_words.specs.Words.{pick, same_text}
use Rattle.spec_rules.specs.Kinds.{integer_record, bytes_record, constructor_record, int_case, bytes_case}
use Rattle.spec_rules.specs.Searching.{lowest}
use Rattle.spec_rules.specs.Splitting.{Test, Int, Bytes, same_test}
use Rattle.spec_rules.specs.TreeReader.{case_kind, case_number, case_text, case_test}
use Rattle.format_records.specs.declared.reading.Test.{Test as TestRead}

-- the kind of record that a switch asks for whose first case has this test
abbrev pub asked_by : TestRead → ℕ
asked_by (TestRead.Constr a) = constructor_record
asked_by (TestRead.Text kind s n) = pick (eqb kind int_case) integer_record bytes_record
asked_by (TestRead.List k) = suc constructor_record
asked_by (TestRead.Tailed k) = suc constructor_record

-- ---- the n cases from i on are of one kind, or have texts
abbrev pub AllKind : List ℕ → ℕ → ℕ → ℕ → Type 0
AllKind t kind i n = (j : ℕ) → i ≤ j → j < i + n → case_kind t j ≡ kind

abbrev pub AllText : List ℕ → ℕ → ℕ → Type 0
AllText t i n = (j : ℕ) → i ≤ j → j < i + n → (int_case ≤ case_kind t j) × (case_kind t j ≤ bytes_case)

-- ---- choosing: the first of the n cases from i on of this test, of this number, of this text
abbrev pub first_case : List ℕ → Test → ℕ → ℕ → Option ℕ
first_case t x i n = lowest (λ j. same_test x (case_test t j)) i n

abbrev pub first_numbered : List ℕ → ℕ → ℕ → ℕ → Option ℕ
first_numbered t number i n = lowest (λ j. eqb number (case_number t j)) i n

abbrev pub first_text : List ℕ → List ℕ → ℕ → ℕ → Option ℕ
first_text t w i n = lowest (λ j. same_text w (case_text t j)) i n

-- an integer's text or a byte string's
abbrev pub text_test : Bool → List ℕ → Test
text_test true w = Int w
text_test false w = Bytes w
