-- A case's test as the arena has it and the test of rule 4 that it means, a text by where it is in the pool; and whether the test of a
-- pattern belongs to a case, by the pattern's record alone. MeantLaws has that this is what rules says of the pattern.
use Rattle.std.specs.Prelude.{Bool, List, [], ◌∷◌, ℕ, ◌+◌, ◌-◌, ◌≤◌, eqb, leb, Some, None}
use Rattle.base_words.specs.Words.{both, either, pick, same_text}
use Rattle.spec_rules.specs.Kinds.{integer_pattern, byte_string_pattern, list_pattern, list_with_tail_pattern, constructor_pattern, int_case}
use Rattle.spec_rules.specs.SheetFile.{pool_size, pool_text}
use Rattle.spec_rules.specs.Splitting as splitting
use Rattle.format_sheet.specs.declared.records.PatternRecord.{PatternRecord}
use Rattle.format_records.specs.declared.reading.Test.{Test}
use Rattle.build_matrix.specs.Columns.{Held}
use Rattle.build_matrix.specs.declared.PerRow.{PerRow}
use Rattle.build_matrix.specs.HeldRows.{joins_case}
use Rattle.build_matrix.specs.Lists.{HoldsRows}
use Rattle.build_matrix.specs.Ready.{TestKnown}

unfoldable pub meant : List ℕ → Test → splitting.Test
unfolding pool_text
meant s (Test.Constr number) = splitting.Constr number
meant s (Test.Text kind start count) = pick (eqb kind 1) (splitting.Int (pool_text s start count)) (splitting.Bytes (pool_text s start count))
meant s (Test.List count) = splitting.ListOf count
meant s (Test.Tailed count) = splitting.ListWithTail count

-- the tests, by number, that belong to the case
abbrev pub joins_test : List ℕ → Test → ℕ → Bool
joins_test s test p = joins_case s (meant s test) p

-- its text lies in the pool
abbrev pub InPool : List ℕ → Test → Type 0
InPool s (Test.Constr number) = Unit {0}
InPool s (Test.Text kind start count) = start + count ≤ pool_size s
InPool s (Test.List count) = Unit {0}
InPool s (Test.Tailed count) = Unit {0}

-- ---- does the test of the pattern with record r belong to the case?
abbrev pub covers_constructor : PatternRecord → ℕ → Bool
covers_constructor r number = both (eqb r.kind constructor_pattern) (eqb number r.a)

-- the kind of the patterns that a text's case covers
abbrev pub text_pattern : ℕ → ℕ
text_pattern kind = pick (eqb kind int_case) integer_pattern byte_string_pattern

abbrev pub covers_text : List ℕ → PatternRecord → ℕ → ℕ → ℕ → Bool
covers_text s r kind start count = both (eqb r.kind (text_pattern kind)) (same_text (pool_text s start count) (pool_text s r.first r.count))

abbrev pub covers_tailed : PatternRecord → ℕ → Bool
covers_tailed r n = both (eqb r.kind list_with_tail_pattern) (leb (r.count - 1) n)

abbrev pub covers_list : PatternRecord → ℕ → Bool
covers_list r n = either (both (eqb r.kind list_pattern) (eqb n r.count)) (covers_tailed r n)

abbrev pub covers_read : List ℕ → PatternRecord → Test → Bool
covers_read s r (Test.Constr number) = covers_constructor r number
covers_read s r (Test.Text kind start count) = covers_text s r kind start count
covers_read s r (Test.List count) = covers_list r count
covers_read s r (Test.Tailed count) = covers_tailed r count

-- ---- the rows of a case, one by one
-- a row's test is a test of the sheet
abbrev pub HeldKnown : List ℕ → Held → Type 0
HeldKnown s (Some p) = TestKnown s p
HeldKnown s None = Unit {0}

-- the row of clause c, if it joins; and the test that it opens
abbrev pub join_row : (ℕ → Bool) → Held → ℕ → List ℕ
join_row joins (Some p) c = pick (joins p) (c ∷ []) []
join_row joins None c = c ∷ []

abbrev pub open_row : (ℕ → Bool) → Held → List ℕ
open_row joins (Some p) = pick (joins p) (p ∷ []) []
open_row joins None = []

-- the rows of a case and the tests that they open, in arrays
pub record JoinsTo (in_rows in_opens : PerRow) (rows opens : List ℕ) : Type 0 where
  pub has_rows : HoldsRows in_rows rows
  pub has_opens : HoldsRows in_opens opens
