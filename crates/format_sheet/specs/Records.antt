-- The records of a sheet as the readers answer them: where the bytes are, and by their numbers.
-- Rests on the fields that rules defines.
use Rattle.std.specs.Prelude.{ℕ, ◌+◌, Bool, List, get_or, eqb}
use Rattle.base_words.specs.Words.{word_at, both}
use Rattle.spec_rules.specs.SheetFile.{type_kind, type_flag, type_first, type_count, constructor_first, constructor_count, pattern_kind, pattern_zero, pattern_a, pattern_first, pattern_count}
use Rattle.format_sheet.specs.declared.records.TypeRecord.{TypeRecord}
use Rattle.format_sheet.specs.declared.records.Run.{Run}
use Rattle.format_sheet.specs.declared.records.PatternRecord.{PatternRecord}

abbrev pub type_from : List ℕ → ℕ → TypeRecord
type_from s at = record { kind = get_or s at 0; flag = get_or s (at + 1) 0; first = word_at s (at + 2); count = word_at s (at + 4) }

abbrev pub type_of : List ℕ → ℕ → TypeRecord
type_of s t = record { kind = type_kind s t; flag = type_flag s t; first = type_first s t; count = type_count s t }

abbrev pub run_from : List ℕ → ℕ → Run
run_from s at = record { first = word_at s at; count = word_at s (at + 2) }

abbrev pub constructor_of : List ℕ → ℕ → Run
constructor_of s c = record { first = constructor_first s c; count = constructor_count s c }

abbrev pub pattern_from : List ℕ → ℕ → PatternRecord
pattern_from s at = record {
  kind = get_or s at 0;
  zero = get_or s (at + 1) 0;
  a = word_at s (at + 2);
  first = word_at s (at + 4);
  count = word_at s (at + 6);
}

abbrev pub pattern_of : List ℕ → ℕ → PatternRecord
pattern_of s p = record {
  kind = pattern_kind s p;
  zero = pattern_zero s p;
  a = pattern_a s p;
  first = pattern_first s p;
  count = pattern_count s p;
}

-- unused fields are 0
abbrev pub no_run : ℕ → ℕ → Bool
no_run first count = both (eqb first 0) (eqb count 0)
