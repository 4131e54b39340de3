-- Refusal 6 of one type over the fields of its record.
use Rattle.std.specs.Prelude.{ℕ, Bool, false, eqb, leb}
use Rattle.base_words.specs.Words.{both, either, pick}
use Rattle.spec_rules.specs.Kinds.{bytes_type, list_type, pair_type, tuple_type, data_type, no_flag, both_flags}
use Rattle.spec_rules.specs.SheetFile.{run_in}
use Rattle.format_sheet.specs.declared.records.TypeRecord.{TypeRecord}
use Rattle.format_sheet.specs.Records.{no_run}

unfoldable pub parts_fit : TypeRecord → ℕ → ℕ → Bool
parts_fit r entries constructors =
    pick (leb r.kind bytes_type) (no_run r.first r.count)
    (pick (eqb r.kind list_type) (both (eqb r.count 1) (run_in r.first r.count entries))
    (pick (eqb r.kind pair_type) (both (eqb r.count 2) (run_in r.first r.count entries))
    (pick (eqb r.kind tuple_type) (both (leb 2 r.count) (run_in r.first r.count entries))
    (pick (eqb r.kind data_type) (both (leb 1 r.count) (run_in r.first r.count constructors))
    false))))

unfoldable pub flags_fit : ℕ → ℕ → Bool
flags_fit kind flag = either (eqb flag no_flag) (both (eqb kind data_type) (leb flag both_flags))
