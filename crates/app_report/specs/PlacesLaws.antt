-- What stands at a position, kind by kind, from the record as the code has it.
-- Rests on the definitions of Telling; that a record's numbers are words, on what a panel is: bytes.
use Rattle.std.specs.Prelude.{◌≡◌, List, [], ◌++◌, ℕ, ◌-◌, ◌≤◌, ◌<◌}
use Rattle.std.proofs.Common.{sym, ◌∙◌}
use Rattle.std.proofs.Math.Path.{ap}
use borrow.Author.Tests.{le-leb, lt-leb, lt-ltb, le-ltb}
use Rattle.base_words.specs.Words.{Bytes}
use Rattle.base_words.specs.WordsLaws.{word_at_small}
use Rattle.spec_rules.specs.Kinds.{integer_record, bytes_record, list_record, pair_record, tuple_record, constructor_record}
use Rattle.spec_rules.specs.SheetRefusals.{accepted, refused}
use Rattle.spec_rules.specs.PanelFile.{records, record_a, record_count, RecordKind, Integer_record, Bytes_record, List_record, Pair_record, Tuple_record, Constructor_record, Unknown_record, record_kind_of, panel_verdict}
use Rattle.spec_rules.specs.Calls.{text_part}
use Rattle.spec_rules.specs.Listing.{decimal, hex}
use Rattle.spec_accepted.specs.KindsLaws.{byte_record, record_unknown}
use Rattle.format_panel.specs.declared.records.Record.{Record}
use Rattle.format_panel.specs.Opened.{record_of}
use Rattle.app_report.specs.Telling.{int_word, bytes_word, list_word, pair_word, tuple_word, constr_word, list_text, kind_text, record_text, place_text}

-- ---- what is left of a list
pub list_left : (count d : ℕ) → d ≤ count → list_word ++ decimal (count - d) ≡ list_text count d
unfolding list_text
list_left count d h = rw (le-leb d count h)

pub list_short : (count d : ℕ) → count < d → [] ≡ list_text count d
unfolding list_text
list_short count d h = rw (lt-leb d count h)

-- ---- a record that was read
module _ (v : List ℕ) (r d : ℕ) (x : Record) (read : x ≡ record_of v r) where
  of_kind : (kind : RecordKind) → record_kind_of x.kind ≡ kind → kind_text v r d kind ≡ record_text v r d
  unfolding record_text
  of_kind kind e = ap (kind_text v r d) (sym e ∙ ap (λ (y : Record). record_kind_of y.kind) read)

  pub int_is : x.kind ≡ integer_record → int_word ++ text_part v r d ≡ record_text v r d
  unfolding kind_text
  int_is k = of_kind Integer_record (byte_record _ Integer_record k)

  pub bytes_is : x.kind ≡ bytes_record → bytes_word ++ hex (text_part v r d) ≡ record_text v r d
  unfolding kind_text
  bytes_is k = of_kind Bytes_record (byte_record _ Bytes_record k)

  pub list_is : x.kind ≡ list_record → list_text x.count d ≡ record_text v r d
  unfolding kind_text
  list_is k = ap (λ (y : Record). list_text y.count d) read ∙ of_kind List_record (byte_record _ List_record k)

  pub pair_is : x.kind ≡ pair_record → pair_word ≡ record_text v r d
  unfolding kind_text
  pair_is k = of_kind Pair_record (byte_record _ Pair_record k)

  pub tuple_is : x.kind ≡ tuple_record → tuple_word ++ decimal x.count ≡ record_text v r d
  unfolding kind_text
  tuple_is k = ap (λ (y : Record). tuple_word ++ decimal y.count) read ∙ of_kind Tuple_record (byte_record _ Tuple_record k)

  pub constr_is : x.kind ≡ constructor_record → constr_word ++ decimal x.a ≡ record_text v r d
  unfolding kind_text
  constr_is k = ap (λ (y : Record). constr_word ++ decimal y.a) read ∙ of_kind Constructor_record (byte_record _ Constructor_record k)

  pub unknown_is : constructor_record < x.kind → [] ≡ record_text v r d
  unfolding kind_text
  unknown_is k = of_kind Unknown_record (record_unknown _ k)

  -- its numbers are words
  pub count_small : Bytes v → x.count < 65536
  unfolding record_count
  count_small bytes = rw read (word_at_small bytes _)

  pub a_small : Bytes v → x.a < 65536
  unfolding record_a
  a_small bytes = rw read (word_at_small bytes _)

-- ---- a position
module _ (v : List ℕ) (r d : ℕ) where
  pub no_panel : {number place : ℕ} → refused number place ≡ panel_verdict v → [] ≡ place_text v r d
  unfolding place_text
  no_panel e = rw (← e)

  module _ (ok : accepted ≡ panel_verdict v) where
    pub no_record : records v ≤ r → [] ≡ place_text v r d
    unfolding place_text
    no_record h = rw (← ok, le-ltb r (records v) h)

    pub record_there : r < records v → record_text v r d ≡ place_text v r d
    unfolding place_text
    record_there h = rw (← ok, lt-ltb r (records v) h)
