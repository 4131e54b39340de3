-- `format_tree::reading::case_at` meets its contract: the map's start of the section is the file's, so that the record read is the rules'.
use Rattle.spec_rules.specs.TreeReader.{case_kind, case_number, case_length, case_child}
use Rattle.format_records.specs.Records.{test_in}
use Rattle.format_tree.specs.Reading.{case_of}
use Rattle.format_tree.specs.ReadingLaws.{cases_start}
use Rattle.format_tree.proofs.reading.case_at.Goals as goal

pub returns : goal.returns
unfolding case_of test_in case_kind case_number case_length case_child
returns c = rw (cases_start c.requires.0) c.case_in.ensures
