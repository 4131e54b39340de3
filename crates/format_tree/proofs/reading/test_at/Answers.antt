-- `format_tree::reading::test_at` meets its contract: the map's start of the section is the file's, so that the record read is the rules'.
use Rattle.spec_rules.specs.TreeReader.{case_kind, case_number, case_length}
use Rattle.format_records.specs.Records.{test_in}
use Rattle.format_tree.specs.Reading.{test_of}
use Rattle.format_tree.specs.ReadingLaws.{cases_start}
use Rattle.format_tree.proofs.reading.test_at.Goals as goal

pub returns : goal.returns
unfolding test_of test_in case_kind case_number case_length
returns c = rw (cases_start c.requires.0) c.test_in.ensures
