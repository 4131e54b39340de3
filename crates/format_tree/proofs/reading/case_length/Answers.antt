-- `format_tree::reading::case_length` meets its contract: the map's start of the section is the file's, so that the record read is the rules'.
use Rattle.spec_rules.specs.TreeReader.{case_length}
use Rattle.format_tree.specs.ReadingLaws.{cases_start}
use Rattle.format_tree.proofs.reading.case_length.Goals as goal

pub returns : goal.returns
unfolding case_length
returns c = rw (cases_start c.requires.0) c.case_length_in.ensures
