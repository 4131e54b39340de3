-- `format_tree::reading::case_zero` meets its contract: the map's start of the section is the file's, so that the record read is the rules'.
use Rattle.spec_rules.specs.TreeReader.{case_zero}
use Rattle.format_tree.specs.ReadingLaws.{cases_start}
use Rattle.format_tree.proofs.reading.case_zero.Goals as goal

pub returns : goal.returns
unfolding case_zero
returns c = rw (cases_start c.requires.0) c.zero_in.ensures
