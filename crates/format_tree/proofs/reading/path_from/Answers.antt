-- `format_tree::reading::path_from` meets its contract: the start that is handed in is the file's, so that the record read is the rules'.
use Rattle.spec_rules.specs.TreeReader.{path_first, path_count}
use Rattle.format_tree.proofs.reading.path_from.Goals as goal

pub returns : goal.returns
unfolding path_first path_count
returns c = rw (← c.requires.1) c.path_in.ensures
