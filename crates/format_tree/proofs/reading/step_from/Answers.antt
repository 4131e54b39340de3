-- `format_tree::reading::step_from` meets its contract: the start that is handed in is the file's, so that the record read is the rules'.
use Rattle.spec_rules.specs.TreeReader.{step_kind, step_flag, step_index_at, step_type}
use Rattle.format_tree.proofs.reading.step_from.Goals as goal

pub returns : goal.returns
unfolding step_kind step_flag step_index_at step_type
returns c = rw (← c.requires.1) c.step_in.ensures
