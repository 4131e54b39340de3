-- `format_tree::reading::binding_from` meets its contract: the start that is handed in is the file's, so that the record read is the rules'.
use Rattle.spec_rules.specs.TreeReader.{binding_name, binding_path}
use Rattle.format_tree.proofs.reading.binding_from.Goals as goal

pub returns : goal.returns
unfolding binding_name binding_path
returns c = rw (← c.requires.1) c.binding_in.ensures
