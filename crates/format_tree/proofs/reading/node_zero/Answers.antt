-- `format_tree::reading::node_zero` meets its contract: the map's start of the section is the file's, so that the record read is the rules'.
use native.Mathlib.Nat.{zero-add}
use Rattle.spec_rules.specs.TreeReader.{node_zero}
use Rattle.format_tree.specs.ReadingLaws.{nodes_start}
use Rattle.format_tree.proofs.reading.node_zero.Goals as goal

pub returns : goal.returns
unfolding node_zero
returns c = rw (nodes_start c.requires.0, zero-add) c.zero_in.ensures
