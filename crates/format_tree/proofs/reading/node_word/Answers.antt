-- `format_tree::reading::node_word` meets its contract: the map's start of the section is the file's, so that the record read is the rules'.
use native.Mathlib.Nat.{zero-add}
use Rattle.spec_rules.specs.TreeReader.{node_word}
use Rattle.format_tree.specs.ReadingLaws.{nodes_start}
use Rattle.format_tree.proofs.reading.node_word.Goals as goal

pub returns : goal.returns
unfolding node_word
returns c = rw (nodes_start c.requires.0, zero-add) c.node_word_in.ensures
