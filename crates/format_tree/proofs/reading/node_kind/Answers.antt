-- `format_tree::reading::node_kind` meets its contract: the map's start of the section is the file's, so that the record read is the rules'.
use native.Mathlib.Nat.{zero-add}
use Rattle.spec_rules.specs.TreeReader.{node_kind}
use Rattle.format_tree.specs.ReadingLaws.{nodes_start}
use Rattle.format_tree.proofs.reading.node_kind.Goals as goal

pub returns : goal.returns
unfolding node_kind
returns c = rw (nodes_start c.requires.0, zero-add) c.kind_in.ensures
