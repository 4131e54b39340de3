-- `format_tree::records::hoist_keeps_rules` meets its contract: its tests are those of the definition.
use Rattle.std.proofs.Common.{arith}
use Rattle.std.proofs.lemmas.Grind.{common_steps}
use Rattle.spec_rules.specs.TreeReader.{node_of_kind, node_child}
use Rattle.format_tree.specs.ReadingLaws.{nodes_count}
use Rattle.format_tree.proofs.records.hoist_keeps_rules.Goals as goal

pub returns-then-node_word-map : goal.returns-then-node_word-map
unfolding node_of_kind node_child
returns-then-node_word-map c = grind (arith, common_steps, nodes_count c.requires.0)

pub returns-else-node_word-map : goal.returns-else-node_word-map
unfolding node_of_kind node_child
returns-else-node_word-map c = grind (arith, common_steps, nodes_count c.requires.0)
