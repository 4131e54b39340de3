-- `format_tree::records::leaf_keeps_rules` meets its contract: its tests are those of the definition.
use Rattle.std.proofs.Common.{arith}
use Rattle.std.proofs.lemmas.Grind.{common_steps}
use Rattle.spec_rules.specs.TreeReader.{node_of_kind}
use Rattle.format_tree.proofs.records.leaf_keeps_rules.Goals as goal

pub returns-then-node_word-eq0 : goal.returns-then-node_word-eq0
unfolding node_of_kind
returns-then-node_word-eq0 c = grind (arith, common_steps)

pub returns-else-node_word-eq0 : goal.returns-else-node_word-eq0
unfolding node_of_kind
returns-else-node_word-eq0 c = grind (arith, common_steps)
