-- `format_tree::records::list_switch_keeps_rules` meets its contract: its tests are those of the definition.
use Rattle.std.proofs.Common.{arith}
use Rattle.std.proofs.lemmas.Grind.{common_steps}
use Rattle.spec_rules.specs.TreeReader.{node_of_kind}
use Rattle.format_tree.proofs.records.list_switch_keeps_rules.Goals as goal

pub returns-then-switch_parts : goal.returns-then-switch_parts
unfolding node_of_kind
returns-then-switch_parts c = grind (arith, common_steps)

pub returns-else-switch_parts : goal.returns-else-switch_parts
unfolding node_of_kind
returns-else-switch_parts c = grind (arith, common_steps)
