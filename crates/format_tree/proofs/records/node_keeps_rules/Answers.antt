-- `format_tree::records::node_keeps_rules` meets its contract: each kind byte has its kind's test, and any other byte is unknown.
use Rattle.std.proofs.Common.{arith}
use Rattle.std.proofs.lemmas.Grind.{common_steps}
use Rattle.spec_rules.specs.TreeReader.{node_keeps_rules, node_kind_of, node_of_kind}
use Rattle.format_tree.proofs.records.node_keeps_rules.Goals as goal

pub returns-in-0 : goal.returns-in-0
unfolding node_keeps_rules node_kind_of node_of_kind
returns-in-0 c = grind (arith, common_steps)

pub returns-in-1 : goal.returns-in-1
unfolding node_keeps_rules node_kind_of node_of_kind
returns-in-1 c = grind (arith, common_steps)

pub returns-in-2 : goal.returns-in-2
unfolding node_keeps_rules node_kind_of node_of_kind
returns-in-2 c = grind (arith, common_steps)

pub returns-in-3 : goal.returns-in-3
unfolding node_keeps_rules node_kind_of node_of_kind
returns-in-3 c = grind (arith, common_steps)

pub returns-in_default : goal.returns-in_default
unfolding node_keeps_rules node_kind_of node_of_kind
returns-in_default c = grind (arith, common_steps)

pub returns-else-node_zero-eq0 : goal.returns-else-node_zero-eq0
unfolding node_keeps_rules node_kind_of node_of_kind
returns-else-node_zero-eq0 c = grind (arith, common_steps)
