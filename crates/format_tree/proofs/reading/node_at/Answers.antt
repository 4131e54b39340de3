-- `format_tree::reading::node_at` meets its contract: the node of its kind, with the words as they were read.
-- A kind that is known and not 0, 1 or 2 is 3.
use Rattle.std.proofs.Common.{arith}
use Rattle.std.proofs.lemmas.Grind.{common_steps}
use Rattle.spec_rules.specs.TreeReader.{node_kind_of, node_path, node_first_case, node_cases, node_tail_cases, node_default, node_clause, node_first_binding, node_bindings, node_child}
use Rattle.format_tree.specs.Reading.{node_of}
use Rattle.format_tree.specs.OrderLaws.{node_kind_known}
use Rattle.format_tree.proofs.reading.node_at.Goals as goal

pub returns-in-1 : goal.returns-in-1
unfolding node_of node_kind_of node_path node_first_case node_cases node_tail_cases node_default
returns-in-1 c = grind (arith, common_steps)

pub returns-in-2 : goal.returns-in-2
unfolding node_of node_kind_of node_clause node_first_binding node_bindings
returns-in-2 c = grind (arith, common_steps)

pub returns-in_default : goal.returns-in_default
unfolding node_of node_kind_of node_clause node_first_binding node_bindings node_child
returns-in_default c = grind (arith, common_steps, node_kind_known c.requires.0 c.args.k c.requires.1)
