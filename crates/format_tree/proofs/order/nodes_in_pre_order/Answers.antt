-- `format_tree::order::nodes_in_pre_order` meets its contract: the chain of every node's children and the end of node 0 decide.
use Rattle.std.proofs.Common.{arith}
use Rattle.std.proofs.lemmas.Grind.{common_steps}
use Rattle.format_tree.specs.OrderLaws.{in_order_is}
use Rattle.format_tree.proofs.order.nodes_in_pre_order.Goals as goal

pub returns-then-all_follow : goal.returns-then-all_follow
returns-then-all_follow c = rw (in_order_is c.requires) (grind (arith, common_steps))

pub returns-else-all_follow : goal.returns-else-all_follow
returns-else-all_follow c = rw (in_order_is c.requires) (grind (arith, common_steps))
