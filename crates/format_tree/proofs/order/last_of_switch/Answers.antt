-- `format_tree::order::last_of_switch` meets its contract: the default where there is one, else the last case's child.
use Rattle.std.proofs.Common.{◌∙◌}
use Rattle.format_tree.specs.OrderLaws.{last_of_default, last_of_cases}
use Rattle.format_tree.proofs.order.last_of_switch.Goals as goal

pub returns-then-default-gt0 : goal.returns-then-default-gt0
returns-then-default-gt0 c = λ k. last_of_default _ _ _ _ k c.if-default-gt0.true

pub returns-else-default-gt0 : goal.returns-else-default-gt0
returns-else-default-gt0 c = λ k. c.case_child.ensures ∙ last_of_cases _ _ _ _ k c.requires.1 c.if-default-gt0.false
