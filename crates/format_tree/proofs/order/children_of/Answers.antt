-- `format_tree::order::children_of` meets its contract: a known kind that is neither a leaf's nor a hoist's is one of the two switches'.
use Rattle.format_tree.specs.OrderLaws.{children_leaf, children_hoist, children_cases}
use Rattle.std.proofs.Common.{rules, arith}
use Rattle.format_tree.proofs.order.children_of.Goals as goal

pub returns-in-2 : goal.returns-in-2
returns-in-2 c = search (rules, children_leaf)

pub returns-in-3 : goal.returns-in-3
returns-in-3 c = search (rules, children_hoist)

pub returns-in_default : goal.returns-in_default
returns-in_default c =
    children_cases c.requires.0 c.args.k c.requires.1 _ _ _ _ (λ e. omega arith) (λ e. omega arith)
    c.node_word-first.ensures c.node_word-cases.ensures c.node_word-tails.ensures c.node_word-default.ensures
