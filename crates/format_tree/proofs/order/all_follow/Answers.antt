-- `format_tree::order::all_follow` meets its contract: the first that fails, one more, and the end.
use Rattle.std.proofs.Common.{sym, ◌∙◌}
use Rattle.spec_rules.specs.SearchingLaws.{every_on, every_stop, every_end}
use Rattle.format_tree.specs.PreOrder.{children_follow}
use Rattle.format_tree.proofs.order.all_follow.Goals as goal

pub returns-then-not-children_follow : goal.returns-then-not-children_follow
returns-then-not-children_follow c =
    sym (every_stop (children_follow c.args.tree.now) c.loop-k.k c.args.map.nodes.count c.loop-k-test.true (sym c.children_follow.ensures ∙ c.if-not-children_follow.true)) ∙ c.loop-k.invariant

pub loop-k-preserved : goal.loop-k-preserved
loop-k-preserved c =
    every_on (children_follow c.args.tree.now) c.loop-k.k c.args.map.nodes.count c.loop-k-test.true (sym c.children_follow.ensures ∙ c.if-not-children_follow.false) ∙ c.loop-k.invariant

pub returns : goal.returns
returns c = sym (every_end (children_follow c.args.tree.now) c.loop-k.k c.args.map.nodes.count c.loop-k-test.false) ∙ c.loop-k.invariant
