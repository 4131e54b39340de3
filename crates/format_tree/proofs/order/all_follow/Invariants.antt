-- `format_tree::order::all_follow`: those left follow where all do.
use Rattle.std.proofs.Common.{◌≡◌, ◌-◌}
use Rattle.spec_rules.specs.Searching.{every}
use Rattle.format_tree.specs.PreOrder.{children_follow}
use Rattle.format_tree.proofs.order.all_follow.Given as goal

abbrev pub invariant-loop-k : goal.invariant-loop-k
invariant-loop-k l = every (children_follow l.tree) l.k (l.map.nodes.count - l.k) ≡ every (children_follow l.tree) 0 l.map.nodes.count
