-- `format_tree::order::cases_follow`: `before` is the child of the case before, and the cases left follow as all do.
use Rattle.std.proofs.Common.{◌≡◌, ◌+◌, ◌-◌, ◌<◌}
use Rattle.spec_rules.specs.Searching.{every}
use Rattle.spec_rules.specs.TreeReader.{case_child, case_children}
use Rattle.format_tree.specs.PreOrder.{case_follows, chained}
use Rattle.format_tree.proofs.order.cases_follow.Given as goal

abbrev pub invariant-loop-j : goal.invariant-loop-j
invariant-loop-j l =
    (l.before ≡ case_child l.tree (l.j - 1)) × (l.before < l.map.nodes.count)
    × (every (case_follows l.tree) l.j (l.i + l.n - l.j) ≡ chained l.tree (l.k + 1) (case_children l.tree l.i l.n))
