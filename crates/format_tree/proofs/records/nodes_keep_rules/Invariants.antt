-- `format_tree::records::nodes_keep_rules`: those left keep the rules where all do.
use Rattle.std.proofs.Common.{◌≡◌, ◌-◌}
use Rattle.spec_rules.specs.Searching.{every}
use Rattle.spec_rules.specs.TreeReader.{node_keeps_rules}
use Rattle.format_tree.proofs.records.nodes_keep_rules.Given as goal

abbrev pub invariant-loop-k : goal.invariant-loop-k
invariant-loop-k l = every (node_keeps_rules l.tree) l.k (l.map.nodes.count - l.k) ≡ every (node_keeps_rules l.tree) 0 l.map.nodes.count
