-- `format_tree::records::bindings_keep_rules`: those left keep the rules where all do.
use Rattle.std.proofs.Common.{◌≡◌, ◌-◌}
use Rattle.spec_rules.specs.Searching.{every}
use Rattle.spec_rules.specs.TreeReader.{binding_keeps_rules}
use Rattle.format_tree.proofs.records.bindings_keep_rules.Given as goal

abbrev pub invariant-loop-b : goal.invariant-loop-b
invariant-loop-b l = every (binding_keeps_rules l.tree) l.b (l.map.bindings.count - l.b) ≡ every (binding_keeps_rules l.tree) 0 l.map.bindings.count
