-- `format_tree::records::paths_keep_rules`: those left keep the rules where all do.
use Rattle.std.proofs.Common.{◌≡◌, ◌-◌}
use Rattle.spec_rules.specs.Searching.{every}
use Rattle.spec_rules.specs.TreeReader.{path_keeps_rules}
use Rattle.format_tree.proofs.records.paths_keep_rules.Given as goal

abbrev pub invariant-loop-p : goal.invariant-loop-p
invariant-loop-p l = every (path_keeps_rules l.tree) l.p (l.map.paths.count - l.p) ≡ every (path_keeps_rules l.tree) 0 l.map.paths.count
