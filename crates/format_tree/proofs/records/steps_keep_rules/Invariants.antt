-- `format_tree::records::steps_keep_rules`: those left keep the rules where all do.
use Rattle.std.proofs.Common.{◌≡◌, ◌-◌}
use Rattle.spec_rules.specs.Searching.{every}
use Rattle.spec_rules.specs.TreeReader.{step_keeps_rules}
use Rattle.format_tree.proofs.records.steps_keep_rules.Given as goal

abbrev pub invariant-loop-i : goal.invariant-loop-i
invariant-loop-i l = every (step_keeps_rules l.tree) l.i (l.map.steps.count - l.i) ≡ every (step_keeps_rules l.tree) 0 l.map.steps.count
