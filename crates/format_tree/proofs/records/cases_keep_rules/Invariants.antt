-- `format_tree::records::cases_keep_rules`: those left keep the rules where all do.
use Rattle.std.proofs.Common.{◌≡◌, ◌-◌}
use Rattle.spec_rules.specs.Searching.{every}
use Rattle.spec_rules.specs.TreeReader.{case_keeps_rules}
use Rattle.format_tree.proofs.records.cases_keep_rules.Given as goal

abbrev pub invariant-loop-i : goal.invariant-loop-i
invariant-loop-i l = every (case_keeps_rules l.tree) l.i (l.map.cases.count - l.i) ≡ every (case_keeps_rules l.tree) 0 l.map.cases.count
