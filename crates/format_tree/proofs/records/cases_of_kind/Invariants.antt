-- `format_tree::records::cases_of_kind`: those left are of the kind where all are.
use Rattle.std.proofs.Common.{◌≡◌, ◌+◌, ◌-◌}
use Rattle.spec_rules.specs.Searching.{every}
use Rattle.spec_rules.specs.TreeReader.{is_kind}
use Rattle.format_tree.proofs.records.cases_of_kind.Given as goal

abbrev pub invariant-loop-j : goal.invariant-loop-j
invariant-loop-j l = every (is_kind l.tree l.kind) l.j (l.i + l.n - l.j) ≡ every (is_kind l.tree l.kind) l.i l.n
