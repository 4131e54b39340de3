use Rattle.std.specs.Prelude.{◌+◌, ◌-◌}
use Rattle.app_listing.specs.Writing.{Begun}
use Rattle.spec_rules.specs.Listing.{cases_text}
use Rattle.app_listing.proofs.parts.put_cases.Given as goal

abbrev pub invariant-loop-j : goal.invariant-loop-j
invariant-loop-j l = Begun l.initial.out l.out l.at l.end (cases_text l.tree l.i l.n) (cases_text l.tree (l.i + l.j) (l.n - l.j))
