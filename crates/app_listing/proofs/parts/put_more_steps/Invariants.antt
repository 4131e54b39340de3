use Rattle.std.specs.Prelude.{◌+◌, ◌-◌}
use Rattle.app_listing.specs.Writing.{Begun}
use Rattle.spec_rules.specs.Listing.{more_steps}
use Rattle.spec_rules.specs.TreeReader.{steps_from}
use Rattle.app_listing.proofs.parts.put_more_steps.Given as goal

abbrev pub invariant-loop-j : goal.invariant-loop-j
invariant-loop-j l = Begun l.initial.out l.out l.at l.end (more_steps (steps_from l.tree l.i l.n)) (more_steps (steps_from l.tree (l.i + l.j) (l.n - l.j)))
