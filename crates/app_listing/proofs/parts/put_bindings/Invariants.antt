use Rattle.std.specs.Prelude.{◌+◌, ◌-◌}
use Rattle.app_listing.specs.Writing.{Begun}
use Rattle.spec_rules.specs.Listing.{bindings_text}
use Rattle.app_listing.proofs.parts.put_bindings.Given as goal

abbrev pub invariant-loop-j : goal.invariant-loop-j
invariant-loop-j l = Begun l.initial.out l.out l.at l.end (bindings_text l.tree l.b l.n) (bindings_text l.tree (l.b + l.j) (l.n - l.j))
