use Rattle.std.specs.Prelude.{◌-◌}
use Rattle.app_listing.specs.Writing.{Begun}
use Rattle.spec_rules.specs.Listing.{node_lines}
use Rattle.app_listing.proofs.lines.put_lines.Given as goal

abbrev pub invariant-loop-k : goal.invariant-loop-k
invariant-loop-k l = Begun l.initial.out l.out l.at l.end (node_lines l.tree 0 l.map.nodes.count) (node_lines l.tree l.k (l.map.nodes.count - l.k))
