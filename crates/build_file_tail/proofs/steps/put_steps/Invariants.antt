-- `build_file_tail::steps::put_steps` meets its contract. The loop's invariant: the steps behind those of p are there; the number of p falls, since a path of some steps
-- goes on from a lower pattern.
use Rattle.build_file_tail.specs.StepsLaws.{Climbs}
use Rattle.build_file_tail.proofs.steps.put_steps.Given as goal

abbrev pub invariant-loop-to : goal.invariant-loop-to
invariant-loop-to l = Climbs l.sheet l.initial.tree l.tree l.at l.class l.p l.to

abbrev pub decreases-loop-to : goal.decreases-loop-to
decreases-loop-to l = l.p
