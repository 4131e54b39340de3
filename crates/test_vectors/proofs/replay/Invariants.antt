-- No more vectors are counted than bytes were passed.
use Rattle.std.proofs.Common.{length, ◌+◌, ◌≤◌}
use Rattle.test_vectors.proofs.replay.Given as goal

abbrev pub invariant-loop-vector : goal.invariant-loop-vector
invariant-loop-vector l = (l.t.vectors + length l.rest ≤ length l.all) × (l.t.differ ≤ l.t.vectors)

abbrev pub decreases-loop-vector : goal.decreases-loop-vector
decreases-loop-vector l = length l.rest
