-- None of the copies is longer than a number of four digits tells.
use Rattle.std.proofs.Common.{◌+◌, ◌*◌, ◌≤◌}
use Rattle.test_walk.proofs.rows.copies.Given as goal

abbrev pub invariant-loop-k : goal.invariant-loop-k
invariant-loop-k l = l.to ≤ 69904 + 69904 * l.k
