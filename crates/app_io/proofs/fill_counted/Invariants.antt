-- What was read is a part of the buffer, and each turn leaves less to fill.
use Rattle.std.proofs.Common.{length, ◌-◌, ◌≤◌}
use Rattle.app_io.proofs.fill_counted.Given as goal

abbrev pub invariant-loop-count : goal.invariant-loop-count
invariant-loop-count g l = l.count ≤ length l.buf

abbrev pub decreases-loop-count : goal.decreases-loop-count
decreases-loop-count g l = length l.buf - l.count
