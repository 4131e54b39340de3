-- Both sums stay below the prime.
use Rattle.std.proofs.Common.{◌<◌}
use Rattle.test_listings.proofs.checksum.Given as goal

abbrev pub invariant-loop-x : goal.invariant-loop-x
invariant-loop-x l = (l.bytes < 65521) × (l.sums < 65521)
