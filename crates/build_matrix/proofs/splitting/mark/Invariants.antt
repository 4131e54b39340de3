-- `splitting::mark`: marking the tests that are left makes the whole.
use mathlib.Core.Path.{◌≡◌}
use lib.ListN.{length, take}
use lib.Seq.{slice}
use Rattle.build_matrix.specs.Matrices.{marked}
use Rattle.build_matrix.proofs.splitting.mark.Given as goal

abbrev pub invariant-loop-p : goal.invariant-loop-p
invariant-loop-p l = (length l.opened ≡ 192) × (marked l.time l.opened (slice l.p-index l.n l.opens) ≡ marked l.time l.initial.opened (take l.n l.opens))
