-- `splitting::all_rows`: the rows there and those from the next clause on are all.
use mathlib.Core.Path.{◌≡◌}
use mathlib.Core.List.{◌++◌}
use Prim.Native.Nat.{◌-◌}
use lib.ListN.{length, take}
use Rattle.build_matrix.specs.RowStates.{up_from}
use Rattle.build_matrix.proofs.splitting.all_rows.Given as goal

abbrev pub invariant-loop-c : goal.invariant-loop-c
invariant-loop-c l = (length l.list ≡ 32) × (take l.c l.list ++ up_from l.c (l.n - l.c) ≡ up_from 0 l.n)
