-- `build_cases::rows::meet_rising` meets its contract. The loop's invariant: the cases of the lengths before i are met.
use Prim.Native.Nat.{◌-◌, ◌≤◌}
use Rattle.build_cases.specs.SoFar.{Meets}
use Rattle.build_cases.specs.Rows.{rise_to}
use Rattle.build_cases.proofs.rows.meet_rising.Given as goal

abbrev pub invariant-loop-i : goal.invariant-loop-i
invariant-loop-i l = (l.i - l.least ≤ l.end - l.least) × Meets l.sheet l.initial.work l.from l.to (rise_to l.from l.tail l.least (l.i - l.least)) l.top l.work
