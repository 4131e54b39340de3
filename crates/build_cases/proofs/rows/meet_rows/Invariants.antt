-- `build_cases::rows::meet_rows` meets its contract. The loop's invariant: the cases of the tests so far are met.
use lib.ListN.{take}
use Rattle.build_cases.specs.SoFar.{Meets}
use Rattle.build_cases.specs.Rows.{meet_tests}
use Rattle.build_cases.proofs.rows.meet_rows.Given as goal

abbrev pub invariant-loop-test : goal.invariant-loop-test
invariant-loop-test l =
    Meets l.sheet l.initial.work l.from l.from (meet_tests l.sheet l.from l.pass.tail l.pass.longest (take l.test-index l.tests)) l.top l.work
