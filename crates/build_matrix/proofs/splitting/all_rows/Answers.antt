-- `splitting::all_rows`: the rows there and those from the next clause on are all.
use native.Mathlib.Omega.{arith}
use lib.ListN.{length-set}
use Rattle.build_matrix.specs.RowStates.{up_from}
use Rattle.build_matrix.specs.SplitLaws.{rows_more, rows_all}
use Rattle.build_matrix.proofs.splitting.all_rows.Goals as goal

pub loop-c-preserved : goal.loop-c-preserved
loop-c-preserved c =
    let l = c.loop-c in
    let n = c.args.n in (
      simp length-set l.invariant.0,
      rows_more l.list l.c n (up_from 0 n) (omega (arith, l.invariant.0, c.requires, c.loop-c-test.true)) c.loop-c-test.true l.invariant.1,
    )

pub returns : goal.returns
returns c =
    let l = c.loop-c in
    let n = c.args.n in
    record { long = l.invariant.0; most = c.requires; are = rows_all l.list l.c n (up_from 0 n) (omega arith) l.invariant.1 }
