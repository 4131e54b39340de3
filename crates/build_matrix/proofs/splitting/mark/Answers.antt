-- `splitting::mark`: marking the tests that are left makes the whole.
use lib.ListN.{take, length-set}
use Rattle.build_matrix.specs.Matrices.{marked}
use Rattle.build_matrix.specs.SplitLaws.{mark_on, mark_end}
use Rattle.build_matrix.proofs.splitting.mark.Goals as goal

pub loop-p-preserved : goal.loop-p-preserved
loop-p-preserved c =
    let a = c.args in
    let l = c.loop-p in
    let whole = marked a.time a.opened.now (take a.n a.opens.now) in
    (simp length-set l.invariant.0, mark_on a.time l.opened whole a.opens.now a.n l.p-index c.from.result c.loop-p-test.true c.from.ensures l.invariant.1)

pub returns : goal.returns
returns c =
    let a = c.args in
    let l = c.loop-p in
    mark_end a.time l.opened (marked a.time a.opened.now (take a.n a.opens.now)) a.opens.now a.n l.p-index c.loop-p-test.false l.invariant.1
