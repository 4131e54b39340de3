-- `splitting::open_all`: the columns that the tests from one on open to, the last first.
use mathlib.Core.Path.{refl, sym}
use mathlib.Core.List.{[]}
use native.Mathlib.Omega.{arith}
use Rattle.build_matrix.specs.Lists.{as_classes, Holds}
use Rattle.build_matrix.specs.ListsLaws.{whole, holds_same}
use Rattle.build_matrix.specs.SplitLaws.{opens_none, test_known, test_room, opened_listed, opened_columns}
use Rattle.build_matrix.proofs.splitting.open_all.Goals as goal

pub loop-i-init : goal.loop-i-init
loop-i-init c =
    let a = c.args in
    let h : Holds (as_classes a.list.now 0) [] = record { long = c.requires.list_len; most = omega arith; are = refl } in
    (record { whole = whole h; each = tt }, holds_same h (sym (opens_none a.sheet.now a.opens.now a.n)))

pub open-count-requires : goal.open-count-requires
open-count-requires c =
    let a = c.args in
    let l = c.loop-i in
    let p = c.from in
    (c.requires.opens_asked.0, l.invariant.0, test_known c.requires.opens_asked.0 a.opens.now a.n (omega (arith, c.requires.opens_asked.1.long, c.requires.opens_asked.1.most)) c.requires.opens_asked.2 c.requires.opens_asked.3 l.i c.loop-i-test.true l.auto.i p.result p.ensures (as_classes l.list l.count) l.invariant.0 l.invariant.1, test_room c.requires.opens_asked.0 a.opens.now a.n (omega (arith, c.requires.opens_asked.1.long, c.requires.opens_asked.1.most)) c.requires.opens_asked.2 c.requires.opens_asked.3 l.i c.loop-i-test.true l.auto.i p.result p.ensures (as_classes l.list l.count) l.invariant.0 l.invariant.1)

pub loop-i-preserved : goal.loop-i-preserved
loop-i-preserved c =
    let a = c.args in
    let l = c.loop-i in
    let p = c.from in (
      opened_listed c.requires.opens_asked.0 a.opens.now a.n (omega (arith, c.requires.opens_asked.1.long, c.requires.opens_asked.1.most)) c.requires.opens_asked.2 c.requires.opens_asked.3 l.i c.loop-i-test.true l.auto.i p.result p.ensures (as_classes l.list l.count) l.invariant.0 l.invariant.1 c.open-count.ensures,
      opened_columns c.requires.opens_asked.0 a.opens.now a.n (omega (arith, c.requires.opens_asked.1.long, c.requires.opens_asked.1.most)) c.requires.opens_asked.2 c.requires.opens_asked.3 l.i c.loop-i-test.true l.auto.i p.result p.ensures (as_classes l.list l.count) l.invariant.0 l.invariant.1 c.open-count.ensures,
    )
