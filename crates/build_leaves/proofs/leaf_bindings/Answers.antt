-- `leaf_bindings`: the bindings of the root, then those that each column tested opened.
use mathlib.Core.Path.{refl, ◌∙◌}
use Prim.Native.Nat.{◌+◌}
use native.Mathlib.Omega.{arith}
use Rattle.spec_rules.specs.SheetFile.{root}
use Rattle.build_table.specs.Seen.{binds_of}
use Rattle.build_matrix.specs.Live.{opened_test}
use Rattle.build_matrix.specs.Bound.{numbers_held}
use Rattle.build_leaves.specs.Bindings.{bound}
use Rattle.build_leaves.specs.PuttingLaws.{put_turn, room_after, left_from, left_more, tested_known, leaf_put}
use Rattle.build_leaves.proofs.leaf_bindings.Goals as goal

pub loop-time-init : goal.loop-time-init
loop-time-init c =
    let a = c.args in
    let put = c.put_root-next in
    (room_after a.sheet.now a.work.now put.new.work a.top put.result (binds_of a.sheet.now (root a.sheet.now a.c)) c.requires.2 put.ensures, refl)

pub put_opened-next-requires : goal.put_opened-next-requires
put_opened-next-requires c =
    let a = c.args in
    let few = c.requires.1.whole.most in
    (c.requires.0, c.requires.1.clause, tested_known a.sheet.now a.opened.now a.tested.now a.c a.n c.requires.1 c.loop-time.time c.from-class.result (omega arith) c.from-class.ensures, omega (arith, few), c.loop-time.invariant.0)

pub loop-time-preserved : goal.loop-time-preserved
loop-time-preserved c =
    let a = c.args in
    let s = a.sheet.now in
    let loop = c.loop-time in
    let put = c.put_opened-next in
    let held = numbers_held s (opened_test s a.opened.now a.c loop.time c.from-class.result) in
    let left = left_from s a.opened.now a.tested.now a.n a.c in (
      room_after s loop.work put.new.work loop.next put.result held loop.invariant.0 put.ensures,
      put_turn s (bound loop.work loop.next) (bound put.new.work put.result) held (left (loop.time + 1)) (left loop.time)
          (left_more s a.opened.now a.tested.now a.n a.c (omega (arith, c.requires.1.whole)) loop.time c.from-class.result (omega arith) c.from-class.ensures) put.ensures
          ∙ loop.invariant.1,
    )

pub returns : goal.returns
returns c =
    let a = c.args in
    let put = c.put_root-next in
    let loop = c.loop-time in
    leaf_put a.sheet.now a.opened.now a.tested.now a.c a.n c.requires.1 loop.time (bound a.work.now a.top) (bound put.new.work put.result) (bound loop.work loop.next)
    (omega arith) put.ensures loop.invariant.1
