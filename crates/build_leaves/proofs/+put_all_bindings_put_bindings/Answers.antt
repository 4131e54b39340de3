use mathlib.Core.Path.{◌∙◌}
use Prim.Native.Nat.{◌+◌}
use native.Mathlib.Omega.{arith}
use Rattle.build_table.specs.Seen.{binds_of, binds_of_each}
use Rattle.build_leaves.specs.Bindings.{bound, own_of}
use Rattle.build_leaves.specs.PuttingLaws.{put_run, put_more, put_turn, put_nothing, room_after, nothing_more, each_from, each_more, each_none}
use Rattle.build_leaves.proofs.+put_all_bindings_put_bindings.Goals as goal

pub put_all_bindings-loop-k-preserved : goal.put_all_bindings-loop-k-preserved
put_all_bindings-loop-k-preserved t c =
    let s = c.args.sheet.now in
    let loop = c.loop-k in
    let q = c.child_in-q in
    let put = c.put_bindings-next in
    let left = each_from s c.args.j c.args.n in (
      room_after s loop.work put.new.work loop.next put.result (binds_of s q.result) loop.invariant.0 put.ensures,
      put_turn s (bound loop.work loop.next) (bound put.new.work put.result) (binds_of s q.result) (left (loop.k + 1)) (left loop.k)
          (each_more s c.args.j c.args.n loop.k q.result (omega arith) q.ensures) put.ensures
          ∙ loop.invariant.1,
    )

pub put_all_bindings-returns : goal.put_all_bindings-returns
put_all_bindings-returns t c =
    let s = c.args.sheet.now in
    let loop = c.loop-k in
    put_nothing s (bound loop.work loop.next) (each_from s c.args.j c.args.n loop.k) (each_none s c.args.j c.args.n loop.k (omega arith))
    ∙ loop.invariant.1

pub put_bindings-returns-then-g-eq0 : goal.put_bindings-returns-then-g-eq0
put_bindings-returns-then-g-eq0 t c =
    let s = c.args.sheet.now in
    let g = c.gives-g in
    let own = c.put_own-next in
    put_run s (bound c.args.work.now c.args.top) (bound own.new.work own.result) (own_of g.result.named c.args.p) (binds_of s c.args.p)
    (nothing_more s c.requires.0.ok c.args.p g.result g.ensures c.if-g-eq0.true) own.ensures

pub put_bindings-put_all_bindings-requires : goal.put_bindings-put_all_bindings-requires
put_bindings-put_all_bindings-requires t c =
    let s = c.args.sheet.now in
    let g = c.gives-g in
    let own = c.put_own-next in (
      omega (arith, c.decreases, c.requires.1, c.requires.0.ok.is_counted.patterns_most_holds),
      (c.requires.0, g.ensures.entries, room_after s c.args.work.now own.new.work c.args.top own.result (own_of g.result.named c.args.p) c.requires.2 own.ensures),
    )

pub put_bindings-returns : goal.put_bindings-returns
put_bindings-returns t c =
    let s = c.args.sheet.now in
    let g = c.gives-g in
    let own = c.put_own-next in
    let put = c.put_all_bindings in
    put_more s (bound c.args.work.now c.args.top) (bound own.new.work own.result) (bound put.new.work put.result)
    (own_of g.result.named c.args.p) (binds_of_each s g.result.first g.result.count) (binds_of s c.args.p) g.ensures.these own.ensures put.ensures
