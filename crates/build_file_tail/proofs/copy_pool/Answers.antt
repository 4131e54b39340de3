-- `build_file_tail::copy_pool` meets its contract: a byte more of the pool, and at the end all of it.
use Rattle.std.proofs.Common.{arith, sym}
use Rattle.base_words.specs.StoredLaws.{stored_nil}
use Rattle.build_file_tail.specs.RecordsLaws.{pool_room, pool_text_lem}
use Rattle.build_file_tail.specs.StoringLaws.{copied, copied_next, puts_as}
use Rattle.build_file_tail.proofs.copy_pool.Goals as goal

pub loop-i-init : goal.loop-i-init
loop-i-init c = sym (stored_nil c.args.tree.now c.args.at)

pub loop-i-preserved : goal.loop-i-preserved
loop-i-preserved c =
    let a = c.args in
    copied_next a.sheet.now a.tree.now a.at a.map.pool.start c.loop-i.tree c.loop-i.i (omega (arith, pool_room c.requires.0, c.loop-i-test.true)) c.loop-i.invariant

pub returns : goal.returns
returns c =
    let a = c.args in
    let l = c.loop-i in
    puts_as
    (copied a.sheet.now a.tree.now a.at a.map.pool.start l.tree l.i a.map.pool.count (pool_room c.requires.0) (omega (arith, c.loop-i-test.false, l.auto.i-end)) l.invariant)
    (pool_text_lem c.requires.0)
