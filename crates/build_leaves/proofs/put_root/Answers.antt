use mathlib.Core.Path.{sym, ap, ◌∙◌}
use Rattle.spec_rules.specs.SheetFile.{root}
use Rattle.build_table.specs.Seen.{binds_of, binds_of_each}
use Rattle.build_leaves.specs.Bindings.{bound, own_of}
use Rattle.build_leaves.specs.PuttingLaws.{put_run, put_more, room_after, started, nothing_more}
use Rattle.build_leaves.proofs.put_root.Goals as goal

pub returns-then-g-eq0 : goal.returns-then-g-eq0
returns-then-g-eq0 c =
    let s = c.args.sheet.now in
    let p = c.root_at-p in
    let g = c.gives-g in
    let own = c.put_own-own in
    put_run s (bound c.args.work.now c.args.top) (bound own.new.work own.result) (own_of g.result.named p.result) (binds_of s (root s c.args.c))
    (ap (binds_of s) (sym p.ensures) ∙ nothing_more s c.requires.0.checked.ok p.result g.result g.ensures c.if-g-eq0.true) own.ensures

pub put_all_bindings-requires : goal.put_all_bindings-requires
put_all_bindings-requires c =
    let g = c.gives-g in
    let own = c.put_own-own in
    (started c.requires.0, g.ensures.entries, room_after c.args.sheet.now c.args.work.now own.new.work c.args.top own.result (own_of g.result.named c.root_at-p.result) c.requires.2 own.ensures)

pub returns : goal.returns
returns c =
    let s = c.args.sheet.now in
    let p = c.root_at-p in
    let g = c.gives-g in
    let own = c.put_own-own in
    let put = c.put_all_bindings in
    put_more s (bound c.args.work.now c.args.top) (bound own.new.work own.result) (bound put.new.work put.result)
    (own_of g.result.named p.result) (binds_of_each s g.result.first g.result.count) (binds_of s (root s c.args.c)) (ap (binds_of s) (sym p.ensures) ∙ g.ensures.these) own.ensures put.ensures
