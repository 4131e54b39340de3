use mathlib.Core.List.{[], ◌∷◌}
use Rattle.base_words.specs.WordsLaws.{pick_true, pick_false}
use Rattle.build_leaves.specs.Bindings.{bound, own_of}
use Rattle.build_leaves.specs.PuttingLaws.{put_one, put_run, put_nothing}
use Rattle.build_leaves.proofs.put_own.Goals as goal

pub returns-then-named : goal.returns-then-named
returns-then-named c =
    let s = c.args.sheet.now in
    let p = c.args.p in
    let put = c.put_binding in
    let x = bound c.args.work.now c.args.top in
    let y = bound put.new.work put.result in
    put_run s x y (p ∷ []) (own_of c.args.named p) (pick_true c.args.named (p ∷ []) [] c.if-named.true) (put_one s x y p put.ensures)

pub returns : goal.returns
returns c =
    put_nothing c.args.sheet.now (bound c.args.work.now c.args.top) (own_of c.args.named c.args.p) (pick_false c.args.named (c.args.p ∷ []) [] c.if-named.false)
