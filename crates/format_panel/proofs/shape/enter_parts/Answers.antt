-- `format_panel::shape::enter_parts` meets its contract: one step of what is left, or nothing is left.
use Rattle.std.proofs.Common.{sym, ◌∙◌}
use Rattle.format_panel.specs.Shape.{met}
use Rattle.format_panel.specs.ShapeSteps.{parts_end, parts_go, parts_broke}
use Rattle.format_panel.proofs.shape.enter_parts.Goals as goal

pub returns-then-not-enter_part : goal.returns-then-not-enter_part
returns-then-not-enter_part c =
    let l = c.loop-k in
    parts_broke c.args.panel.now (met l.depths) c.args.r c.args.j c.args.n l.k _ _ c.loop-k-test.true c.enter_part.ensures c.if-not-enter_part.true
    ∙ l.invariant

pub loop-k-preserved : goal.loop-k-preserved
loop-k-preserved c =
    let l = c.loop-k in
    parts_go c.args.panel.now (met l.depths) c.args.r c.args.j c.args.n l.k _ _ c.loop-k-test.true c.enter_part.ensures c.if-not-enter_part.false ∙ l.invariant

pub returns : goal.returns
returns c =
    let l = c.loop-k in
    sym (parts_end c.args.panel.now (met l.depths) c.args.r c.args.j c.args.n l.k c.loop-k-test.false) ∙ l.invariant
