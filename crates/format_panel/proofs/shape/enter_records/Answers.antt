-- `format_panel::shape::enter_records` meets its contract: one step of what is left, or nothing is left.
use Rattle.std.proofs.Common.{sym, ◌∙◌, arith}
use Rattle.spec_rules.specs.PanelFile.{records}
use Rattle.format_panel.specs.Shape.{met}
use Rattle.format_panel.specs.ShapeSteps.{records_end, records_go, records_broke}
use Rattle.format_panel.proofs.shape.enter_records.Goals as goal

pub returns-then-not-enter_record : goal.returns-then-not-enter_record
returns-then-not-enter_record c =
    let l = c.loop-r in
    records_broke c.args.panel.now (met l.depths) l.r (records c.args.panel.now) _ _ (omega arith) c.enter_record.ensures c.if-not-enter_record.true
    ∙ l.invariant

pub loop-r-preserved : goal.loop-r-preserved
loop-r-preserved c =
    let l = c.loop-r in
    records_go c.args.panel.now (met l.depths) l.r (records c.args.panel.now) _ _ (omega arith) c.enter_record.ensures c.if-not-enter_record.false ∙ l.invariant

pub returns : goal.returns
returns c =
    let l = c.loop-r in
    sym (records_end c.args.panel.now (met l.depths) l.r (records c.args.panel.now) (omega arith)) ∙ l.invariant
