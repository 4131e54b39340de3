-- `format_panel::shape::shape_fits` meets its contract: the pass answers what the rules of the shape say.
use Rattle.std.proofs.Common.{arith, ◌∙◌}
use borrow.Author.Tests.{ne_eqb}
use Rattle.format_panel.specs.Shape.{seen, at_root}
use Rattle.format_panel.specs.ShapeAnswer.{count_wrong, count_right}
use Rattle.format_panel.proofs.shape.shape_fits.Goals as goal

pub returns-then-map : goal.returns-then-map
unfolding at_root
returns-then-map c =
    let o = c.requires in
    let pass = c.enter_records in
    count_right c.args.panel.now o.laid.some_record o.laid.records_most_holds (omega arith) (seen pass.new.depths pass.result) pass.ensures

pub returns-else-map : goal.returns-else-map
returns-else-map c =
    let o = c.requires in
    ne_eqb _ _ c.if-map.false ∙ count_wrong c.args.panel.now o.laid.some_record o.laid.records_most_holds (λ e. c.if-map.false (omega arith))
