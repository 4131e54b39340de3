-- `format_panel::shape::enter_record` meets its contract: each return is one case of the step.
use Rattle.std.proofs.Common.{◌≡◌, ◌∙◌, sym, ap}
use borrow.Author.Tests.{lt-ltb}
use Rattle.format_panel.specs.Shape.{seen, met, record_met}
use Rattle.format_panel.specs.ShapeSteps.{met_fit, met_not, record_broke, record_text, parts_inside, record_parts}
use Rattle.format_panel.proofs.shape.enter_record.Goals.{then-depths-r-gt0, else-depths-r-gt0}
use Rattle.format_panel.proofs.shape.enter_record.Goals as goal

pub enter_parts-requires : goal.enter_parts-requires
enter_parts-requires c =
    let v = c.args.panel.now in
    let s = met c.args.depths.now in
    let x = c.record_at-x in
    let is : c.if-depths-r-gt0.value ≡ record_met v s.depths c.args.r = elim c.if-depths-r-gt0.branch [
      | then-depths-r-gt0 w ↦ w.value-is ∙ met_fit v s c.args.r w.if-depths-r-gt0.true (w.fields_fit.ensures v c.args.r x.ensures c.requires.0.parts_are c.requires.0.pool_size)
      | else-depths-r-gt0 w ↦ w.value-is ∙ met_not v s c.args.r w.if-depths-r-gt0.false
    ] in
    (c.requires.0, c.requires.1, parts_inside v s c.args.r x.result x.ensures (sym is ∙ c.if-fields_fit.true) c.if-x-lt-LIST.false)

pub returns-then-x-lt-LIST : goal.returns-then-x-lt-LIST
returns-then-x-lt-LIST c =
    let v = c.args.panel.now in
    let s = met c.args.depths.now in
    let x = c.record_at-x in
    let is : c.if-depths-r-gt0.value ≡ record_met v s.depths c.args.r = elim c.if-depths-r-gt0.branch [
      | then-depths-r-gt0 w ↦ w.value-is ∙ met_fit v s c.args.r w.if-depths-r-gt0.true (w.fields_fit.ensures v c.args.r x.ensures c.requires.0.parts_are c.requires.0.pool_size)
      | else-depths-r-gt0 w ↦ w.value-is ∙ met_not v s c.args.r w.if-depths-r-gt0.false
    ] in
    ap (seen c.args.depths.now) (lt-ltb _ _ c.if-x-lt-LIST.true) ∙ record_text v s c.args.r x.result x.ensures (sym is ∙ c.if-fields_fit.true) c.if-x-lt-LIST.true

pub returns-else-x-lt-LIST : goal.returns-else-x-lt-LIST
returns-else-x-lt-LIST c =
    let v = c.args.panel.now in
    let s = met c.args.depths.now in
    let x = c.record_at-x in
    let is : c.if-depths-r-gt0.value ≡ record_met v s.depths c.args.r = elim c.if-depths-r-gt0.branch [
      | then-depths-r-gt0 w ↦ w.value-is ∙ met_fit v s c.args.r w.if-depths-r-gt0.true (w.fields_fit.ensures v c.args.r x.ensures c.requires.0.parts_are c.requires.0.pool_size)
      | else-depths-r-gt0 w ↦ w.value-is ∙ met_not v s c.args.r w.if-depths-r-gt0.false
    ] in
    record_parts v s c.args.r x.result x.ensures (sym is ∙ c.if-fields_fit.true) _ c.if-x-lt-LIST.false c.enter_parts.ensures

pub returns-else-fields_fit : goal.returns-else-fields_fit
returns-else-fields_fit c =
    let v = c.args.panel.now in
    let s = met c.args.depths.now in
    let x = c.record_at-x in
    let is : c.if-depths-r-gt0.value ≡ record_met v s.depths c.args.r = elim c.if-depths-r-gt0.branch [
      | then-depths-r-gt0 w ↦ w.value-is ∙ met_fit v s c.args.r w.if-depths-r-gt0.true (w.fields_fit.ensures v c.args.r x.ensures c.requires.0.parts_are c.requires.0.pool_size)
      | else-depths-r-gt0 w ↦ w.value-is ∙ met_not v s c.args.r w.if-depths-r-gt0.false
    ] in
    ap (seen c.args.depths.now) c.if-fields_fit.false ∙ record_broke v s c.args.r (sym is ∙ c.if-fields_fit.false)
