use Rattle.std.proofs.Common.{◌∙◌}
use borrow.Author.Tests.{eq-eqb, lt-leb}
use Rattle.format_sheet.specs.ShapeLaws.{assign_has_children, low_has_none, high_has_children}
use Rattle.format_sheet.proofs.records.has_children.Goals as goal

pub returns-then-kind-eq-ASSIGN : goal.returns-then-kind-eq-ASSIGN
returns-then-kind-eq-ASSIGN c = eq-eqb _ _ c.if-kind-eq-ASSIGN.true ∙ assign_has_children c.args.kind c.if-kind-eq-ASSIGN.true

pub returns-then-kind-ge-LIST : goal.returns-then-kind-ge-LIST
returns-then-kind-ge-LIST c = high_has_children c.args.kind c.if-kind-ge-LIST.true

pub returns-else-kind-ge-LIST : goal.returns-else-kind-ge-LIST
returns-else-kind-ge-LIST c = lt-leb _ _ c.if-kind-ge-LIST.false ∙ low_has_none c.args.kind c.if-kind-eq-ASSIGN.false c.if-kind-ge-LIST.false
