-- `format_panel::layout::layout_fits` meets its contract: the definition, with the starts as they were read, and each test on the way.
use Rattle.std.proofs.Common.{arith}
use Rattle.std.proofs.lemmas.Grind.{common_steps}
use Rattle.format_panel.specs.LayoutLaws.{layout_read}
use Rattle.spec_rules.specs.PanelFile.{panel_start}
use Rattle.format_panel.proofs.layout.layout_fits.Goals as goal

pub returns-then-parts_at-ge1 : goal.returns-then-parts_at-ge1
unfolding panel_start
returns-then-parts_at-ge1 c =
    rw (← layout_read c.args.panel.now _ _ _ c.start-records_at.ensures c.start-parts_at.ensures c.start-pool_at.ensures) (grind (arith, common_steps))

pub returns-else-parts_at-ge1 : goal.returns-else-parts_at-ge1
unfolding panel_start
returns-else-parts_at-ge1 c =
    rw (← layout_read c.args.panel.now _ _ _ c.start-records_at.ensures c.start-parts_at.ensures c.start-pool_at.ensures) (grind (arith, common_steps))
