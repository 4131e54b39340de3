-- `format_panel::layout::map_of` meets its contract: each section reaches from its start to the next, and a laid panel has none that ends before it starts.
-- Rests on the law that makes the map of such sections.
use native.Mathlib.Omega.{arith}
use Rattle.spec_rules.specs.PanelFile.{records_at, parts_at, panel_pool_at, panel_pool_end}
use Rattle.format_panel.specs.LayoutLaws.{map_read}
use Rattle.spec_rules.specs.PanelFile.{panel_start}
use Rattle.format_panel.proofs.layout.map_of.Goals as goal

pub section_of-requires : goal.section_of-requires
unfolding records_at parts_at panel_start
section_of-requires c = (omega (arith, c.requires.records_end), omega arith)

pub section_of-requires-2 : goal.section_of-requires-2
unfolding parts_at panel_pool_at panel_start
section_of-requires-2 c = (omega (arith, c.requires.parts_end), omega arith)

pub section_of-requires-3 : goal.section_of-requires-3
unfolding panel_pool_at panel_pool_end panel_start
section_of-requires-3 c = (omega (arith, c.requires.pool_end_holds), omega arith)

pub returns : goal.returns
unfolding panel_start
returns c =
    map_read c.args.panel.now c.start-records_at.result c.start-parts_at.result c.start-pool_at.result
    c.start-records_at.ensures c.start-parts_at.ensures c.start-pool_at.ensures
    c.section_of.result c.section_of-2.result c.section_of-3.result
    c.section_of.ensures c.section_of-2.ensures c.section_of-3.ensures
