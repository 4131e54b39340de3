-- `format_panel::records::part_at` meets its contract: a part of an open panel lies before the trailer.
use Rattle.format_panel.specs.ShapeSteps.{part_read}
use Rattle.format_panel.proofs.records.part_at.Goals as goal

pub returns : goal.returns
returns c = let a = c.args in part_read a.panel.now a.map c.requires.0 a.j c.word_at.result c.word_at.ensures
