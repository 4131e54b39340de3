-- `format_panel::records::record_at` meets its contract: a record of a laid panel lies before the trailer, and the records start at 0.
use Rattle.format_panel.specs.LayoutLaws.{record_read}
use Rattle.format_panel.proofs.records.record_at.Goals as goal

pub returns : goal.returns
returns c =
    let a = c.args in
    record_read a.panel.now a.r c.word_at.result c.word_at-2.result c.word_at-3.result c.requires.0 c.word_at.ensures
    c.word_at-2.ensures c.word_at-3.ensures
