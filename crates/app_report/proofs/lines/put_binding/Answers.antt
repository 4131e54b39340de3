-- `app_report::lines::put_binding` meets its contract: the parts of the line, one behind the other.
use Rattle.app_listing.specs.WritingLaws.{writes_then, writes_as}
use Rattle.app_report.specs.LinesLaws.{binding_is}
use Rattle.app_report.proofs.lines.put_binding.Goals as goal

pub returns : goal.returns
returns c =
    let a = c.args in
    writes_as
    (writes_then c.put_numbered-name_end.ensures
    (writes_then c.put_numbered-record_end.ensures
    (writes_then c.put_numbered-dropped_end.ensures
    (writes_then c.put_place-end.ensures
    c.put.ensures))))
    (binding_is a.panel.now a.name a.r a.dropped)
