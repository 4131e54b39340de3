-- `app_report::lines::put_stuck` meets its contract: the line's four parts, one behind the other.
use Rattle.app_listing.specs.WritingLaws.{writes_then, writes_as}
use Rattle.app_report.specs.LinesLaws.{stuck_is}
use Rattle.app_report.proofs.lines.put_stuck.Goals as goal

pub returns : goal.returns
returns c =
    let a = c.args in
    writes_as
    (writes_then (rw c.number.ensures at c.put_numbered-number.ensures) (writes_then c.put_numbered-node_end.ensures (writes_then c.put_numbered-step_end.ensures c.put.ensures)))
    (stuck_is a.node a.step)
