-- `app_report::lines::put_leaf` meets its contract: the line of the clause, and the lines of the bindings behind it.
use Rattle.app_listing.specs.WritingLaws.{writes_then, writes_as}
use Rattle.app_report.specs.LinesLaws.{leaf_is}
use Rattle.app_report.proofs.lines.put_leaf.Goals as goal

pub returns : goal.returns
returns c =
    writes_as
    (writes_then c.put_numbered-number.ensures (writes_then c.put-line.ensures c.put_bindings.ensures))
    (leaf_is c.args.leaf.clause _)
