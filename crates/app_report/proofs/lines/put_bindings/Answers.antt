-- `app_report::lines::put_bindings` meets its contract: the loop stands before the lines of the bindings that are left.
use Rattle.app_listing.specs.WritingLaws.{begun, begun_more, begun_all}
use Rattle.app_report.specs.LinesLaws.{lines_start, lines_next, lines_none}
use Rattle.app_report.proofs.lines.put_bindings.Goals as goal

pub loop-k-init : goal.loop-k-init
loop-k-init c = begun _ _ _ _ (lines_start _ _ _)

pub loop-k-preserved : goal.loop-k-preserved
loop-k-preserved c = begun_more c.loop-k.invariant c.put_binding-end.ensures _ (lines_next _ _ _ _ c.loop-k-test.true)

pub returns : goal.returns
returns c = begun_all c.loop-k.invariant (lines_none _ _ _ _ c.loop-k-test.false)
