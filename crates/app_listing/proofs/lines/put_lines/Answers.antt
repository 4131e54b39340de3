use Rattle.app_listing.specs.WritingLaws.{begun, begun_more, begun_all, begun_full}
use Rattle.app_listing.specs.RecordsLaws.{lines_start, lines_next, lines_none}
use Rattle.app_listing.proofs.lines.put_lines.Goals as goal

pub loop-k-init : goal.loop-k-init
loop-k-init c = begun _ _ _ _ (lines_start _ _)

pub returns-then-out-end : goal.returns-then-out-end
returns-then-out-end c = begun_full (begun_more c.loop-k.invariant c.put_line-end.ensures _ (lines_next _ _ _ c.loop-k-test.true)) c.if-out-end.true

pub loop-k-preserved : goal.loop-k-preserved
loop-k-preserved c = begun_more c.loop-k.invariant c.put_line-end.ensures _ (lines_next _ _ _ c.loop-k-test.true)

pub returns : goal.returns
returns c = begun_all c.loop-k.invariant (lines_none _ _ _ c.loop-k-test.false)
