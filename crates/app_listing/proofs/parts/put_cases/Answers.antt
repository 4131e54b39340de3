use Rattle.app_listing.specs.WritingLaws.{begun, begun_more, begun_all}
use Rattle.app_listing.specs.RecordsLaws.{run_start, cases_next, cases_none}
use Rattle.spec_rules.specs.Listing.{cases_text}
use Rattle.app_listing.proofs.parts.put_cases.Goals as goal

pub loop-j-init : goal.loop-j-init
loop-j-init c = begun _ _ _ _ (run_start (cases_text _) _ _)

pub loop-j-preserved : goal.loop-j-preserved
loop-j-preserved c = begun_more c.loop-j.invariant c.put_case-end.ensures _ (cases_next _ _ _ _ c.loop-j-test.true)

pub returns : goal.returns
returns c = begun_all c.loop-j.invariant (cases_none _ _ _ _ c.loop-j-test.false)
