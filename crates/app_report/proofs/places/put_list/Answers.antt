-- `app_report::places::put_list` meets its contract: what is left of the list, or nothing.
use Rattle.app_listing.specs.WritingLaws.{writes_nothing, writes_as}
use Rattle.app_report.specs.PlacesLaws.{list_left, list_short}
use Rattle.app_report.proofs.places.put_list.Goals as goal

pub returns-then-count-dropped : goal.returns-then-count-dropped
returns-then-count-dropped c = writes_as (writes_nothing _ _) (list_short _ _ c.if-count-dropped.true)

pub returns : goal.returns
returns c = writes_as c.put_numbered.ensures (list_left _ _ c.if-count-dropped.false)
