use Rattle.app_listing.specs.WritingLaws.{writes_nothing, writes_as}
use Rattle.app_listing.specs.RecordsLaws.{default_none, default_some}
use Rattle.app_listing.proofs.parts.put_default.Goals as goal

pub returns-then-default-eq0 : goal.returns-then-default-eq0
returns-then-default-eq0 c = writes_as (writes_nothing _ _) (default_none _ c.if-default-eq0.true)

pub returns : goal.returns
returns c = writes_as c.put_numbered.ensures (default_some _ c.if-default-eq0.false)
