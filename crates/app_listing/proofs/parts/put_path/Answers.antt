use Rattle.app_listing.specs.WritingLaws.{writes_then, writes_as}
use Rattle.app_listing.specs.RecordsLaws.{path_none, path_some, path_inside}
use native.Mathlib.Omega.{arith}
use Rattle.app_listing.proofs.parts.put_path.Goals as goal

pub returns-then-count-eq0 : goal.returns-then-count-eq0
returns-then-count-eq0 c = writes_as c.put.ensures (path_none _ _ _ c.path_at-path.ensures c.if-count-eq0.true)

pub put_step-end-requires : goal.put_step-end-requires
put_step-end-requires c = (c.requires.0, omega (arith, path_inside _ _ _ c.path_at-path.ensures c.requires.0 c.requires.1, c.if-count-eq0.false))

pub put_more_steps-requires : goal.put_more_steps-requires
put_more_steps-requires c = (c.requires.0, omega (arith, path_inside _ _ _ c.path_at-path.ensures c.requires.0 c.requires.1, c.if-count-eq0.false))

pub returns : goal.returns
returns c = writes_as (writes_then c.put_step-end.ensures c.put_more_steps.ensures) (path_some _ _ _ c.path_at-path.ensures c.if-count-eq0.false)
