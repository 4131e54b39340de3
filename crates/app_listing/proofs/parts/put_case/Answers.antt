use Rattle.app_listing.specs.WritingLaws.{writes_then, writes_as}
use Rattle.app_listing.specs.RecordsLaws.{case_inside, case_line_lem}
use Rattle.app_listing.proofs.parts.put_case.Goals as goal

pub put_test-end-requires : goal.put_test-end-requires
put_test-end-requires c =
    (c.requires.0.mapped, case_inside c.requires.0 c.args.i c.requires.1 _ c.case_at-case.ensures)

pub returns : goal.returns
returns c =
    writes_as (writes_then c.put-space.ensures (writes_then c.put_test-end.ensures (writes_then c.put-colon.ensures c.put_decimal.ensures)))
    (case_line_lem c.requires.0 c.args.i c.requires.1 _ c.case_at-case.ensures)
