use Rattle.app_listing.specs.WritingLaws.{writes_as}
use Rattle.app_listing.specs.RecordsLaws.{refused_line_is}
use Rattle.app_listing.proofs.lines.put_refused.Goals as goal

pub returns : goal.returns
returns c = writes_as c.put_two_numbers.ensures (refused_line_is _ _)
