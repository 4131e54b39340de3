use Rattle.app_listing.specs.WritingLaws.{writes_then, writes_as}
use Rattle.app_listing.specs.RecordsLaws.{listing_is}
use Rattle.app_listing.proofs.lines.put_listing.Goals as goal

pub returns : goal.returns
returns c = writes_as (writes_then c.put_two_numbers-end.ensures c.put_lines.ensures) (listing_is c.requires.mapped)
