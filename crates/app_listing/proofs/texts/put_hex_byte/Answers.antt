use Rattle.app_listing.specs.TextsLaws.{hex_byte}
use Rattle.app_listing.specs.WritingLaws.{writes_then, writes_as}
use Rattle.app_listing.proofs.texts.put_hex_byte.Goals as goal

pub returns : goal.returns
returns c = writes_as (writes_then c.put-end.ensures c.put.ensures)
    (hex_byte _ _ _ c.hex_digit.ensures c.hex_digit-2.ensures)
