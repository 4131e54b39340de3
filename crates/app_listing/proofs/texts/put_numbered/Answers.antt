use Rattle.app_listing.specs.WritingLaws.{writes_then}
use Rattle.app_listing.proofs.texts.put_numbered.Goals as goal

pub returns : goal.returns
returns c = writes_then c.put_text-end.ensures c.put_decimal.ensures
