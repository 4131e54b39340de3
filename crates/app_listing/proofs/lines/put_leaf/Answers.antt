use Rattle.app_listing.specs.WritingLaws.{writes_then}
use Rattle.app_listing.proofs.lines.put_leaf.Goals as goal

pub returns : goal.returns
returns c = writes_then c.put_numbered-end.ensures c.put_bindings.ensures
