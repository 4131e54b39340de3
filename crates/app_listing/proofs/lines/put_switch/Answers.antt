use Rattle.app_listing.specs.WritingLaws.{writes_then}
use Rattle.app_listing.proofs.lines.put_switch.Goals as goal

pub returns : goal.returns
returns c = writes_then c.put-space.ensures (writes_then c.put_path-path_end.ensures (writes_then c.put_cases-cases_end.ensures c.put_default.ensures))
