use Rattle.app_listing.specs.AnswersLaws.{ended}
use Rattle.app_listing.proofs.refused_line.Goals as goal

pub returns : goal.returns
returns c = ended _ _ c.zero_all.ensures c.put_refused-end.ensures c.written.ensures
