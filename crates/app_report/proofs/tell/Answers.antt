-- All of the text, or zeros where it has no room.
use Rattle.app_listing.specs.AnswersLaws.{ended}
use Rattle.app_io.specs.ShownLaws.{shows}
use Rattle.app_report.proofs.tell.Goals as goal

pub returns : goal.returns
returns c = shows _ _ _ _ (ended _ _ c.zero_all.ensures c.put_telling-end.ensures c.written.ensures)
