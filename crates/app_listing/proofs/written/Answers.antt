use Rattle.app_listing.specs.AnswersLaws.{all_there, none_there}
use Rattle.app_listing.proofs.written.Goals as goal

pub returns-then-out-end : goal.returns-then-out-end
returns-then-out-end c = λ room text w. none_there room w c.if-out-end.true _ c.zero_all.ensures

pub returns : goal.returns
returns c = λ room text w. all_there room w c.if-out-end.false
