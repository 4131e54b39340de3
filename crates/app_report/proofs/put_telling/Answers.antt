-- A panel that fits is walked, and a refusal of the fit check is told.
use Rattle.app_listing.specs.WritingLaws.{writes_as}
use Rattle.app_report.specs.AnswersLaws.{fit_accepted, told_built, told_refused}
use Rattle.app_report.proofs.put_telling.Goals as goal

pub put_built-requires : goal.put_built-requires
put_built-requires c = fit_accepted _ _ c.fit.result c.fit.ensures c.in-Ok.is

pub returns-in-Ok : goal.returns-in-Ok
returns-in-Ok c = writes_as c.put_built.ensures (told_built c.args.sheet.now c.args.panel.now c.fit.result c.fit.ensures c.in-Ok.is)

pub returns-in-Err : goal.returns-in-Err
returns-in-Err c =
    writes_as (rw c.number.ensures at c.put_refused.ensures)
    (told_refused c.args.sheet.now c.args.panel.now c.fit.result c.fit.ensures c.in-Err.refusal c.in-Err.is)
