-- `fit::fit` meets its contract: the refusal of the sheet's check, or of the panel's, or 25.
use Rattle.std.proofs.Common.{rules}
use Rattle.fit.specs.AnswersLaws.{fit_sheet_refused, fit_panel_refused, fit_last, fit_ready}
use Rattle.fit.proofs.fit.Goals as goal

pub returns-in_err-map : goal.returns-in_err-map
returns-in_err-map c = search (rules, fit_sheet_refused)

pub returns-in_err-places : goal.returns-in_err-places
returns-in_err-places c = search (rules, fit_panel_refused)

pub fits-requires : goal.fits-requires
fits-requires c =
    let sheet = c.in_ok-map in
    let panel = c.in_ok-places in
    fit_ready c.args.sheet.now c.args.panel.now sheet.ensures.verdict panel.ensures.verdict sheet.map panel.places sheet.ensures.map panel.ensures.map

pub returns : goal.returns
returns c = search (rules, fit_last)
