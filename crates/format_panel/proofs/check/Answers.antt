-- `format_panel::check` meets its contract: each condition that holds opens what the next one asks.
use Rattle.std.proofs.Common.{rules, ◌≡◌, true, leb-true}
use Rattle.base_words.specs.WordsLaws.{both_true}
use Rattle.spec_rules.specs.PanelFile.{panel_verdict, panel_length_fits}
use Rattle.spec_accepted.specs.PanelFacts.{panel_laid, panel_shaped}
use Rattle.format_parts.specs.RefusalsLaws.{passes, stops}
use Rattle.format_panel.specs.Opened.{opened}
use Rattle.format_panel.proofs.check.Goals as goal

pub returns-in_err-require-clause-verdict : goal.returns-in_err-require-clause-verdict
unfolding panel_verdict
returns-in_err-require-clause-verdict c = search (rules, stops, passes)

pub layout_fits-requires : goal.layout_fits-requires
unfolding panel_length_fits
layout_fits-requires c =
    let long : panel_length_fits c.args.panel.now ≡ true = search (rules, passes) in
    leb-true _ _ (both_true _ _ long).0

pub returns-in_err-require-2-clause-verdict : goal.returns-in_err-require-2-clause-verdict
unfolding panel_verdict
returns-in_err-require-2-clause-verdict c = search (rules, stops, passes)

pub map_of-map-requires : goal.map_of-map-requires
map_of-map-requires c = search (rules, panel_laid, passes)

pub shape_fits-requires : goal.shape_fits-requires
shape_fits-requires c = search (rules, opened, panel_laid, passes)

pub returns-in_err-require-3-clause-verdict : goal.returns-in_err-require-3-clause-verdict
unfolding panel_verdict
returns-in_err-require-3-clause-verdict c = search (rules, stops, passes)

pub texts_fit-requires : goal.texts_fit-requires
texts_fit-requires c = search (rules, opened, panel_laid, panel_shaped, passes)

pub returns-in_err-require-4-clause-verdict : goal.returns-in_err-require-4-clause-verdict
unfolding panel_verdict
returns-in_err-require-4-clause-verdict c = search (rules, stops, passes)

pub returns-clause-verdict : goal.returns-clause-verdict
unfolding panel_verdict
returns-clause-verdict c = search (rules, passes)
