-- `format_panel::texts::texts_fit` meets its contract: what `all` answers over the records.
use Rattle.std.proofs.Common.{rules}
use Rattle.std.proofs.Math.Path.{refl}
use Rattle.spec_rules.specs.PanelFile.{record_text_fits, panel_texts_fit}
use Rattle.spec_rules.proofs.Ranges.{all_below}
use Rattle.format_panel.proofs.texts.texts_fit.Goals as goal

pub returns : goal.returns
unfolding panel_texts_fit
returns c = all_below (record_text_fits c.args.panel.now) _ c.all.ensures.ran refl c.requires.0.records_are (λ x b q e. search rules)
