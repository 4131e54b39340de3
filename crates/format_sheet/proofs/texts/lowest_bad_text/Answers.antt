use Rattle.std.proofs.Common.{◌∙◌, rules}
use Rattle.std.proofs.Math.Path.{refl}
use Rattle.spec_rules.specs.SheetFile.{patterns}
use Rattle.spec_rules.specs.SheetRefusals.{bad_text, lowest_bad_text}
use Rattle.spec_rules.proofs.Ranges.{find_below, kept_by_map}
use Rattle.format_sheet.specs.SectionsLaws.{mapped}
use Rattle.format_sheet.proofs.texts.lowest_bad_text.Goals as goal

pub returns : goal.returns
unfolding lowest_bad_text
returns c =
    let a = c.args in
    kept_by_map c.find.result c.map.result c.map.ensures.cases (λ x y e. search rules)
    ∙ find_below (bad_text a.sheet.now) _ (patterns a.sheet.now) c.find.ensures.ran refl (mapped a.sheet.now a.map c.requires.1).of_patterns (λ x b q e. search rules)
