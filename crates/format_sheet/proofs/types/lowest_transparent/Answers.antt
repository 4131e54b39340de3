use Rattle.std.proofs.Common.{◌∙◌, rules}
use Rattle.std.proofs.Math.Path.{refl}
use Rattle.spec_rules.specs.SheetFile.{types}
use Rattle.spec_rules.specs.SheetRefusals.{transparent, lowest_transparent}
use Rattle.spec_rules.proofs.Ranges.{find_below, kept_by_map}
use Rattle.format_sheet.specs.SectionsLaws.{mapped}
use Rattle.format_sheet.proofs.types.lowest_transparent.Goals as goal

pub returns : goal.returns
unfolding lowest_transparent
returns c =
    let a = c.args in
    kept_by_map c.find.result c.map.result c.map.ensures.cases (λ x y e. search rules)
    ∙ find_below (transparent a.sheet.now) _ (types a.sheet.now) c.find.ensures.ran refl (mapped a.sheet.now a.map c.requires.3).of_types (λ x b q e. search rules)
