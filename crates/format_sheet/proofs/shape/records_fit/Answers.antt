use Rattle.std.proofs.Common.{rules}
use Rattle.std.proofs.Math.Path.{refl}
use Rattle.spec_rules.specs.SheetFile.{patterns}
use Rattle.format_sheet.specs.Shape.{record_fits}
use Rattle.spec_rules.proofs.Ranges.{all_below}
use Rattle.format_sheet.specs.SectionsLaws.{mapped}
use Rattle.format_sheet.proofs.shape.records_fit.Goals as goal

pub returns : goal.returns
returns c =
    let a = c.args in
    all_below (record_fits a.sheet.now) (patterns a.sheet.now) c.all.ensures.ran refl (mapped a.sheet.now a.map c.requires.1).of_patterns (λ x b q e. search rules)
