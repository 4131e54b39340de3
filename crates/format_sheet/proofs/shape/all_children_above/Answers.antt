use Rattle.std.proofs.Common.{rules}
use Rattle.std.proofs.Math.Path.{refl}
use Rattle.spec_rules.specs.SheetFile.{patterns}
use Rattle.format_sheet.specs.Shape.{all_above}
use Rattle.spec_rules.proofs.Ranges.{all_below}
use Rattle.format_sheet.specs.SectionsLaws.{mapped}
use Rattle.format_sheet.proofs.shape.all_children_above.Goals as goal

pub returns : goal.returns
returns c =
    let a = c.args in
    all_below (all_above a.sheet.now) (patterns a.sheet.now) c.all.ensures.ran refl (mapped a.sheet.now a.map c.requires.1).of_patterns (λ x b q e. search rules)
