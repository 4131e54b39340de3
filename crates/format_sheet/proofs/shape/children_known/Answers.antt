use Rattle.std.proofs.Common.{rules}
use Rattle.std.proofs.Math.Path.{refl}
use Rattle.spec_rules.specs.SheetFile.{children}
use Rattle.format_sheet.specs.Shape.{child_known}
use Rattle.spec_rules.proofs.Ranges.{all_below}
use Rattle.format_sheet.specs.SectionsLaws.{mapped}
use Rattle.format_sheet.proofs.shape.children_known.Goals as goal

pub returns : goal.returns
returns c =
    let a = c.args in
    all_below (child_known a.sheet.now) (children a.sheet.now) c.all.ensures.ran refl (mapped a.sheet.now a.map c.requires.1).of_children (λ x b q e. search rules)
