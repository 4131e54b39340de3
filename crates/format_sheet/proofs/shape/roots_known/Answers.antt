use Rattle.std.proofs.Common.{rules}
use Rattle.std.proofs.Math.Path.{refl}
use Rattle.spec_rules.specs.SheetFile.{clauses}
use Rattle.spec_rules.specs.SheetRefusals.{root_keeps_rules}
use Rattle.spec_rules.proofs.Ranges.{all_below}
use Rattle.format_sheet.specs.SectionsLaws.{mapped}
use Rattle.format_sheet.proofs.shape.roots_known.Goals as goal

pub returns : goal.returns
returns c =
    let a = c.args in
    all_below (root_keeps_rules a.sheet.now) (clauses a.sheet.now) c.all.ensures.ran refl (mapped a.sheet.now a.map c.requires.1).of_clauses (λ x b q e. search rules)
