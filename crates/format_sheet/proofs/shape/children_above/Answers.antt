use Rattle.std.proofs.Common.{◌∙◌, rules}
use Rattle.std.proofs.Math.Path.{refl}
use Rattle.spec_rules.specs.SheetRefusals.{is_above}
use Rattle.spec_rules.proofs.Ranges.{all_from}
use Rattle.format_sheet.specs.Shape.{all_above}
use Rattle.format_sheet.specs.ShapeLaws.{every_of_children}
use Rattle.format_sheet.proofs.shape.children_above.Goals as goal

pub returns : goal.returns
unfolding all_above
returns c =
    let a = c.args in
    let run = c.children_of-run in
    all_from (is_above a.sheet.now a.p) run.result.first run.result.count c.all.ensures.ran refl refl (λ x b q e. search rules)
    ∙ every_of_children a.sheet.now a.p run.result run.ensures (is_above a.sheet.now a.p)
