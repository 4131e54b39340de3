use Rattle.format_sheet.specs.ShapeLaws.{above_known}
use Rattle.format_sheet.proofs.shape.is_above.Goals as goal

pub returns : goal.returns
returns c = above_known c.args.sheet.now c.requires.2 c.args.p c.args.j c.requires.3 c.child_at.ensures
