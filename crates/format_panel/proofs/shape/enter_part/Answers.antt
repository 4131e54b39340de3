-- `format_panel::shape::enter_part` meets its contract: the step's test as the entry was read.
use Rattle.std.proofs.Common.{arith}
use Rattle.std.proofs.lemmas.Grind.{common_steps}
use Rattle.format_panel.specs.Shape.{met}
use Rattle.format_panel.specs.ShapeSteps.{entry}
use Rattle.format_panel.proofs.shape.enter_part.Goals as goal

pub returns-then-enters : goal.returns-then-enters
returns-then-enters c = rw (entry c.args.panel.now (met c.args.depths.now) c.args.r c.args.j _ _ c.part_at-p.ensures c.requires.0.records_are) (grind (arith, common_steps))

pub returns-else-enters : goal.returns-else-enters
returns-else-enters c = rw (entry c.args.panel.now (met c.args.depths.now) c.args.r c.args.j _ _ c.part_at-p.ensures c.requires.0.records_are) (grind (arith, common_steps))
