-- `format_panel::texts::text_fits` meets its contract: each arm is the case of its kind.
use Rattle.std.proofs.Common.{rules, arith}
use Rattle.std.proofs.lemmas.Grind.{common_steps}
use Rattle.format_panel.specs.TextsLaws.{integer_text, bytes_text, other_kind}
use Rattle.format_panel.proofs.texts.text_fits.Goals as goal

pub returns-then-x-le-TEXT_MOST : goal.returns-then-x-le-TEXT_MOST
returns-then-x-le-TEXT_MOST c = rw (integer_text _ _ _ c.record_at-x.ensures _ c.requires.0 c.in-0.is) (grind (arith, common_steps))

pub returns-else-x-le-TEXT_MOST : goal.returns-else-x-le-TEXT_MOST
returns-else-x-le-TEXT_MOST c = rw (integer_text _ _ _ c.record_at-x.ensures _ c.requires.0 c.in-0.is) (grind (arith, common_steps))

pub returns-in-1 : goal.returns-in-1
returns-in-1 c = rw (bytes_text _ _ _ c.record_at-x.ensures c.in-1.is)

pub returns-in_default : goal.returns-in_default
returns-in_default c = search (rules, other_kind)
