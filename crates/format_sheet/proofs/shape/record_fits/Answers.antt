use Rattle.std.proofs.Common.{arith}
use Rattle.format_sheet.specs.ShapeLaws.{record_read, tail_room}
use Rattle.format_sheet.proofs.shape.record_fits.Goals as goal

pub tail_fits-requires-clause-le_count : goal.tail_fits-requires-clause-le_count
tail_fits-requires-clause-le_count c = grind (arith, tail_room c.args.sheet.now c.args.map c.requires.1 c.args.p c.pattern_at-r.result c.pattern_at-r.ensures)

pub returns-then-r-ne-LIST_WITH_TAIL : goal.returns-then-r-ne-LIST_WITH_TAIL
returns-then-r-ne-LIST_WITH_TAIL c = grind (arith, record_read c.args.sheet.now c.args.map c.requires.1 c.args.p c.pattern_at-r.result c.pattern_at-r.ensures)

pub returns-else-r-ne-LIST_WITH_TAIL : goal.returns-else-r-ne-LIST_WITH_TAIL
returns-else-r-ne-LIST_WITH_TAIL c = grind (arith, record_read c.args.sheet.now c.args.map c.requires.1 c.args.p c.pattern_at-r.result c.pattern_at-r.ensures)

pub returns-else-fields_fit : goal.returns-else-fields_fit
returns-else-fields_fit c = grind (arith, record_read c.args.sheet.now c.args.map c.requires.1 c.args.p c.pattern_at-r.result c.pattern_at-r.ensures)
