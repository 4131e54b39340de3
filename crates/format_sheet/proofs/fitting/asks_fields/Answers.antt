use Rattle.format_sheet.specs.AskingLaws.{no_data, no_constructor, arguments_are}
use Rattle.format_sheet.proofs.fitting.asks_fields.Goals as goal

pub returns-then-ty-ne-DATA : goal.returns-then-ty-ne-DATA
returns-then-ty-ne-DATA c = no_data c.args.sheet.now c.args.r c.args.ty c.if-ty-ne-DATA.true

pub returns-then-ty-r : goal.returns-then-ty-r
returns-then-ty-r c = no_constructor c.args.sheet.now c.args.r c.args.ty c.if-ty-ne-DATA.false c.if-ty-r.true

pub returns : goal.returns
returns c = arguments_are c.args.sheet.now c.args.r c.args.ty c.if-ty-ne-DATA.false c.if-ty-r.false c.constructor_at-c.result c.constructor_at-c.ensures c.asks_each.ensures
