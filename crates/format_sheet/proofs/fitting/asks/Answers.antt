use Rattle.format_sheet.specs.AskingLaws.{discard_asks, variable_asks, assign_asks, integer_asks, bytes_asks, list_asks, rest_asks, constructor_asks, pair_asks, tuple_asks, assign_child}
use Rattle.format_sheet.proofs.fitting.asks.Goals as goal

pub child_at-requires : goal.child_at-requires
child_at-requires c = (c.requires.0.is_laid, c.requires.0.is_map, assign_child c.args.sheet.now c.args.p c.args.t c.pattern_at-r.result c.pattern_at-r.ensures c.type_at-ty.result c.type_at-ty.ensures c.requires.0.is_shaped c.requires.1 c.in-2.is)

pub returns-in-0 : goal.returns-in-0
returns-in-0 c = discard_asks c.args.sheet.now c.args.p c.args.t c.pattern_at-r.result c.pattern_at-r.ensures c.type_at-ty.result c.type_at-ty.ensures c.in-0.is

pub returns-in-1 : goal.returns-in-1
returns-in-1 c = variable_asks c.args.sheet.now c.args.p c.args.t c.pattern_at-r.result c.pattern_at-r.ensures c.type_at-ty.result c.type_at-ty.ensures c.in-1.is

pub returns-in-2 : goal.returns-in-2
returns-in-2 c = assign_asks c.args.sheet.now c.args.p c.args.t c.pattern_at-r.result c.pattern_at-r.ensures c.type_at-ty.result c.type_at-ty.ensures c.in-2.is c.child_at.ensures

pub returns-in-3 : goal.returns-in-3
returns-in-3 c = integer_asks c.args.sheet.now c.args.p c.args.t c.pattern_at-r.result c.pattern_at-r.ensures c.type_at-ty.result c.type_at-ty.ensures c.in-3.is

pub returns-in-4 : goal.returns-in-4
returns-in-4 c = bytes_asks c.args.sheet.now c.args.p c.args.t c.pattern_at-r.result c.pattern_at-r.ensures c.type_at-ty.result c.type_at-ty.ensures c.in-4.is

pub returns-in-5 : goal.returns-in-5
returns-in-5 c = list_asks c.args.sheet.now c.args.p c.args.t c.pattern_at-r.result c.pattern_at-r.ensures c.type_at-ty.result c.type_at-ty.ensures c.in-5.is c.asks_each.ensures

pub returns-in-6 : goal.returns-in-6
returns-in-6 c = rest_asks c.args.sheet.now c.args.p c.args.t c.pattern_at-r.result c.pattern_at-r.ensures c.type_at-ty.result c.type_at-ty.ensures c.in-6.is c.asks_each-in-6.ensures

pub returns-in-7 : goal.returns-in-7
returns-in-7 c = constructor_asks c.args.sheet.now c.args.p c.args.t c.pattern_at-r.result c.pattern_at-r.ensures c.type_at-ty.result c.type_at-ty.ensures c.in-7.is c.asks_fields.ensures

pub returns-in-8 : goal.returns-in-8
returns-in-8 c = pair_asks c.args.sheet.now c.args.p c.args.t c.pattern_at-r.result c.pattern_at-r.ensures c.type_at-ty.result c.type_at-ty.ensures c.in-8.is c.asks_parts.ensures

pub returns-in-9 : goal.returns-in-9
returns-in-9 c = tuple_asks c.args.sheet.now c.args.p c.args.t c.pattern_at-r.result c.pattern_at-r.ensures c.type_at-ty.result c.type_at-ty.ensures c.in-9.is c.asks_parts-in-9.ensures
