use native.Mathlib.Omega.{arith}
use Rattle.std.proofs.Common.{rules}
use Rattle.build_table.specs.PlacingLaws.{constructor_known, fields_of_parts, fields_placed}
use Rattle.build_table.proofs.place_fields.Goals as goal

pub overflow_add-ty : goal.overflow_add-ty
overflow_add-ty c = omega (arith, constructor_known c.requires.0 c.requires.1, c.requires.0.checked.ok.is_counted.constructors_most_holds)

pub constructor_at-fields-requires : goal.constructor_at-fields-requires
constructor_at-fields-requires c = (c.requires.0.checked.ok.is_laid, c.requires.0.checked.is_map, constructor_known c.requires.0 c.requires.1)

pub put_children-requires : goal.put_children-requires
put_children-requires c =
    (c.requires.0.checked, c.requires.0.long, fields_of_parts c.requires.0 c.constructor_at-fields.result c.constructor_at-fields.ensures c.requires.1)

pub returns : goal.returns
returns c =
    let run = c.constructor_at-fields in
    let one = c.one_constructor in
    fields_placed c.requires.0 run.result run.ensures one.result c.put_children.new.table _ one.ensures (search rules) c.put_children.ensures
