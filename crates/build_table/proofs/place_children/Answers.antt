use mathlib.Core.Path.{◌∙◌}
use native.Mathlib.Omega.{arith}
use Rattle.build_table.specs.TypesLaws.{type_known}
use Rattle.build_table.specs.PlacingLaws.{reading_here, type_small, list_of_parts, pair_of_parts, tuple_of_parts, assign_entry, assign_put, assign_placed, list_placed, tailed_placed, constructor_placed, pair_placed, tuple_placed, none_placed}
use Rattle.build_table.proofs.place_children.Goals as goal

pub type_at-ty-requires : goal.type_at-ty-requires
type_at-ty-requires c =
    (c.requires.0.ok.is_laid, c.requires.0.is_map, omega (arith, c.at-tipo.ensures, c.requires.3.type, type_known c.requires.0.ok c.args.p c.requires.2))

pub child_at-requires : goal.child_at-requires
child_at-requires c =
    let rd = reading_here c.requires.0 c.requires.1 c.requires.2 c.requires.3 c.pattern_at-r.ensures c.at-tipo.ensures c.type_at-ty.ensures in
    (rd.checked.ok.is_laid, rd.checked.is_map, assign_entry rd c.in-2.is)

pub put_child-requires : goal.put_child-requires
put_child-requires c =
    let rd = reading_here c.requires.0 c.requires.1 c.requires.2 c.requires.3 c.pattern_at-r.ensures c.at-tipo.ensures c.type_at-ty.ensures in
    let w = assign_put rd c.in-2.is c.child_at.result c.child_at.ensures in
    (rd.long, w.0, w.1, omega arith, omega (arith, c.at-tipo.ensures, c.requires.3.type, type_small rd))

pub put_children-requires : goal.put_children-requires
put_children-requires c =
    let rd = reading_here c.requires.0 c.requires.1 c.requires.2 c.requires.3 c.pattern_at-r.ensures c.at-tipo.ensures c.type_at-ty.ensures in
    (rd.checked, rd.long, list_of_parts rd c.in-5.is)

pub put_children-requires-in-8 : goal.put_children-requires-in-8
put_children-requires-in-8 c =
    let rd = reading_here c.requires.0 c.requires.1 c.requires.2 c.requires.3 c.pattern_at-r.ensures c.at-tipo.ensures c.type_at-ty.ensures in
    (rd.checked, rd.long, pair_of_parts rd c.in-8.is)

pub put_children-requires-in-9 : goal.put_children-requires-in-9
put_children-requires-in-9 c =
    let rd = reading_here c.requires.0 c.requires.1 c.requires.2 c.requires.3 c.pattern_at-r.ensures c.at-tipo.ensures c.type_at-ty.ensures in
    (rd.checked, rd.long, tuple_of_parts rd c.in-9.is)

pub returns-in-2 : goal.returns-in-2
returns-in-2 c =
    let rd = reading_here c.requires.0 c.requires.1 c.requires.2 c.requires.3 c.pattern_at-r.ensures c.at-tipo.ensures c.type_at-ty.ensures in
    assign_placed rd c.in-2.is c.put_child.new.table c.child_at.result c.at-tipo.result c.child_at.ensures (c.at-tipo.ensures ∙ c.requires.3.type) c.put_child.ensures

pub returns-in-5 : goal.returns-in-5
returns-in-5 c =
    let rd = reading_here c.requires.0 c.requires.1 c.requires.2 c.requires.3 c.pattern_at-r.ensures c.at-tipo.ensures c.type_at-ty.ensures in
    list_placed rd c.put_children.new.table c.in-5.is c.put_children.ensures

pub returns-in-6 : goal.returns-in-6
returns-in-6 c =
    let rd = reading_here c.requires.0 c.requires.1 c.requires.2 c.requires.3 c.pattern_at-r.ensures c.at-tipo.ensures c.type_at-ty.ensures in
    tailed_placed rd c.place_tailed.new.table c.in-6.is c.place_tailed.ensures

pub returns-in-7 : goal.returns-in-7
returns-in-7 c =
    let rd = reading_here c.requires.0 c.requires.1 c.requires.2 c.requires.3 c.pattern_at-r.ensures c.at-tipo.ensures c.type_at-ty.ensures in
    constructor_placed rd c.place_fields.new.table c.in-7.is c.place_fields.ensures

pub returns-in-8 : goal.returns-in-8
returns-in-8 c =
    let rd = reading_here c.requires.0 c.requires.1 c.requires.2 c.requires.3 c.pattern_at-r.ensures c.at-tipo.ensures c.type_at-ty.ensures in
    pair_placed rd c.put_children-in-8.new.table c.in-8.is c.put_children-in-8.ensures

pub returns-in-9 : goal.returns-in-9
returns-in-9 c =
    let rd = reading_here c.requires.0 c.requires.1 c.requires.2 c.requires.3 c.pattern_at-r.ensures c.at-tipo.ensures c.type_at-ty.ensures in
    tuple_placed rd c.put_children-in-9.new.table c.in-9.is c.put_children-in-9.ensures

pub returns-in_default : goal.returns-in_default
returns-in_default c =
    let rd = reading_here c.requires.0 c.requires.1 c.requires.2 c.requires.3 c.pattern_at-r.ensures c.at-tipo.ensures c.type_at-ty.ensures in
    none_placed rd (λ e. omega arith) (λ e. omega arith) (λ e. omega arith) (λ e. omega arith) (λ e. omega arith) (λ e. omega arith)
