use mathlib.Core.Path.{ap, ◌∙◌}
use native.Mathlib.Omega.{arith}
use lib.ListN.{length}
use Rattle.build_table.specs.PlacingLaws.{length_placed_each, type_small, elements, tail_entry, tail_put, with_tail}
use Rattle.build_table.proofs.place_tailed.Goals as goal

pub overflow_add-r : goal.overflow_add-r
overflow_add-r c = omega (arith, tail_entry c.requires.0 c.requires.1, c.requires.0.checked.ok.is_counted.children_most_holds)

pub child_at-tail-requires : goal.child_at-tail-requires
child_at-tail-requires c = (c.requires.0.checked.ok.is_laid, c.requires.0.checked.is_map, tail_entry c.requires.0 c.requires.1)

pub put_children-requires : goal.put_children-requires
put_children-requires c = (c.requires.0.checked, c.requires.0.long, elements c.requires.0 c.requires.1)

pub put_child-requires : goal.put_child-requires
put_child-requires c =
    let w = tail_put c.requires.0 c.requires.1 c.child_at-tail.result c.child_at-tail.ensures in
    (ap length c.put_children.ensures ∙ length_placed_each _ _ _ _ _ _ _ _ _ ∙ c.requires.0.long, w.0, w.1, w.2, omega (arith, c.requires.2, type_small c.requires.0))

pub returns : goal.returns
returns c =
    let tail = c.child_at-tail in
    with_tail c.requires.0 c.requires.1 c.put_children.new.table c.put_child.new.table tail.result c.args.tipo tail.ensures c.requires.2 c.put_children.ensures c.put_child.ensures
