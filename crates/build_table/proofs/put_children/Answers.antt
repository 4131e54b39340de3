use mathlib.Core.Path.{sym, ◌∙◌}
use native.Mathlib.Omega.{arith}
use Rattle.build_table.specs.PlacingLaws.{placed_each_on, placed_each_end}
use Rattle.build_table.proofs.put_children.Goals as goal

pub loop-i-preserved : goal.loop-i-preserved
loop-i-preserved c =
    let a = c.args in
    placed_each_on a.sheet.now a.p a.step a.types.first a.types.stride a.owner a.types.count c.loop-i.table _ c.loop-i.i _ _ _ (omega arith) c.pattern_at-r.ensures c.child_at.ensures c.entry_at.ensures c.put_child.ensures
    ∙ c.loop-i.invariant

pub returns : goal.returns
returns c =
    let a = c.args in
    sym (placed_each_end a.sheet.now a.p a.step a.types.first a.types.stride a.owner a.types.count c.loop-i.table c.loop-i.i (omega arith)) ∙ c.loop-i.invariant
