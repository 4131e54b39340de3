use Rattle.std.proofs.Common.{◌∙◌}
use native.Mathlib.Omega.{arith}
use Rattle.build_table.specs.ClassingLaws.{Row, row_known, copied_and_one, indexed_is}
use Rattle.build_table.proofs.put_indices.Goals as goal

pub returns : goal.returns
returns c =
    let row : Row c.args.p c.at-above.result c.at-depth.result = row_known c.requires c.at-above.ensures c.at-depth.ensures in
    let long = c.requires.ranged.long in
    copied_and_one c.args.table.now _ _ c.at-depth.result (omega arith) (omega arith) _ _ c.copy_within.ensures.after
    ∙ indexed_is c.requires c.at-above.ensures c.at-depth.ensures
