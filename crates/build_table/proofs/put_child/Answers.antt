use mathlib.Core.Path.{refl}
use Rattle.build_table.specs.Table.{placed}
use Rattle.build_table.proofs.put_child.Goals as goal

pub returns : goal.returns
unfolding placed
returns c = refl
