use mathlib.Core.Path.{refl}
use Rattle.build_table.specs.Table.{rooted}
use Rattle.build_table.proofs.put_root.Goals as goal

pub returns : goal.returns
unfolding rooted
returns c = refl
