use Rattle.std.proofs.Common.{arith, rules}
use Rattle.test_make.specs.PiecesLaws.{stored_room}
use Rattle.test_make.proofs.bytes.Goals as goal

pub returns : goal.returns
returns c = stored_room _ _ _ _ _ c.min-from.ensures c.min-n.ensures _ _ (omega arith) (search rules)
