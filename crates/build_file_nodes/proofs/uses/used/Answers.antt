-- `build_file_nodes::uses::used` meets its contract: a class with a number keeps it, and one without gets the next, for which there is room.
use Rattle.std.proofs.Common.{arith}
use Rattle.build_file_nodes.specs.UsesLaws.{use_room}
use Rattle.build_file_nodes.proofs.uses.used.Goals as goal

pub overflow_add-more : goal.overflow_add-more
overflow_add-more c = omega (arith, use_room _ _ c.requires.0 c.requires.1 c.if-number-class-ne0.false)

pub overflow_cast-number : goal.overflow_cast-number
overflow_cast-number c = omega (arith, use_room _ _ c.requires.0 c.requires.1 c.if-number-class-ne0.false)

pub bounds-list-count : goal.bounds-list-count
bounds-list-count c = omega (arith, use_room _ _ c.requires.0 c.requires.1 c.if-number-class-ne0.false)
