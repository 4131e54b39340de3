-- `build_file_tail::copy_pool`: i bytes of the pool are there.
use Rattle.std.proofs.Common.{◌≡◌}
use Rattle.base_words.specs.Words.{text_at}
use Rattle.base_words.specs.Stored.{stored}
use Rattle.build_file_tail.proofs.copy_pool.Given as goal

abbrev pub invariant-loop-i : goal.invariant-loop-i
invariant-loop-i l = l.tree ≡ stored l.initial.tree l.at (text_at l.sheet l.from l.i)
