-- The numbers that are left, stored behind those that are there, make the whole.
use Rattle.std.specs.Prelude.{◌≡◌, ◌-◌}
use Rattle.base_words.specs.Stored.{stored}
use Rattle.test_make.specs.Pieces.{number_words}
use Rattle.test_make.proofs.numbers.Given as goal

abbrev pub invariant-loop-x : goal.invariant-loop-x
invariant-loop-x l = stored l.b l.at (number_words l.x (l.end - l.x)) ≡ stored l.initial.b l.i (number_words l.first (l.end - l.first))
