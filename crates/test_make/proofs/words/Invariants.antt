-- The words that are left, stored behind those that are there, make the whole.
use Rattle.std.specs.Prelude.{◌≡◌, drop}
use Rattle.base_words.specs.Stored.{stored}
use Rattle.test_make.specs.Pieces.{words_of}
use Rattle.test_make.proofs.words.Given as goal

abbrev pub invariant-loop-x : goal.invariant-loop-x
invariant-loop-x l = stored l.b l.at (words_of (drop l.x-index l.xs)) ≡ stored l.initial.b l.i (words_of l.xs)
