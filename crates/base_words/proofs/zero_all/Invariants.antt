use Rattle.std.proofs.Common.{◌≡◌, ◌*◌}
use Rattle.base_words.specs.Words.{zeros}
use Rattle.base_words.specs.Stored.{stored}
use Rattle.base_words.proofs.zero_all.Given as goal

-- the blocks before k are 0
abbrev pub invariant-loop-k : goal.invariant-loop-k
invariant-loop-k l = l.b ≡ stored l.initial.b 0 (zeros (1024 * l.k))
