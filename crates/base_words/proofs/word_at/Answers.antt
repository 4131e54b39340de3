use native.Mathlib.Omega.{arith}
use Rattle.base_words.specs.Words.{word_at}
use Rattle.base_words.proofs.word_at.Goals as goal

pub returns : goal.returns
unfolding word_at
returns c = omega (arith, c.from_le_bytes.ensures)
