use Rattle.std.proofs.Common.{◌≡◌, arith, ◌/◌, ◌%◌}
use Rattle.base_words.specs.Words.{set_word}
use Rattle.base_words.specs.StoredLaws.{set_word_stored}
use Rattle.base_words.proofs.put_word.Goals as goal

pub returns : goal.returns
unfolding set_word
returns c =
    let v = c.args.v in
    let high : v / 256 % 256 ≡ v / 256 = omega (arith, c.ranges.v) in
    rw (c.to_le_bytes.ensures, high) (set_word_stored c.args.b.now c.args.i v)
