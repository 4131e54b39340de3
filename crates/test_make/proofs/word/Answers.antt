use Rattle.std.proofs.Common.{List, ℕ, ap, ◌∙◌}
use Rattle.base_words.specs.Stored.{stored}
use Rattle.test_make.specs.PiecesLaws.{two_bytes}
use Rattle.test_make.proofs.word.Goals as goal

pub returns : goal.returns
returns c = c.bytes.ensures ∙ ap (λ (l : List ℕ). stored c.args.b.now c.args.i l) (two_bytes c.args.x c.to_le_bytes.ensures)
