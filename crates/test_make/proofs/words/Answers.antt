use Rattle.std.proofs.Common.{rules, ◌≡◌, sym, ◌∙◌}
use Rattle.std.specs.Prelude.{get_or}
use Rattle.std.proofs.lemmas.List.{drop_more, drop_all}
use Rattle.base_words.specs.Stored.{stored}
use Rattle.base_words.specs.StoredLaws.{stored_nil}
use Rattle.test_make.specs.Pieces.{low_word}
use Rattle.test_make.specs.PiecesLaws.{stored_past, words_more}
use Rattle.test_make.proofs.words.Goals as goal

pub returns-then-b-at : goal.returns-then-b-at
returns-then-b-at c = sym (stored_past _ _ _ c.if-b-at.true) ∙ c.loop-x.invariant

pub loop-x-preserved : goal.loop-x-preserved
loop-x-preserved c =
    let at_its_place : c.word.new.b ≡ stored c.loop-x.b c.loop-x.at (low_word (get_or c.args.xs.now c.loop-x.x-index 0)) = search rules in
    words_more c.loop-x.b c.loop-x.at _ _ at_its_place (rw (drop_more c.args.xs.now c.loop-x.x-index 0 c.loop-x-test.true) at c.loop-x.invariant)

pub returns : goal.returns
returns c = sym (stored_nil c.loop-x.b c.loop-x.at) ∙ (rw (drop_all c.loop-x.x-index c.args.xs.now c.loop-x-test.false) at c.loop-x.invariant)
