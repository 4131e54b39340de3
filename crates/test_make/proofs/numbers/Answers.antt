use Rattle.std.proofs.Common.{◌≡◌, sym, ◌∙◌, suc, ◌+◌, ◌-◌, arith}
use Rattle.base_words.specs.StoredLaws.{stored_nil}
use Rattle.test_make.specs.PiecesLaws.{stored_past, words_more}
use Rattle.test_make.proofs.numbers.Goals as goal

pub returns-then-b-at : goal.returns-then-b-at
returns-then-b-at c = sym (stored_past _ _ _ c.if-b-at.true) ∙ c.loop-x.invariant

pub loop-x-preserved : goal.loop-x-preserved
loop-x-preserved c =
    let one : c.args.end - c.loop-x.x ≡ suc (c.args.end - (c.loop-x.x + 1)) = omega arith in
    words_more c.loop-x.b c.loop-x.at _ _ c.word.ensures (rw one at c.loop-x.invariant)

pub returns : goal.returns
returns c =
    let none : c.args.end - c.loop-x.x ≡ 0 = omega arith in
    sym (stored_nil c.loop-x.b c.loop-x.at) ∙ (rw none at c.loop-x.invariant)
